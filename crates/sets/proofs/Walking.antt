-- Chains of iterators over the members of a set, and what a loop over them has seen.
-- Assumes nothing.
use mathlib.Core.Path.{◌≡◌, refl, sym, ap, ap₂, ◌∙◌, subst}
use mathlib.Core.Bool.{Bool, true, false, cond, ◌&&◌, and-true}
use mathlib.Core.List.{List, [], ◌∷◌, ◌++◌, map-id}
use Prim.Native.Nat.{ℕ, ◌<◌}
use native.Mathlib.Omega.{arith}
use lib.ListN.{length}
use lib.Dec.{T, ltb}
use denote.Param.Members.{Mut}
use denote.Ref.{Bor}
use Rattle.std.specs.Prelude.{Option, Some, None, MatchOption, ⊤}
use Rattle.std.specs.Option.{is_some}
use Rattle.std.specs.Fn.{Called, CalledAt}
use Rattle.std.specs.List.{FoldsTo, fold, find}
use Rattle.std.specs.Iterator.{YieldsFirst, YieldsThen, Yields, Drains}
use Rattle.std.specs.declared.ops.Range.{Range}
use Rattle.std.proofs.iter.Yields.{nat_range_steps}
use Rattle.std.proofs.lemmas.Iterator.{YieldsList, YieldsList-from_range}
use Rattle.std.proofs.lemmas.Iterator.Search.{any_from_yields_List, find_from_yields_List}
use Rattle.std.proofs.lemmas.Iterator.Consumers.{YieldsList-from_first, YieldsList-turn, YieldsList-end}
use Rattle.std.proofs.lemmas.Fn.{fold_over}
use Rattle.std.proofs.lemmas.List.Folds.{find-append}
use Rattle.std.proofs.lemmas.List.Sums.{fold-append}
use Rattle.std.proofs.lemmas.Iterator.Adapters.{option_map_id}
use Rattle.sets.specs.Counting.{any, lowest, ascending}
use Rattle.sets.specs.Sets.{member, single, union, when, collect, gather, members}
use Rattle.sets.specs.declared.Walk.{Walk}
use Rattle.sets.proofs.Counting.{any_cong, lowest_cong}
use Rattle.sets.proofs.Ascending.{ascending_all, find_ascending, any_members, find_members, gather_members, gather_collect, listed_member}

-- ---- any iterator, over any width

-- An iterator of any type, just begun, whose list of what is left is that of the members of s below a width, ascending.
module _ {W : Type 0} (left : W → List ℕ) (width s : ℕ) {w : W} (begun : left w ≡ members width s) where
  -- It yields the members of s.
  pub yields_along : YieldsList (YieldsFirst left) (λ n. n) w (members width s)
  yields_along = YieldsList-from_first (λ n. n) left (members width s) begun

  -- The first number is the lowest member.
  pub lowest_along : (r : Option ℕ) (u : W) → YieldsFirst left w r u → r ≡ cond (any width (λ n. member n s)) (Some (lowest width (λ n. member n s))) None
  lowest_along r u k =
      first r k ∙ find_members width s (λ n. true)
      ∙ ap₂ (λ (b : Bool) (l : ℕ). cond b (Some l) None) (any_cong width _ _ (λ n _. and-true (member n s))) (lowest_cong width _ _ (λ n _. and-true (member n s)))
    where
      first : (r : Option ℕ) → YieldsFirst left w r u → r ≡ find (λ n. true) (members width s)
      first None (e, _) = sym (ap (λ (xs : List ℕ). find (λ n. true) xs) (sym begun ∙ e))
      first (Some n) e = sym (ap (λ (xs : List ℕ). find (λ n. true) xs) (sym begun ∙ e))

  module _ {F : Type 0} {g : Mut F (ℕ × Unit {0}) Bool} where
    -- Whether some member passes.
    pub any_along : (test : ℕ → Bool) (u : W) (f : F) (r : Bool)
        → (xs : List ℕ) × (o : Option ℕ) × (j : F) × YieldsThen (YieldsFirst left) w xs o u × FoldsTo (λ p x q. Called g p (x, tt) false q) f xs j × MatchOption o (r ≡ false) (λ x. (r ≡ true) × ((h : F) × Called g j (x, tt) true h))
        → ((n : ℕ) (b : Bool) (q : F) → Called g f (n, tt) b q → (q ≡ f) × (b ≡ test n))
        → r ≡ any width (λ n. member n s && test n)
    any_along test u f r ran calls = any_from_yields_List test u f r ran yields_along calls ∙ any_members width s test

  module _ {F : Type 0} {g : Mut F (Bor ℕ × Unit {0}) Bool} where
    -- The first member that passes.
    pub first_along : (test : ℕ → Bool) (u : W) (f : F) (r : Option ℕ)
        → (xs : List ℕ) × (j : F) × YieldsThen (YieldsFirst left) w xs r u × FoldsTo (λ p x q. CalledAt g p x false q) f xs j × MatchOption r ⊤ (λ x. (h : F) × CalledAt g j x true h)
        → ((n : ℕ) (b : Bool) (q : F) → CalledAt g f n b q → (q ≡ f) × (b ≡ test n))
        → r ≡ cond (any width (λ n. member n s && test n)) (Some (lowest width (λ n. member n s && test n))) None
    first_along test u f r ran calls = sym (option_map_id r) ∙ find_from_yields_List test u f r ran yields_along calls ∙ find_members width s test

  -- What folding over the members gives is read off the values on the way, which need not be numbers.
  module _ {F C : Type 0} {g : Mut F (C × (ℕ × Unit {0})) C} (read : C → ℕ) {a : C} (empty : read a ≡ 0) where
    -- What folding a union gathers.
    pub gathered_along : (h : ℕ → ℕ) {f : F} (r : C)
        → (xs : List ℕ) × (q : F) × Drains (YieldsFirst left) w xs × FoldsTo {P = F × C} (λ b x d. Called g b.0 (b.1, (x, tt)) d.1 d.0) (f, a) xs (q, r)
        → ((b : C) (n : ℕ) (d : C) (q : F) → Called g f (b, (n, tt)) d q → (q ≡ f) × (read d ≡ union (read b) (h n)))
        → read r ≡ gather width (λ n. member n s) h
    gathered_along h {f} r ran calls =
        fold_over (YieldsFirst left) (λ n. n) g (λ ys b. read b ≡ fold (λ t n. union t (h n)) 0 ys) f
        (λ ys b n d q j k. let (same, e) = calls b n d q k in (e ∙ ap (λ (t : ℕ). union t (h n)) j ∙ sym (fold-append (λ t n. union t (h n)) 0 ys (n ∷ [])), same))
        w (members width s) a r yields_along.runs empty ran
        ∙ gather_members width s h

    -- What folding a union with those that pass collects.
    pub collected_along : (test : ℕ → Bool) {f : F} (r : C)
        → (xs : List ℕ) × (q : F) × Drains (YieldsFirst left) w xs × FoldsTo {P = F × C} (λ b x d. Called g b.0 (b.1, (x, tt)) d.1 d.0) (f, a) xs (q, r)
        → ((b : C) (n : ℕ) (d : C) (q : F) → Called g f (b, (n, tt)) d q → (q ≡ f) × (read d ≡ union (read b) (when (test n) (when (ltb n width) (single n)))))
        → read r ≡ collect width (λ n. member n s && test n)
    collected_along test {f} r ran calls = gathered_along (λ n. when (test n) (when (ltb n width) (single n))) r ran calls ∙ gather_collect width width (λ n. member n s) test (omega arith)

  -- ---- a loop over the members, which has come to a turn after the numbers xs

  -- The turn's number is a member.
  pub turn_along : (xs : List ℕ) (t u : W) (r : Option ℕ) {n : ℕ} → Yields (YieldsFirst left) w xs t → r ≡ Some n → YieldsFirst left t r u → (n < width) × T (member n s)
  turn_along xs t u r {n} y e k = let (l, same) = YieldsList-turn yields_along xs t y r u n e k in listed_member width s (length xs) l (sym same)

  -- The loop that ends has gone over all of them.
  pub all_along : (xs : List ℕ) (t u : W) (r : Option ℕ) → Yields (YieldsFirst left) w xs t → r ≡ None → YieldsFirst left t r u → xs ≡ members width s
  all_along xs t u r y e k = sym (map-id xs) ∙ (YieldsList-end yields_along xs t y r u e k).0

  -- What the loop has left is behind what it has seen.
  seen_before : (xs : List ℕ) (v t : W) → Yields (YieldsFirst left) v xs t → left v ≡ xs ++ left t
  seen_before [] v t y = ap left y
  seen_before (x ∷ xs) v t y = y.1 ∙ ap (λ (l : List ℕ). x ∷ l) (seen_before xs y.0 t y.2)

  module _ (test : ℕ → Bool) where
    -- The loop that leaves at the first member that passes has found the lowest.
    pub found_along : (xs : List ℕ) (t u : W) (r : Option ℕ) {n : ℕ} → Yields (YieldsFirst left) w xs t → r ≡ Some n → YieldsFirst left t r u → find test xs ≡ None → test n ≡ true
        → Some n ≡ cond (any width (λ n. member n s && test n)) (Some (lowest width (λ n. member n s && test n))) None
    found_along xs t u r {n} y e k none pass =
        sym (ap (find test) (sym begun ∙ seen_before xs w t y ∙ ap (λ (l : List ℕ). xs ++ l) (subst (λ (o : Option ℕ). YieldsFirst left t o u) e k)) ∙ find-append test xs (n ∷ left u) ∙ rw (none, pass) refl)
        ∙ find_members width s test

    -- The loop that ends without such a member has found none.
    pub none_along : (xs : List ℕ) (t u : W) (r : Option ℕ) → Yields (YieldsFirst left) w xs t → r ≡ None → YieldsFirst left t r u → find test xs ≡ None
        → None ≡ cond (any width (λ n. member n s && test n)) (Some (lowest width (λ n. member n s && test n))) None
    none_along xs t u r y e k none = sym none ∙ ap (find test) (all_along xs t u r y e k) ∙ find_members width s test

-- ---- a walk over the members of a set, whose width is 64

-- The members that a walk has left.
abbrev pub left : Walk → List ℕ
left w = members 64 w.rest

-- What `into_iter` makes of a walk is that walk.
pub started : {v w : Walk} {s : ℕ} → w ≡ v → v.rest ≡ s → w.rest ≡ s
started same e = ap (λ (u : Walk). u.rest) same ∙ e

-- A walk over the members of s, just begun.
module _ {s : ℕ} {w : Walk} (begun : w.rest ≡ s) where
  -- It yields the members of s.
  pub yields : YieldsList (YieldsFirst left) (λ n. n) w (members 64 s)
  yields = yields_along left 64 s (ap (members 64) begun)

  -- The first number is the lowest member.
  pub lowest_first : (r : Option ℕ) (u : Walk) → YieldsFirst left w r u → r ≡ cond (any 64 (λ n. member n s)) (Some (lowest 64 (λ n. member n s))) None
  lowest_first = lowest_along left 64 s (ap (members 64) begun)

  module _ {F : Type 0} {g : Mut F (ℕ × Unit {0}) Bool} where
    -- Whether some member passes.
    pub any_member : (test : ℕ → Bool) (u : Walk) (f : F) (r : Bool)
        → (xs : List ℕ) × (o : Option ℕ) × (j : F) × YieldsThen (YieldsFirst left) w xs o u × FoldsTo (λ p x q. Called g p (x, tt) false q) f xs j × MatchOption o (r ≡ false) (λ x. (r ≡ true) × ((h : F) × Called g j (x, tt) true h))
        → ((n : ℕ) (b : Bool) (q : F) → Called g f (n, tt) b q → (q ≡ f) × (b ≡ test n))
        → r ≡ any 64 (λ n. member n s && test n)
    any_member = any_along left 64 s (ap (members 64) begun)

  module _ {F : Type 0} {g : Mut F (Bor ℕ × Unit {0}) Bool} where
    -- The first member that passes.
    pub first_member : (test : ℕ → Bool) (u : Walk) (f : F) (r : Option ℕ)
        → (xs : List ℕ) × (j : F) × YieldsThen (YieldsFirst left) w xs r u × FoldsTo (λ p x q. CalledAt g p x false q) f xs j × MatchOption r ⊤ (λ x. (h : F) × CalledAt g j x true h)
        → ((n : ℕ) (b : Bool) (q : F) → CalledAt g f n b q → (q ≡ f) × (b ≡ test n))
        → r ≡ cond (any 64 (λ n. member n s && test n)) (Some (lowest 64 (λ n. member n s && test n))) None
    first_member = first_along left 64 s (ap (members 64) begun)

  -- What folding over the members gives is read off the values on the way, which need not be numbers.
  module _ {F C : Type 0} {g : Mut F (C × (ℕ × Unit {0})) C} (read : C → ℕ) {a : C} (empty : read a ≡ 0) where
    -- What folding a union gathers.
    pub gathered_members : (h : ℕ → ℕ) {f : F} (r : C)
        → (xs : List ℕ) × (q : F) × Drains (YieldsFirst left) w xs × FoldsTo {P = F × C} (λ b x d. Called g b.0 (b.1, (x, tt)) d.1 d.0) (f, a) xs (q, r)
        → ((b : C) (n : ℕ) (d : C) (q : F) → Called g f (b, (n, tt)) d q → (q ≡ f) × (read d ≡ union (read b) (h n)))
        → read r ≡ gather 64 (λ n. member n s) h
    gathered_members = gathered_along left 64 s (ap (members 64) begun) read empty

    -- What folding a union with those that pass collects.
    pub collected_members : (test : ℕ → Bool) {f : F} (r : C)
        → (xs : List ℕ) × (q : F) × Drains (YieldsFirst left) w xs × FoldsTo {P = F × C} (λ b x d. Called g b.0 (b.1, (x, tt)) d.1 d.0) (f, a) xs (q, r)
        → ((b : C) (n : ℕ) (d : C) (q : F) → Called g f (b, (n, tt)) d q → (q ≡ f) × (read d ≡ union (read b) (when (test n) (when (ltb n 64) (single n)))))
        → read r ≡ collect 64 (λ n. member n s && test n)
    collected_members = collected_along left 64 s (ap (members 64) begun) read empty

  -- ---- a loop over the members, which has come to a turn after the numbers xs

  -- The turn's number is a member.
  pub turn_member : (xs : List ℕ) (t u : Walk) (r : Option ℕ) {n : ℕ} → Yields (YieldsFirst left) w xs t → r ≡ Some n → YieldsFirst left t r u → (n < 64) × T (member n s)
  turn_member = turn_along left 64 s (ap (members 64) begun)

  -- The loop that ends has gone over all of them.
  pub all_seen : (xs : List ℕ) (t u : Walk) (r : Option ℕ) → Yields (YieldsFirst left) w xs t → r ≡ None → YieldsFirst left t r u → xs ≡ members 64 s
  all_seen = all_along left 64 s (ap (members 64) begun)

  module _ (test : ℕ → Bool) where
    -- The loop that leaves at the first member that passes has found the lowest.
    pub found_here : (xs : List ℕ) (t u : Walk) (r : Option ℕ) {n : ℕ} → Yields (YieldsFirst left) w xs t → r ≡ Some n → YieldsFirst left t r u → find test xs ≡ None → test n ≡ true
        → Some n ≡ cond (any 64 (λ n. member n s && test n)) (Some (lowest 64 (λ n. member n s && test n))) None
    found_here = found_along left 64 s (ap (members 64) begun) test

    -- The loop that ends without such a member has found none.
    pub found_nowhere : (xs : List ℕ) (t u : Walk) (r : Option ℕ) → Yields (YieldsFirst left) w xs t → r ≡ None → YieldsFirst left t r u → find test xs ≡ None
        → None ≡ cond (any 64 (λ n. member n s && test n)) (Some (lowest 64 (λ n. member n s && test n))) None
    found_nowhere = none_along left 64 s (ap (members 64) begun) test

-- Whether there is one is told by what was found.
pub found_test : {b : Bool} {r : Option ℕ} (l : ℕ) → r ≡ cond b (Some l) None → is_some r ≡ b
found_test {b} l e = ap is_some e ∙ go b
  where
    go : (b : Bool) → is_some (cond b (Some l) None) ≡ b
    go true = refl
    go false = refl

-- One number more that fails.
pub still_none : (test : ℕ → Bool) (xs : List ℕ) (n : ℕ) → find test xs ≡ None → test n ≡ false → find test (xs ++ (n ∷ [])) ≡ None
still_none test xs n none fail = find-append test xs (n ∷ []) ∙ rw (none, fail) refl

-- ---- ranges
-- The numbers below n, one after another.
module _ {n : ℕ} {s : Range ℕ} (from_zero : s ≡ record { start = 0; end = n }) where
  yields_range : YieldsList nat_range_steps (λ i. i) s (ascending n (λ i. true))
  yields_range = subst (YieldsList nat_range_steps (λ i. i) s) (sym (ascending_all n)) (YieldsList-from_range 0 n n from_zero (omega arith))

  module _ {F : Type 0} {g : Mut F (Bor ℕ × Unit {0}) Bool} where
    -- The first number that passes.
    pub first_below : (test : ℕ → Bool) (u : Range ℕ) (f : F) (r : Option ℕ)
        → (xs : List ℕ) × (j : F) × YieldsThen nat_range_steps s xs r u × FoldsTo (λ p x q. CalledAt g p x false q) f xs j × MatchOption r ⊤ (λ x. (h : F) × CalledAt g j x true h)
        → ((i : ℕ) (b : Bool) (q : F) → CalledAt g f i b q → (q ≡ f) × (b ≡ test i))
        → r ≡ cond (any n test) (Some (lowest n test)) None
    first_below test u f r ran calls = sym (option_map_id r) ∙ find_from_yields_List test u f r ran yields_range calls ∙ find_ascending n (λ i. true) test
