-- The numbers below n that pass, ascending: what is found, collected and counted along them.
-- Assumes nothing.
use mathlib.Core.Path.{◌≡◌, refl, sym, ap, ap₂, ◌∙◌, subst}
use mathlib.Core.Bool.{Bool, true, false, cond, not, ◌&&◌, ◌||◌, and-true, or-true, or-false, or_comm}
use mathlib.Core.Logic.{◌⊎◌, ◌≢◌, inl, inr}
use mathlib.Core.List.{List, [], ◌∷◌, ◌++◌}
use Prim.Native.Nat.{ℕ, zero, suc, ◌+◌, ◌<◌, ◌≤◌, ◌^◌}
use native.Mathlib.Nat.{lt-suc_self, le_step}
use native.Mathlib.Omega.{arith}
use borrow.Author.Tests.{eq-eqb}
use lib.ListN.{length, get_or}
use lib.Dec.{T, eqb, eqb_refl, ltb, lt→ltb}
use Rattle.std.specs.List.{list_any, find, fold, range_with_len}
use Rattle.std.specs.Option.{option_or}
use Rattle.std.proofs.lemmas.List.Folds.{list_any-append, list_any_at, find-append}
use Rattle.std.proofs.lemmas.List.Sums.{fold-append}
use Rattle.std.specs.Prelude.{Some, None}
use Rattle.sets.specs.Counting.{any, lowest, sum, ascending}
use Rattle.sets.specs.Sets.{member, single, union, when, collect, gather, lowest_member, without_lowest, members}
use Rattle.sets.proofs.Tests.{both, join, either, same_test, decide, passes, fails, test_equal}
use Rattle.std.proofs.lemmas.Nat.{or_comm as or_comm-bits}
use Rattle.sets.proofs.Laws.{union-empty, member-lt}
use Rattle.sets.proofs.Members.{in_empty}
use Rattle.sets.proofs.Walks.{some_member, member_next}
use Rattle.sets.proofs.Counting.{any-some, some-any, lowest_is, lowest-lt, lowest_first, lowest_passes}

pub ascending_cong : (n : ℕ) (f g : ℕ → Bool) → ((i : ℕ) → i < n → f i ≡ g i) → ascending n f ≡ ascending n g
unfolding ascending
ascending_cong zero f g h = refl
ascending_cong (suc n) f g h =
    ap₂ (λ (l : List ℕ) (b : Bool). l ++ cond b (n ∷ []) []) (ascending_cong n f g (λ i l. h i (le_step l))) (h n (lt-suc_self n))

-- Where none passes, there are none.
pub ascending_none : (n : ℕ) (f : ℕ → Bool) → (T (any n f) → ⊥) → ascending n f ≡ []
unfolding ascending
ascending_none zero f d = refl
ascending_none (suc n) f d =
    rw (ascending_none n f (λ t. let (i, l, p) = any-some n f t in d (some-any (suc n) f i (le_step l) p)), fails (f n) (λ t. d (some-any (suc n) f n (lt-suc_self n) t)))

-- The first is the lowest, and the others are those that differ from it.
pub ascending_first : (n : ℕ) (f : ℕ → Bool) → T (any n f) → ascending n f ≡ lowest n f ∷ ascending n (λ i. f i && not (eqb i (lowest n f)))
unfolding ascending any
ascending_first zero f t = absurd t
ascending_first (suc n) f t = elim (decide (any n f)) [ inl s ↦ before s (ascending_first n f s) | inr d ↦ alone d ]
  where
    kept : (i l : ℕ) → (i ≡ l → ⊥) → f i ≡ f i && not (eqb i l)
    kept i l d = rw (fails (eqb i l) (λ e. d (test_equal e))) (sym (and-true (f i)))

    before : T (any n f) → ascending n f ≡ lowest n f ∷ ascending n (λ i. f i && not (eqb i (lowest n f))) → ascending n f ++ cond (f n) (n ∷ []) [] ≡ lowest (suc n) f ∷ (ascending n (λ i. f i && not (eqb i (lowest (suc n) f))) ++ cond (f n && not (eqb n (lowest (suc n) f))) (n ∷ []) [])
    before s e =
        let l = lowest-lt n f s in
        let same : lowest (suc n) f ≡ lowest n f = lowest_is (suc n) f (lowest n f) (le_step l) (lowest_passes n f s) (lowest_first n f) in
        rw (same, e)
        (ap (λ (b : Bool). lowest n f ∷ (ascending n (λ i. f i && not (eqb i (lowest n f))) ++ cond b (n ∷ []) [])) (kept n (lowest n f) (λ e. omega arith)))

    last : (T (any n f) → ⊥) → T (f n)
    last d = elim (either (f n) (any n f) t) [ inl p ↦ p | inr q ↦ absurd (d q) ]

    alone : (T (any n f) → ⊥) → ascending n f ++ cond (f n) (n ∷ []) [] ≡ lowest (suc n) f ∷ (ascending n (λ i. f i && not (eqb i (lowest (suc n) f))) ++ cond (f n && not (eqb n (lowest (suc n) f))) (n ∷ []) [])
    alone d =
        let p : T (f n) = last d in
        let same : lowest (suc n) f ≡ n = lowest_is (suc n) f n (lt-suc_self n) p (λ j k q. d (some-any n f j k q)) in
        rw (same, ascending_none n f d, passes (f n) p, ascending_none n (λ i. f i && not (eqb i n)) (λ q. let (i, k, r) = any-some n (λ i. f i && not (eqb i n)) q in d (some-any n f i k (both (f i) (not (eqb i n)) r).0)), passes (eqb n n) (eqb_refl n))

-- ---- the members of a set

pub members_none : (w : ℕ) {s : ℕ} → s ≡ 0 → members w s ≡ []
unfolding members
members_none w {s} z = ascending_none w (λ n. member n s) (λ t. let (n, l, m) = any-some w (λ n. member n s) t in in_empty n (subst (λ (i : ℕ). T (member n i)) z m))

-- The lowest comes first, and then those of the set without it.
pub members_first : (w : ℕ) {s n next : ℕ} → s < 2 ^ w → s ≢ 0 → n ≡ lowest_member w s → next ≡ without_lowest w s → members w s ≡ n ∷ members w next
unfolding members lowest_member
members_first w {s} {n} {next} h some p q =
    rw (p, q)
    (ascending_first w (λ i. member i s) (some_member w s h some)
    ∙ ap (λ (l : List ℕ). lowest w (λ i. member i s) ∷ l) (ascending_cong w _ _ (λ i l. sym (member_next w s i))))

-- ---- along the numbers that pass

any_ascending : (n : ℕ) (p f : ℕ → Bool) → list_any f (ascending n p) ≡ any n (λ i. p i && f i)
unfolding ascending any
any_ascending zero p f = refl
any_ascending (suc n) p f = list_any-append f (ascending n p) (cond (p n) (n ∷ []) []) ∙ rw (any_ascending n p f) (last (p n) (any n (λ i. p i && f i)))
  where
    last : (b d : Bool) → d || list_any f (cond b (n ∷ []) []) ≡ (b && f n) || d
    last true d = ap (λ (c : Bool). d || c) (or-false (f n)) ∙ or_comm d (f n)
    last false d = or-false d

-- The first of them that passes another test.
pub find_ascending : (n : ℕ) (p f : ℕ → Bool) → find f (ascending n p) ≡ cond (any n (λ i. p i && f i)) (Some (lowest n (λ i. p i && f i))) None
unfolding ascending any
find_ascending zero p f = refl
find_ascending (suc n) p f = find-append f (ascending n p) (cond (p n) (n ∷ []) []) ∙ rw (find_ascending n p f) (go (decide (any n both_pass)))
  where
    both_pass : ℕ → Bool
    both_pass = λ i. p i && f i

    alone : (b : Bool) → find f (cond b (n ∷ []) []) ≡ cond ((b && f n) || false) (Some n) None
    alone true = ap (λ (c : Bool). cond c (Some n) None) (sym (or-false (f n)))
    alone false = refl

    go : T (any n (λ i. p i && f i)) ⊎ (T (any n (λ i. p i && f i)) → ⊥)
        → option_or (cond (any n (λ i. p i && f i)) (Some (lowest n (λ i. p i && f i))) None) (find f (cond (p n) (n ∷ []) []))
        ≡ cond ((p n && f n) || any n (λ i. p i && f i)) (Some (lowest (suc n) (λ i. p i && f i))) None
    go (inl t) =
        let q = λ (i : ℕ). p i && f i in
        let same : lowest (suc n) q ≡ lowest n q = lowest_is (suc n) q (lowest n q) (le_step (lowest-lt n q t)) (lowest_passes n q t) (lowest_first n q) in
        rw (same, passes (any n q) t, or-true)
    go (inr d) =
        let q = λ (i : ℕ). p i && f i in
        elim (decide (q n)) [
          | inl t ↦ (let same : lowest (suc n) q ≡ n = lowest_is (suc n) q n (lt-suc_self n) t (λ j k r. d (some-any n q j k r)) in rw (fails (any n q) d, alone (p n), same))
          | inr e ↦ rw (fails (any n q) d, alone (p n), fails (q n) e)
        ]

-- A union is gathered from below as it is from above.
gather_ascending : (n : ℕ) (p : ℕ → Bool) (f : ℕ → ℕ) → fold (λ s i. union s (f i)) 0 (ascending n p) ≡ gather n p f
unfolding ascending gather union when
gather_ascending zero p f = refl
gather_ascending (suc n) p f =
    fold-append (λ s i. union s (f i)) 0 (ascending n p) (cond (p n) (n ∷ []) []) ∙ rw (gather_ascending n p f) (last (p n) (gather n p f))
  where
    last : (b : Bool) (s : ℕ) → fold (λ s i. union s (f i)) s (cond b (n ∷ []) []) ≡ union (when b (f n)) s
    last true s = or_comm-bits s (f n)
    last false s = sym (or_comm-bits 0 s ∙ union-empty s)

-- Gathering the members that pass collects them; each is below a width, by which the code asks for it.
pub gather_collect : (w n : ℕ) (p f : ℕ → Bool) → n ≤ w → gather n p (λ i. when (f i) (when (ltb i w) (single i))) ≡ collect n (λ i. p i && f i)
unfolding gather collect when
gather_collect w zero p f l = refl
gather_collect w (suc n) p f l = rw (passes (ltb n w) (lt→ltb n w l), gather_collect w n p f (omega arith)) (ap (λ (s : ℕ). union s (collect n (λ i. p i && f i))) (both_ways (p n) (f n) (single n)))
  where
    both_ways : (a b : Bool) (s : ℕ) → when a (when b s) ≡ when (a && b) s
    both_ways true b s = refl
    both_ways false b s = refl

sum_ascending : (n : ℕ) (p : ℕ → Bool) (f : ℕ → ℕ) → fold (λ s i. s + f i) 0 (ascending n p) ≡ sum n (λ i. cond (p i) (f i) 0)
unfolding ascending sum
sum_ascending zero p f = refl
sum_ascending (suc n) p f = fold-append (λ s i. s + f i) 0 (ascending n p) (cond (p n) (n ∷ []) []) ∙ rw (sum_ascending n p f) (last (p n) (sum n (λ i. cond (p i) (f i) 0)))
  where
    last : (b : Bool) (s : ℕ) → fold (λ s i. s + f i) s (cond b (n ∷ []) []) ≡ cond b (f n) 0 + s
    last true s = omega arith
    last false s = omega arith

range_more : (a n : ℕ) → range_with_len a (suc n) ≡ range_with_len a n ++ ((a + n) ∷ [])
range_more a zero = let e : a ≡ a + 0 = omega arith in ap (λ (i : ℕ). i ∷ []) e
range_more a (suc n) =
    let e : a + 1 + n ≡ a + suc n = omega arith in
    ap (λ (l : List ℕ). a ∷ l) (range_more (a + 1) n) ∙ ap (λ (i : ℕ). a ∷ (range_with_len (a + 1) n ++ (i ∷ []))) e

-- All numbers below n are those of a range.
pub ascending_all : (n : ℕ) → ascending n (λ i. true) ≡ range_with_len 0 n
unfolding ascending
ascending_all zero = refl
ascending_all (suc n) =
    let e : n ≡ 0 + n = omega arith in
    ap (λ (l : List ℕ). l ++ (n ∷ [])) (ascending_all n) ∙ ap (λ (i : ℕ). range_with_len 0 n ++ (i ∷ [])) e ∙ sym (range_more 0 n)

-- ---- along the members

-- Whether some member passes.
pub any_members : (w s : ℕ) (f : ℕ → Bool) → list_any f (members w s) ≡ any w (λ n. member n s && f n)
unfolding members
any_members w s f = any_ascending w (λ n. member n s) f

-- The first member that passes.
pub find_members : (w s : ℕ) (f : ℕ → Bool) → find f (members w s) ≡ cond (any w (λ n. member n s && f n)) (Some (lowest w (λ n. member n s && f n))) None
unfolding members
find_members w s f = find_ascending w (λ n. member n s) f

-- The union of the sets of the members.
pub gather_members : (w s : ℕ) (f : ℕ → ℕ) → fold (λ t n. union t (f n)) 0 (members w s) ≡ gather w (λ n. member n s) f
unfolding members
gather_members w s f = gather_ascending w (λ n. member n s) f

-- The sum over the members.
pub sum_members : (w s : ℕ) (f : ℕ → ℕ) → fold (λ t n. t + f n) 0 (members w s) ≡ sum w (λ n. cond (member n s) (f n) 0)
unfolding members
sum_members w s f = sum_ascending w (λ n. member n s) f

-- What stands among the members is one, and below the width.
pub listed_member : (w s k : ℕ) {n : ℕ} → k < length (members w s) → get_or (members w s) k n ≡ n → (n < w) × T (member n s)
listed_member w s k {n} l e =
    let (i, h, t) = any-some w (λ i. member i s && eqb i n) (subst T (sym (sym (any_members w s (λ i. eqb i n)) ∙ list_any_at (λ i. eqb i n) (members w s) k n l (eq-eqb _ n e))) tt) in
    let (m, q) = both (member i s) (eqb i n) t in
    let same = test_equal q in
    (subst (λ (j : ℕ). j < w) same h, subst (λ (j : ℕ). T (member j s)) same m)

-- ---- what a loop over the members has seen

-- A list has the number n.
unfoldable pub seen : List ℕ → ℕ → Bool
seen xs n = list_any (λ i. eqb i n) xs

pub seen_none : (n : ℕ) → seen [] n ≡ false
unfolding seen
seen_none n = refl

-- One number more.
pub seen_more : (xs : List ℕ) (m n : ℕ) → seen (xs ++ (m ∷ [])) n ≡ seen xs n || eqb m n
unfolding seen
seen_more xs m n = list_any-append (λ i. eqb i n) xs (m ∷ []) ∙ ap (λ (b : Bool). seen xs n || b) (or-false (eqb m n))

-- Of all members each is seen, and no other number.
pub seen_members : (w s : ℕ) → s < 2 ^ w → (n : ℕ) → seen (members w s) n ≡ member n s
unfolding seen
seen_members w s h n =
    any_members w s (λ i. eqb i n)
    ∙ same_test (any w (λ i. member i s && eqb i n)) (member n s)
    (λ t. let (i, l, u) = any-some w (λ i. member i s && eqb i n) t in let (m, e) = both (member i s) (eqb i n) u in subst (λ (j : ℕ). T (member j s)) (test_equal e) m)
    (λ m. some-any w (λ i. member i s && eqb i n) n (member-lt w n s h m) (join (member n s) (eqb n n) m (eqb_refl n)))
