-- What the loops over the roles in a set keep of the numbers seen so far: what was gathered, filled in or added up at them.
-- Assumes nothing.
use mathlib.Core.Path.{◌≡◌, refl, sym, ap, ◌∙◌}
use mathlib.Core.Bool.{Bool, true, false, cond, or-true, or-false}
use mathlib.Core.Logic.{◌≢◌}
use mathlib.Core.List.{List, [], ◌∷◌, ◌++◌}
use Prim.Native.Nat.{ℕ, zero, suc, ◌+◌, ◌*◌, ◌<◌, ◌≤◌, ◌^◌}
use native.Mathlib.Decide.{ℕ_discrete}
use native.Mathlib.Omega.{arith}
use lib.Dec.{eqb}
use lib.ListN.{length, set, length-set}
use lib.Seq.{get_or-set_same, get_or-set_other}
use Rattle.std.specs.Prelude.{Option, Some}
use Rattle.std.specs.Iterator.{YieldsFirst, Yields}
use Rattle.std.specs.List.{fold}
use Rattle.std.proofs.lemmas.Iterator.Consumers.{YieldsList-turn}
use Rattle.std.proofs.lemmas.List.{length-append}
use Rattle.std.proofs.lemmas.List.Sums.{fold-append}
use Rattle.sets.specs.Counting.{sum, ascending}
use Rattle.sets.specs.Sets.{member, union, gather, members}
use Rattle.sets.specs.declared.Walk.{Walk}
use Rattle.sets.proofs.Tests.{passes, fails, equal_test, test_equal}
use Rattle.sets.proofs.Ascending.{gather_members, sum_members, seen, seen_none, seen_more, seen_members}
use Rattle.sets.proofs.Walking.{left, yields}
use Rattle.graph.specs.Graph.{role_count}
use Rattle.graph.specs.Tables.{at, table}
use Rattle.graph.proofs.Tables.{length-table, at-table, table_ext}

-- ---- gathering the sets of the members
-- What is gathered is the union of f over the numbers seen.
pub record Gathering (f : ℕ → ℕ) (xs : List ℕ) (acc : ℕ) : Type 0 where
  pub got : acc ≡ fold (λ t n. union t (f n)) 0 xs

pub gathering_none : (f : ℕ → ℕ) → Gathering f [] 0
gathering_none f = record { got = refl }

-- One turn puts the set of n in.
pub gathering_next : {f : ℕ → ℕ} {xs : List ℕ} {acc : ℕ} → Gathering f xs acc → (n : ℕ) {put : ℕ} → put ≡ union acc (f n) → Gathering f (xs ++ (n ∷ [])) put
gathering_next {f} {xs} c n e = record { got = e ∙ ap (λ (t : ℕ). union t (f n)) c.got ∙ sym (fold-append (λ t n. union t (f n)) 0 xs (n ∷ [])) }

pub gathering_done : {f : ℕ → ℕ} {xs : List ℕ} {acc : ℕ} (all : ℕ) → Gathering f xs acc → xs ≡ members role_count all → acc ≡ gather role_count (λ n. member n all) f
gathering_done {f} all c e = c.got ∙ ap (fold (λ t n. union t (f n)) 0) e ∙ gather_members role_count all f

-- ---- filling a table at the members
-- A table with f at the numbers seen, and as it was elsewhere.
pub record Filling (f old : ℕ → ℕ) (xs l : List ℕ) : Type 0 where
  pub whole : length l ≡ role_count
  pub got : (i : ℕ) → at l i ≡ cond (seen xs i) (f i) (old i)

pub filling_none : (f old : ℕ → ℕ) (l : List ℕ) → length l ≡ role_count → ((i : ℕ) → at l i ≡ old i) → Filling f old [] l
filling_none f old l w e = record { whole = w; got = λ i. e i ∙ sym (ap (λ (b : Bool). cond b (f i) (old i)) (seen_none i)) }

-- One turn stores the entry of n.
pub filling_next : {f old : ℕ → ℕ} {xs l : List ℕ} → Filling f old xs l → {n s : ℕ} → n < role_count → s ≡ f n → Filling f old (xs ++ (n ∷ [])) (set l n s)
unfolding at
filling_next {f} {old} {xs} {l} c {n} {s} h e = record {
  whole = length-set l n s ∙ c.whole;
  got = λ i. elim (ℕ_discrete i n) [ yes d ↦ here i d | no d ↦ there i d ];
}
  where
    here : (i : ℕ) → i ≡ n → at (set l n s) i ≡ cond (seen (xs ++ (n ∷ [])) i) (f i) (old i)
    here i d = rw (seen_more xs n i, passes (eqb n i) (equal_test (sym d)), or-true, d) (get_or-set_same l n s 0 (omega (arith, c.whole)) ∙ e)

    there : (i : ℕ) → i ≢ n → at (set l n s) i ≡ cond (seen (xs ++ (n ∷ [])) i) (f i) (old i)
    there i d = rw (seen_more xs n i, fails (eqb n i) (λ t. d (sym (test_equal t))), or-false) (get_or-set_other l n i s 0 d ∙ c.got i)

pub filling_done : {f old : ℕ → ℕ} {xs l : List ℕ} (all : ℕ) → Filling f old xs l → all < 2 ^ role_count → xs ≡ members role_count all
    → l ≡ table role_count (λ i. cond (member i all) (f i) (old i))
filling_done {f} {old} {xs} {l} all c h e =
    table_ext role_count l (table role_count (λ i. cond (member i all) (f i) (old i))) c.whole (length-table role_count _)
    (λ i k. c.got i ∙ ap (λ (b : Bool). cond b (f i) (old i)) (ap (λ (ys : List ℕ). seen ys i) e ∙ seen_members role_count all h i) ∙ sym (at-table role_count i _ k))

-- ---- filling a table from its start
-- A table whose first n entries are f's.
pub record Filled (f : ℕ → ℕ) (n : ℕ) (l : List ℕ) : Type 0 where
  pub within : n ≤ role_count
  pub whole : length l ≡ role_count
  pub got : (i : ℕ) → i < n → at l i ≡ f i

-- One turn stores the next entry.
pub filled_next : {f : ℕ → ℕ} {n : ℕ} {l : List ℕ} → Filled f n l → n < role_count → {s : ℕ} → s ≡ f n → Filled f (n + 1) (set l n s)
unfolding at
filled_next {f} {n} {l} c k {s} e = record {
  within = omega arith;
  whole = length-set l n s ∙ c.whole;
  got = λ i h.
      elim (ℕ_discrete i n) [
        | yes d ↦ rw d (get_or-set_same l n s 0 (omega (arith, c.whole)) ∙ e)
        | no d ↦ get_or-set_other l n i s 0 d ∙ c.got i (omega (arith, d))
      ];
}

pub filled_done : {f : ℕ → ℕ} {n : ℕ} {l : List ℕ} → Filled f n l → n ≡ role_count → l ≡ table role_count f
filled_done {f} {n} {l} c e =
    table_ext role_count l (table role_count f) c.whole (length-table role_count f) (λ i h. c.got i (omega arith) ∙ sym (at-table role_count i f h))

-- ---- adding up over the members
-- What is added up is the sum of f over the numbers seen.
pub record Summing (f : ℕ → ℕ) (xs : List ℕ) (acc : ℕ) : Type 0 where
  pub got : acc ≡ fold (λ t n. t + f n) 0 xs

pub summing_none : (f : ℕ → ℕ) → Summing f [] 0
summing_none f = record { got = refl }

-- One turn adds the value of n.
pub summing_next : {f : ℕ → ℕ} {xs : List ℕ} {acc : ℕ} → Summing f xs acc → (n : ℕ) {more : ℕ} → more ≡ acc + f n → Summing f (xs ++ (n ∷ [])) more
summing_next {f} {xs} c n e = record { got = e ∙ ap (λ (t : ℕ). t + f n) c.got ∙ sym (fold-append (λ t n. t + f n) 0 xs (n ∷ [])) }

pub summing_done : {f : ℕ → ℕ} {xs : List ℕ} {acc : ℕ} (all : ℕ) → Summing f xs acc → xs ≡ members role_count all → acc ≡ sum role_count (λ i. cond (member i all) (f i) 0)
summing_done {f} all c e = c.got ∙ ap (fold (λ t n. t + f n) 0) e ∙ sum_members role_count all f

-- A sum of numbers of at most role-count.
fold_bound : (f : ℕ → ℕ) → ((i : ℕ) → f i ≤ role_count) → (s : ℕ) (xs : List ℕ) → fold (λ t n. t + f n) s xs ≤ s + role_count * length xs
fold_bound f h s [] = omega arith
fold_bound f h s (n ∷ xs) = omega (arith, h n, fold_bound f h (s + f n) xs)

pub summing_bound : {f : ℕ → ℕ} {xs : List ℕ} {acc : ℕ} → Summing f xs acc → ((i : ℕ) → f i ≤ role_count) → acc ≤ role_count * length xs
summing_bound {f} {xs} c h = omega (arith, c.got, fold_bound f h 0 xs)

-- A list of numbers below n, ascending, has at most n of them.
length-ascending : (n : ℕ) (p : ℕ → Bool) → length (ascending n p) ≤ n
unfolding ascending
length-ascending zero p = omega arith
length-ascending (suc n) p = omega (arith, length-ascending n p, length-append (ascending n p) (cond (p n) (n ∷ []) []), one (p n))
  where
    one : (b : Bool) → length (cond b (n ∷ []) []) ≤ 1
    one true = omega arith
    one false = omega arith

-- At a turn fewer numbers were seen than there are roles.
pub turn_count : {s : ℕ} {w : Walk} → w.rest ≡ s → (xs : List ℕ) (t u : Walk) (r : Option ℕ) {n : ℕ} → Yields (YieldsFirst left) w xs t → r ≡ Some n → YieldsFirst left t r u → length xs < role_count
unfolding members
turn_count {s} begun xs t u r {n} y e k =
    let l = (YieldsList-turn (yields begun) xs t y r u n e k).0 in
    omega (arith, length-ascending role_count (λ i. member i s))
