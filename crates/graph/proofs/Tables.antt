-- The laws of tables: what an entry is, and what putting a member in or taking one out changes.
-- Assumes nothing.
use mathlib.Core.Path.{◌≡◌, refl, sym, ap, ◌∙◌, subst}
use mathlib.Core.Bool.{not, ◌&&◌, ◌||◌, and-true, or-false}
use mathlib.Core.Logic.{◌≢◌}
use mathlib.Core.List.{List}
use Prim.Native.Nat.{ℕ, zero, suc, ◌+◌, ◌<◌, ◌≤◌, ◌^◌}
use native.Mathlib.Nat.{not-suc-le-zero, zero-add, add-zero}
use native.Mathlib.Omega.{arith}
use native.Mathlib.Decide.{ℕ_discrete, dec_lt}
use lib.ListN.{length, set, length-set, replicate, get_or-eq_default}
use lib.Seq.{get_or-set_same, get_or-set_other, ext_get_or}
use lib.Dec.{T, eqb, eqb_refl}
use Rattle.sets.specs.Sets.{member, single, union, difference}
use Rattle.sets.proofs.Tests.{passes, fails, test_equal}
use Rattle.sets.proofs.Laws.{member-union, member-difference, member-single, union-lt, difference-lt, single-lt}
use Rattle.sets.proofs.Members.{in_empty}
use Rattle.graph.specs.Tables.{at, table_from, table, put, take_out}
use Rattle.graph.specs.Invariants.{Table}

-- ---- the table of a function
length-from : (i n : ℕ) (f : ℕ → ℕ) → length (table_from i n f) ≡ n
unfolding table_from
length-from i zero f = refl
length-from i (suc n) f = ap suc (length-from (suc i) n f)

pub length-table : (n : ℕ) (f : ℕ → ℕ) → length (table n f) ≡ n
unfolding table
length-table n f = length-from 0 n f

at-from : (i n k : ℕ) (f : ℕ → ℕ) → k < n → at (table_from i n f) k ≡ f (i + k)
unfolding table_from at
at-from i zero k f l = absurd (not-suc-le-zero l)
at-from i (suc n) zero f l = ap f (sym (add-zero i))
at-from i (suc n) (suc k) f l = at-from (suc i) n k f (omega arith) ∙ ap f (omega arith)

-- Entry k of the table of f is f k.
pub at-table : (n k : ℕ) (f : ℕ → ℕ) → k < n → at (table n f) k ≡ f k
unfolding table
at-table n k f l = at-from 0 n k f l ∙ ap f (zero-add k)

-- ---- any table
-- Beyond its end a table has 0.
pub at_end : (l : List ℕ) (r : ℕ) → length l ≤ r → at l r ≡ 0
unfolding at
at_end l r h = get_or-eq_default l 0 h

pub at-replicate : (n r : ℕ) → at (replicate n 0) r ≡ 0
unfolding at
at-replicate zero r = refl
at-replicate (suc n) zero = refl
at-replicate (suc n) (suc r) = at-replicate n r

-- An entry that has a member is not beyond the end.
pub entry_in : (l : List ℕ) (i p : ℕ) → T (member p (at l i)) → i < length l
entry_in l i p m =
    elim (dec_lt i (length l)) [
      | yes h ↦ h
      | no d ↦ absurd (in_empty p (subst (λ (s : ℕ). T (member p s)) (at_end l i (omega arith)) m))
    ]

-- Two tables with the same entries are equal.
pub table_ext : (n : ℕ) (l m : List ℕ) → length l ≡ n → length m ≡ n → ((i : ℕ) → i < n → at l i ≡ at m i) → l ≡ m
unfolding at
table_ext n l m p q f = ext_get_or 0 l m (p ∙ sym q) (λ i h. f i (omega arith))

-- ---- one entry changed
module _ {n k : ℕ} {l : List ℕ} (w : Table n k l) (a b : ℕ) (h : a < n) where
  at_same : (s : ℕ) → at (set l a s) a ≡ s
  unfolding at
  at_same s = get_or-set_same l a s 0 (omega (arith, w.whole))

  at_other : (s i : ℕ) → i ≢ a → at (set l a s) i ≡ at l i
  unfolding at
  at_other s i d = get_or-set_other l a i s 0 d

  pub set_table : (s : ℕ) → s < 2 ^ k → Table n k (set l a s)
  set_table s x = record {
    whole = length-set l a s ∙ w.whole;
    entry_lt = λ i.
        elim (ℕ_discrete i a) [
          | yes e ↦ subst (λ (j : ℕ). at (set l a s) j < 2 ^ k) (sym e) (subst (λ (t : ℕ). t < 2 ^ k) (sym (at_same s)) x)
          | no d ↦ subst (λ (t : ℕ). t < 2 ^ k) (sym (at_other s i d)) (w.entry_lt i)
        ];
  }

  -- After putting b into entry a, the members are the former ones and b in a.
  pub put_test : (i p : ℕ) → member p (at (put l a b) i) ≡ member p (at l i) || (eqb i a && eqb p b)
  unfolding put
  put_test i p =
      elim (ℕ_discrete i a) [
        | yes e ↦ subst (λ (j : ℕ). member p (at (set l a s) j) ≡ member p (at l j) || (eqb j a && eqb p b)) (sym e) here
        | no d ↦ ap (member p) (at_other s i d) ∙ rw (fails (eqb i a) (λ t. d (test_equal t)), or-false)
      ]
    where
      s : ℕ
      s = union (at l a) (single b)

      here : member p (at (set l a s) a) ≡ member p (at l a) || (eqb a a && eqb p b)
      here = ap (member p) (at_same s) ∙ member-union p (at l a) (single b) ∙ rw (member-single p b, passes (eqb a a) (eqb_refl a))

  -- After taking b out of entry a, the members are the former ones but b in a.
  pub take_out_test : (i p : ℕ) → member p (at (take_out l a b) i) ≡ member p (at l i) && not (eqb i a && eqb p b)
  unfolding take_out
  take_out_test i p =
      elim (ℕ_discrete i a) [
        | yes e ↦ subst (λ (j : ℕ). member p (at (set l a s) j) ≡ member p (at l j) && not (eqb j a && eqb p b)) (sym e) here
        | no d ↦ ap (member p) (at_other s i d) ∙ rw (fails (eqb i a) (λ t. d (test_equal t)), and-true)
      ]
    where
      s : ℕ
      s = difference (at l a) (single b)

      here : member p (at (set l a s) a) ≡ member p (at l a) && not (eqb a a && eqb p b)
      here = ap (member p) (at_same s) ∙ member-difference p (at l a) (single b) ∙ rw (member-single p b, passes (eqb a a) (eqb_refl a))

  pub put_table : b < k → Table n k (put l a b)
  unfolding put
  put_table x = set_table (union (at l a) (single b)) (union-lt k _ _ (w.entry_lt a) (single-lt k b x))

  pub take_out_table : Table n k (take_out l a b)
  unfolding take_out
  take_out_table = set_table (difference (at l a) (single b)) (difference-lt k _ _ (w.entry_lt a))
