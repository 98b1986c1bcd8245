-- The laws of the pairs without those of a role.
-- Assumes nothing.
use mathlib.Core.Path.{◌≡◌, refl, ◌∙◌, subst}
use mathlib.Core.Bool.{Bool, true, false, not, ◌&&◌, ◌||◌}
use mathlib.Core.List.{List}
use Prim.Native.Nat.{ℕ}
use native.Mathlib.Omega.{arith}
use lib.Dec.{T, eqb, ltb}
use Rattle.sets.specs.Sets.{member, single, difference, when}
use Rattle.sets.proofs.Tests.{both, and_regroup}
use Rattle.sets.proofs.Laws.{member-single, member-difference, member-when, difference-lt, when-lt}
use Rattle.graph.specs.Tables.{at}
use Rattle.graph.specs.Graph.{role_count}
use Rattle.graph.specs.Conflicts.{conflict}
use Rattle.graph.specs.Invariants.{Table, Paired}
use Rattle.graph.proofs.Tables.{entry_in}
use Rattle.sittings.specs.Calls.{without_role}
use Rattle.sittings.proofs.StillActive.{function_table, table_test}

-- A row but role a's own, without role a.
abbrev row_without : ℕ → List ℕ → ℕ → ℕ
row_without a P p = when (not (eqb p a)) (difference (at P p) (single a))

row_test : (a : ℕ) (P : List ℕ) (p q : ℕ) → member q (row_without a P p) ≡ member q (at P p) && not (eqb p a || eqb q a)
row_test a P p q = rw (member-when, member-difference, member-single) (regroup (eqb p a) (member q (at P p)) (eqb q a))
  where
    regroup : (x m y : Bool) → not x && (m && not y) ≡ m && not (x || y)
    regroup true true y = refl
    regroup true false y = refl
    regroup false m y = refl

module _ (a : ℕ) {P : List ℕ} (w : Table role_count role_count P) where
  -- The pairs that are left are those that are not of role a.
  pub without_test : (p q : ℕ) → member q (at (without_role a P) p) ≡ member q (at P p) && not (eqb p a || eqb q a)
  unfolding without_role
  without_test p q =
      table_test role_count (row_without a P) p q
      (λ m. omega (arith, entry_in P p q (both (member q (at P p)) (not (eqb p a || eqb q a)) (subst T (row_test a P p q) m)).0, w.whole))
      ∙ row_test a P p q

  pub without_conflict : (p q : ℕ) → conflict (without_role a P) p q ≡ conflict P p q && not (eqb p a || eqb q a)
  unfolding conflict
  without_conflict p q = rw (without_test p q) (and_regroup (ltb p q) (member q (at P p)) (not (eqb p a || eqb q a)))

  without_table : Table role_count role_count (without_role a P)
  unfolding without_role
  without_table = function_table role_count role_count _ (λ p. when-lt role_count _ _ (difference-lt role_count _ _ (w.entry_lt p)))

pub without_paired : (a : ℕ) {P : List ℕ} → Paired role_count P → Paired role_count (without_role a P)
without_paired a {P} w = record {
  table = without_table a w.table;
  ascending = λ p q m. w.ascending p q (both (member q (at P p)) (not (eqb p a || eqb q a)) (subst T (without_test a w.table p q) m)).0;
}
