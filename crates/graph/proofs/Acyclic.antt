-- Going down along juniors where it ends: closing solves the paper's equation, and the number of roles below falls from senior to junior.
-- Assumes nothing.
use mathlib.Core.Path.{◌≡◌, sym, subst}
use mathlib.Core.Logic.{inl, inr}
use mathlib.Core.List.{List}
use Prim.Native.Nat.{ℕ, zero, suc, ◌<◌}
use native.Mathlib.Omega.{arith}
use lib.Dec.{T}
use Rattle.sets.specs.Sets.{member, union, size, gather}
use Rattle.sets.proofs.Counting.{count-lt}
use Rattle.sets.proofs.Members.{in_union, union_left, union_right, in_empty, in_gather, gather_in}
use Rattle.graph.specs.Tables.{at}
use Rattle.graph.specs.Graph.{role_count}
use Rattle.graph.specs.Closing.{gathered}
use Rattle.graph.specs.Working.{Ending, closed_set, roles_under, number_below}
use Rattle.graph.proofs.Gathering.{equation}

-- A role's closed set is its direct privileges joined with the closed sets of its juniors.
pub closed_set_equation : (directs juniors : List ℕ) → Ending juniors → (r : ℕ) → r < role_count
    → closed_set directs juniors r ≡ union (at directs r) (gather role_count (λ t. member t (at juniors r)) (closed_set directs juniors))
unfolding closed_set
closed_set_equation directs juniors ending r l = equation (at directs) (λ t r. member t (at juniors r)) ending.height ending.falls r l

module _ (juniors : List ℕ) (ending : Ending juniors) where
  -- The roles below r are its juniors and the roles below these.
  under_equation : (r : ℕ) → r < role_count
      → roles_under juniors r ≡ union (at juniors r) (gather role_count (λ t. member t (at juniors r)) (roles_under juniors))
  unfolding roles_under
  under_equation = closed_set_equation juniors juniors ending

  junior_under : (t r : ℕ) → r < role_count → T (member t (at juniors r)) → T (member t (roles_under juniors r))
  junior_under t r l m = subst (λ (s : ℕ). T (member t s)) (sym (under_equation r l)) (union_left t _ _ m)

  -- What lies below a junior of r lies below r.
  under_junior : (p t r : ℕ) → t < role_count → r < role_count → T (member t (at juniors r)) → T (member p (roles_under juniors t)) → T (member p (roles_under juniors r))
  under_junior p t r h l m u =
      subst (λ (s : ℕ). T (member p s)) (sym (under_equation r l))
      (union_right p _ _ (gather_in p role_count (λ t. member t (at juniors r)) (roles_under juniors) t h m u))

  -- What lies below r is lower.
  lower : (n p r : ℕ) → p < role_count → r < role_count → T (member p (gathered (at juniors) (λ t r. member t (at juniors r)) n r)) → ending.height p < ending.height r
  unfolding gathered
  lower zero p r k l m = absurd (in_empty p m)
  lower (suc n) p r k l m =
      elim (in_union p (at juniors r) (gather role_count (λ t. member t (at juniors r)) (gathered (at juniors) (λ t r. member t (at juniors r)) n)) m) [
        | inl x ↦ ending.falls p r k l x
        | inr x ↦ (
            let (t, h, j, y) = in_gather p role_count (λ t. member t (at juniors r)) (gathered (at juniors) (λ t r. member t (at juniors r)) n) x in
            let a = lower n p t k h y in
            let b = ending.falls t r h l j in
            omega arith)
      ]

  -- No role lies below itself.
  no_return : (r : ℕ) → r < role_count → T (member r (roles_under juniors r)) → ⊥
  unfolding roles_under closed_set
  no_return r l m = let a = lower role_count r r l l m in omega arith

  -- Fewer roles lie below a junior: those below it lie below its senior, and it does so itself.
  pub number_below_falls : (t r : ℕ) → t < role_count → r < role_count → T (member t (at juniors r)) → number_below juniors t < number_below juniors r
  unfolding number_below size
  number_below_falls t r h l m =
      count-lt role_count (λ n. member n (roles_under juniors t)) (λ n. member n (roles_under juniors r))
      (λ p _. under_junior p t r h l m) t h (junior_under t r l m) (no_return t h)
