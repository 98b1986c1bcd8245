-- Edges that make no circle, whatever the sets hold: a height rises along them.
-- Assumes nothing.
use mathlib.Core.Path.{subst}
use mathlib.Core.Bool.{Bool}
use mathlib.Core.Logic.{◌≢◌, ◌⊎◌, inl, inr}
use Prim.Native.Nat.{ℕ, suc, ◌+◌, ◌*◌, ◌<◌, ◌≤◌, ◌^◌}
use native.Mathlib.Omega.{arith}
use lib.Dec.{T}
use Rattle.sets.specs.Sets.{member}
use Rattle.order.specs.Paths.{StrictOrder}
use Rattle.order.proofs.Rank.{rank, rank_le, rank_lt}
use Rattle.graph.specs.Graph.{Graph, role_count, max_role, present}
use Rattle.graph.specs.Drawing.{below, edge}
use Rattle.graph.proofs.Order.{member_present, below_order, below-max, above-min, edge-below}
use Rattle.graph.specs.Working.{has_role, JoinsLaid}

module _ (g : Graph) (h : g.roles < 2 ^ role_count) where
  pub order : StrictOrder role_count (present g) (below g)
  order = below_order g h

  pub below_apart : (t r : ℕ) → T (below g t r) → t ≢ r
  below_apart t r b e = order.irreflexive r (subst (λ (i : ℕ). T (below g i r)) e b)

  pub ordinary_below : (t : ℕ) → T (member t g.roles) → 2 ≤ t → T (below g t max_role)
  ordinary_below t m l = below-max g t (member_present g t m) (omega arith)

  -- How many roles lie below.
  pub tall : ℕ → ℕ
  tall = rank role_count (below g)

  pub tall_lt : (t r : ℕ) → T (below g t r) → tall t < tall r
  unfolding tall
  tall_lt t r b = rank_lt role_count (present g) (below g) order t r b

  tall_bound : (r : ℕ) → tall r ≤ role_count
  unfolding tall
  tall_bound r = rank_le role_count (below g) r

  -- Edges that lie in the order or lead to a higher class make no circle, where the class never falls along the order.
  pub raised : (R : ℕ) (E : ℕ → ℕ → Bool) (class : ℕ → ℕ) → ((t r : ℕ) → T (below g t r) → class t ≤ class r)
      → ((t r : ℕ) → T (E t r) → T (below g t r) ⊎ (class t < class r))
      → ((t : ℕ) → T (member t R) → 2 ≤ t → T (below g t max_role) ⊎ (class t < class max_role))
      → ((t r : ℕ) → T (E t r) → T (has_role R t) × T (has_role R r) × (1 ≤ r))
      → JoinsLaid R E
  raised R E class rises each top ends = record {
    height = λ r. tall r + suc role_count * class r;
    falls = λ t r x. climb t r (each t r x);
    top = λ t m l. climb t max_role (top t m l);
    joins_from = λ t r x. (ends t r x).0;
    joins_to = λ t r x. ((ends t r x).1, (ends t r x).2);
  }
    where
      climb : (t r : ℕ) → T (below g t r) ⊎ (class t < class r) → tall t + suc role_count * class t < tall r + suc role_count * class r
      climb t r (inl b) = omega (arith, tall_lt t r b, rises t r b)
      climb t r (inr l) = omega (arith, tall_bound t)

  -- Edges that lie in the order make no circle.
  pub ordered : (R : ℕ) (E : ℕ → ℕ → Bool) → ((t : ℕ) → T (member t R) → T (member t g.roles))
      → ((t r : ℕ) → T (E t r) → T (below g t r))
      → ((t r : ℕ) → T (E t r) → T (has_role R t) × T (has_role R r))
      → JoinsLaid R E
  ordered R E old lies ends =
      raised R E (λ _. 0) (λ t r x. omega arith) (λ t r x. inl (lies t r x)) (λ t m l. inl (ordinary_below t (old t m) l))
      (λ t r x. ((ends t r x).0, (ends t r x).1, above-min g t r (lies t r x)))

  -- The drawn edges make no circle.
  pub edges_laid : JoinsLaid g.roles (edge g)
  unfolding present
  edges_laid = ordered g.roles (edge g) (λ t m. m) (edge-below g) (λ t r x. order.between_present t r (edge-below g t r x))
