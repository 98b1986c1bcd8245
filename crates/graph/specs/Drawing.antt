-- Document 01, "Closing and redrawing", redrawing: the order, the edges and the direct privileges that the effective sets define.
use Rattle.std.specs.Prelude.{Bool, not, ◌&&◌, ◌||◌, ℕ, eqb}
use Rattle.sets.specs.Counting.{count, sum}
use Rattle.sets.specs.Sets.{difference, gather, collect, strictly_included}
use Rattle.order.specs.Paths.{drawn}
use Rattle.graph.specs.Graph.{Graph, role_count, min_role, max_role, ordinary, present, effective}

-- r lies below s: MinRole below all other roles, all others below MaxRole, and an ordinary role below one whose set strictly includes its own.
unfoldable pub below : Graph → ℕ → ℕ → Bool
below g r s =
    present g r
    && (present g s
    && ((eqb r min_role && not (eqb s min_role))
    || ((eqb s max_role && not (eqb r max_role))
    || ((ordinary g r && ordinary g s) && strictly_included (effective g r) (effective g s)))))

-- An edge is drawn from r to s: r is below s, and no third role lies between.
unfoldable pub edge : Graph → ℕ → ℕ → Bool
edge g r s = drawn role_count (below g) r s

-- The immediate juniors of s: the roles with a drawn edge to it.
unfoldable pub juniors : Graph → ℕ → ℕ
juniors g s = collect role_count (λ r. edge g r s)

-- The immediate seniors of r.
unfoldable pub seniors : Graph → ℕ → ℕ
seniors g r = collect role_count (λ s. edge g r s)

-- The number of drawn edges.
unfoldable pub edge_count : Graph → ℕ
edge_count g = sum role_count (λ s. count role_count (λ r. edge g r s))

-- A role's direct privileges: its effective ones that no immediate junior has.
unfoldable pub direct : Graph → ℕ → ℕ
direct g s = difference (effective g s) (gather role_count (λ r. edge g r s) (effective g))

-- A drawn graph: its ordinary roles, each role's direct privileges, and its edges from junior to senior.
pub record Drawing : Type 0 where
  pub roles : ℕ
  pub directs : ℕ → ℕ
  pub joins : ℕ → ℕ → Bool

-- The graph as drawn from its effective sets.
unfoldable pub redraw : Graph → Drawing
redraw g = record { roles = g.roles; directs = direct g; joins = edge g }

-- The roles below s.
abbrev pub roles_below : Graph → ℕ → ℕ
roles_below g s = collect role_count (λ r. below g r s)
