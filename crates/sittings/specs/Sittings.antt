-- Document 02, Item 3: what a keeper holds beside the saved state, the pairs of roles that exclude each other and the active roles of each seat.
use Rattle.std.specs.Prelude.{Bool, ◌&&◌, ◌||◌, List, ℕ, replicate}
use Rattle.sets.specs.Counting.{any}
use Rattle.sets.specs.Sets.{empty, member, collect}
use Rattle.graph.specs.Tables.{at, table}
use Rattle.graph.specs.Graph.{Graph, role_count, effective}
use Rattle.graph.specs.Conflicts.{declared}
use Rattle.graph.specs.Drawing.{below}
use Rattle.graph.specs.Refusing.{at_or_below}
use Rattle.seats.specs.Seats.{State, seat_count}
use Rattle.seats.specs.Seats as seats

-- A state, and what is not saved. Document 01's "sitting" keeps its name: what one keeper holds from its start or its last load on.
pub record Sitting : Type 0 where
  pub state : State
  -- by role number, the higher roles that it excludes
  pub pairs : List ℕ
  -- by seat number, the set of the seat's active roles
  pub active : List ℕ

-- No pair.
abbrev pub no_pairs : List ℕ
no_pairs = replicate role_count empty

-- No active role at any seat.
abbrev pub none_active : List ℕ
none_active = replicate seat_count empty

-- A sitting begins with a state, fresh or loaded, no pair and nothing active.
unfoldable pub begun : State → Sitting
begun s = record { state = s; pairs = no_pairs; active = none_active }

-- A fresh sitting.
unfoldable pub fresh : Sitting
fresh = begun seats.fresh

-- Roles p and q exclude each other.
unfoldable pub excluded : Sitting → ℕ → ℕ → Bool
excluded z p q = declared z.pairs p q

-- Role r is active at seat i.
unfoldable pub is_active : Sitting → ℕ → ℕ → Bool
is_active z i r = member r (at z.active i)

-- Some role of the set reaches role t: it is t, or t lies below it.
unfoldable pub reaches : Graph → ℕ → ℕ → Bool
reaches g roles t = any role_count (λ r. member r roles && at_or_below g t r)

-- An assigned role of seat i reaches role t.
unfoldable pub covered : State → ℕ → ℕ → Bool
covered s i t = reaches s.graph (at s.seats i) t

-- The active roles of seat i reach role t.
unfoldable pub in_use : Sitting → ℕ → ℕ → Bool
in_use z i t = reaches z.state.graph (at z.active i) t

-- Those of the roles that an assigned role of seat i reaches.
unfoldable pub still_covered : State → ℕ → ℕ → ℕ
still_covered s i roles = collect role_count (λ r. member r roles && covered s i r)

-- The active roles at every seat, without those that no assigned role of the seat reaches.
unfoldable pub still_active : State → List ℕ → List ℕ
still_active s active = table seat_count (λ i. still_covered s i (at active i))

-- Two roles are joined by a path, or both reached by one seat's active roles.
unfoldable pub together : Sitting → ℕ → ℕ → Bool
together z p q =
    let g = z.state.graph in
    (below g p q || below g q p) || any seat_count (λ i. in_use z i p && in_use z i q)

-- Role p is the lower of an excluding pair that is together.
unfoldable pub clashing : Sitting → ℕ → Bool
clashing z p = any role_count (λ q. member q (at z.pairs p) && together z p q)

-- Seat i may use privilege p by its active roles: they reach a role that has it.
unfoldable pub may_use_active : Sitting → ℕ → ℕ → Bool
may_use_active z i p = any role_count (λ t. in_use z i t && member p (effective z.state.graph t))
