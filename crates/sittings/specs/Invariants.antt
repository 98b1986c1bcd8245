-- What every sitting has that a list of calls leaves.
use Rattle.std.specs.Prelude.{ℕ, T}
use Rattle.graph.specs.Graph.{role_count, ordinary}
use Rattle.graph.specs.Conflicts.{conflict}
use Rattle.graph.specs.Invariants.{Table, Paired}
use Rattle.seats.specs.Seats.{seat_count}
use Rattle.seats.specs.Invariants as base
use Rattle.sittings.specs.Sittings.{Sitting, is_active, covered, together}

pub record Invariant (z : Sitting) : Type 0 where
  pub state : base.Invariant z.state
  pub paired : Paired role_count z.pairs
  -- both roles of a pair are present and ordinary
  pub pair_present : (p q : ℕ) → T (conflict z.pairs p q) → T (ordinary z.state.graph p) × T (ordinary z.state.graph q)
  pub active : Table seat_count role_count z.active
  -- an active role is present and ordinary, and an assigned role of its seat reaches it: nothing is to be switched off
  pub active_present : (i r : ℕ) → T (is_active z i r) → T (ordinary z.state.graph r)
  pub active_covered : (i r : ℕ) → T (is_active z i r) → T (covered z.state i r)
  -- no pair is joined by a path, and no seat's active roles reach both of one: refusal 35 finds nothing
  pub apart : (p q : ℕ) → T (conflict z.pairs p q) → T (together z p q) → ⊥
