-- What every state has that a list of calls leaves: the graph's invariants and those of the seats.
use Rattle.std.specs.Prelude.{ℕ, ◌<◌, T}
use Rattle.graph.specs.Graph.{role_count, ordinary}
use Rattle.graph.specs.Invariants.{Table, Kept}
use Rattle.seats.specs.Seats.{State, seat_count, assigned, pair_seat}

pub record Invariant (s : State) : Type 0 where
  pub graph : Kept s.graph
  pub seats : Table seat_count role_count s.seats
  -- every role of a seat is present and ordinary
  pub seated : (i r : ℕ) → T (assigned s i r) → T (ordinary s.graph r)
  -- no seat holds a declared pair: refusal 30 finds nothing
  pub seat_free : (i : ℕ) → i < seat_count → T (pair_seat s i) → ⊥
