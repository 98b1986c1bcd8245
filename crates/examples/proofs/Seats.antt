-- Document 01, refusals that concern seats, and "Misreadings", on the bench graph.
-- Assumes nothing.
use mathlib.Core.Path.{◌≡◌, refl}
use mathlib.Core.Bool.{true, false}
use mathlib.Core.List.{[], ◌∷◌}
use Rattle.graph.specs.Graph.{effective}
use Rattle.graph.proofs.Examples.{set_of}
use Rattle.seats.specs.Seats.{State}
use Rattle.seats.specs.Calls.{accepted, answered, refused}
use Rattle.seats.specs.Lists.{answers, end}
use Rattle.seats.specs.Computes.{computes}
use Rattle.seats.proofs.Examples.{plain, state_of, A, spelled_out}

-- 24 at the lowest seat; 22 and 23 of seats; 30 where a change gives a seat a pair through its roles.
seats_refuse : answers A (plain 10 9 5 ∷ plain 10 7 5 ∷ plain 3 5 1 ∷ plain 10 9 5 ∷ plain 11 9 4 ∷ plain 11 7 5 ∷ plain 12 9 5 ∷ plain 12 7 5 ∷ [])
    ≡ accepted ∷ accepted ∷ refused 24 7 ∷ refused 22 9 ∷ refused 23 9 ∷ accepted ∷ answered true ∷ answered false ∷ []
unfolding computes spelled_out
seats_refuse = refl

seat_gets_pair : answers A (plain 10 3 8 ∷ plain 10 3 9 ∷ plain 8 12 11 ∷ plain 4 8 12 ∷ []) ≡ accepted ∷ accepted ∷ accepted ∷ refused 30 3 ∷ []
unfolding computes spelled_out
seat_gets_pair = refl

-- Kind 8: the pair offered in a seat.
offered_in_seat : answers A (plain 10 3 8 ∷ plain 10 3 9 ∷ plain 8 11 9 ∷ []) ≡ accepted ∷ accepted ∷ refused 30 3 ∷ []
unfolding computes spelled_out
offered_in_seat = refl

-- ---- misreadings
-- Grants do not commute: with r {1} and s {2}, 1 to s then 3 to r, and the other way round.
unfoldable pub two_roles : State
two_roles = state_of ((1 ∷ []) ∷ (2 ∷ []) ∷ [])

one_way : effective (end two_roles (plain 4 3 1 ∷ plain 4 2 3 ∷ [])).graph 3 ≡ set_of (1 ∷ 2 ∷ 3 ∷ [])
unfolding computes spelled_out two_roles
one_way = refl

other_way : effective (end two_roles (plain 4 2 3 ∷ plain 4 3 1 ∷ [])).graph 3 ≡ set_of (1 ∷ 2 ∷ [])
unfolding computes spelled_out two_roles
other_way = refl
