-- `seats::LentState::offered_seat` meets its contract: it looks at one seat after the other.
-- Assumes nothing.
use borrow.Author.Rules.{rules}
use mathlib.Core.Path.{refl}
use Rattle.sets.proofs.Walking.{first_below}
use Rattle.graph.proofs.Searches.{read_first}
use Rattle.seats.specs.Seats.{seat_count, offered_seat}
use Rattle.seats.specs.Reading.{lent}
use Rattle.seats.proofs.LentState.offered_seat.Goals as goal

pub returns : goal.returns
returns c =
    read_first seat_count (offered_seat (lent c.args.self) c.args.a.0 c.args.b.0)
    (first_below refl _ _ _ c.find.result c.find.ensures.ran (λ i b q k. search rules))
