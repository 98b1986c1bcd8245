-- `seats::LentState::pair_seat_with` meets its contract: it looks at one seat after the other.
-- Assumes nothing.
use borrow.Author.Rules.{rules}
use mathlib.Core.Path.{refl}
use lib.Dec.{eqb}
use Rattle.sets.specs.Sets.{member, union, when, gather}
use Rattle.sets.proofs.Walking.{first_below}
use Rattle.graph.specs.Graph.{role_count}
use Rattle.graph.specs.Tables.{at}
use Rattle.graph.specs.Conflicts.{holds_pair}
use Rattle.graph.specs.Reading.{sets_in}
use Rattle.graph.proofs.Searches.{read_first}
use Rattle.seats.specs.Seats.{seat_count}
use Rattle.seats.proofs.LentState.pair_seat_with.Goals as goal

pub returns : goal.returns
returns c =
    let s = c.args.self in
    read_first seat_count (λ i. holds_pair (sets_in s.conflicts.now) (gather role_count (λ r. member r (union (at s.seats.now i) (when (eqb i c.args.a) c.args.added))) (at (sets_in s.graph.sets.now))))
    (first_below refl _ _ _ c.find.result c.find.ensures.ran (λ i b q k. search rules))
