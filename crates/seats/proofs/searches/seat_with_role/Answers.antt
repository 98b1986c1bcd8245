-- `seats::searches::seat_with_role` meets its contract: it looks at one seat after the other.
-- Assumes nothing.
use borrow.Author.Rules.{rules}
use mathlib.Core.Path.{refl}
use Rattle.sets.specs.Sets.{member}
use Rattle.sets.proofs.Walking.{first_below}
use Rattle.graph.specs.Tables.{at}
use Rattle.graph.proofs.Searches.{read_first}
use Rattle.seats.specs.Seats.{seat_count}
use Rattle.seats.proofs.searches.seat_with_role.Goals as goal

pub returns : goal.returns
returns c = read_first seat_count (λ i. member c.args.role.0 (at c.args.seats.now i)) (first_below refl _ _ _ c.find.result c.find.ensures.ran (λ i b q k. search rules))
