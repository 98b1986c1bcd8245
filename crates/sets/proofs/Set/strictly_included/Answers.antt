-- `sets::Set::strictly_included` meets its contract: the two tests are those of the definition.
-- Assumes nothing.
use Rattle.sets.specs.Sets.{strictly_included}
use Rattle.sets.proofs.Set.strictly_included.Goals as goal

pub returns-then-included : goal.returns-then-included
unfolding strictly_included
returns-then-included g c = rw (← c.included.ensures, c.if-included.true, c.same.ensures)

pub returns-else-included : goal.returns-else-included
unfolding strictly_included
returns-else-included g c = rw (← c.included.ensures, c.if-included.false)
