-- `sets::Set::when` meets its contract: the code goes by the definition's test.
-- Assumes nothing.
use mathlib.Core.Path.{◌∙◌}
use Rattle.sets.specs.Sets.{when}
use Rattle.sets.proofs.Set.when.Goals as goal

pub returns-then-test : goal.returns-then-test
unfolding when
returns-then-test g c = rw c.if-test.true

pub returns-else-test : goal.returns-else-test
unfolding when
returns-else-test g c = c.empty.ensures ∙ rw c.if-test.false
