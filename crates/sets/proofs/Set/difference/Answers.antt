-- `sets::Set::difference` meets its contract: the code computes the definition.
-- Assumes nothing.
use borrow.Author.Rules.{rules}
use Rattle.sets.specs.Sets.{difference}
use Rattle.sets.proofs.Set.difference.Goals as goal

pub returns : goal.returns
unfolding difference
returns g c = search rules
