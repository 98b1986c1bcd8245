-- `sets::Set::intersection` meets its contract: the code computes the definition.
-- Assumes nothing.
use borrow.Author.Rules.{rules}
use Rattle.sets.specs.Sets.{intersection}
use Rattle.sets.proofs.Set.intersection.Goals as goal

pub returns : goal.returns
unfolding intersection
returns g c = search rules
