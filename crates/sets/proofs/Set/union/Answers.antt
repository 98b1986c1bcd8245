-- `sets::Set::union` meets its contract: the code computes the definition.
-- Assumes nothing.
use borrow.Author.Rules.{rules}
use Rattle.sets.specs.Sets.{union}
use Rattle.sets.proofs.Set.union.Goals as goal

pub returns : goal.returns
unfolding union
returns g c = search rules
