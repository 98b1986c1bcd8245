-- `sets::Set::meets` meets its contract: the code computes the definition.
-- Assumes nothing.
use Rattle.sets.specs.Sets.{meets}
use Rattle.sets.proofs.Set.meets.Goals as goal

pub returns : goal.returns
unfolding meets
returns g c = rw (c.is_empty.ensures, c.intersection.ensures)
