-- `sets::Set::included` meets its contract: the code computes the definition.
-- Assumes nothing.
use mathlib.Core.Path.{◌∙◌}
use Rattle.sets.specs.Sets.{intersection, included}
use Rattle.sets.proofs.Set.included.Goals as goal

pub returns : goal.returns
unfolding included intersection
returns g c = c.same.ensures ∙ rw c.intersection.ensures
