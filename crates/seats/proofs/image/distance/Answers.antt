-- `seats::image::distance` meets its contract: it is the definition's sum.
-- Assumes nothing.
use borrow.Author.Rules.{rules}
use mathlib.Core.Path.{refl}
use Rattle.seats.specs.Images.{distance}
use Rattle.seats.proofs.image.distance.Goals as goal

pub returns : goal.returns
unfolding distance
returns c = (refl, search rules)
