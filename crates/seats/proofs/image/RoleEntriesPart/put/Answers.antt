-- A role's set is stored at its number.
-- Assumes nothing.
use Rattle.seats.specs.Images.{stored}
use Rattle.seats.proofs.image.RoleEntriesPart.put.Goals as goal

pub returns : goal.returns
unfolding stored
returns c present t = rw (c.store.ensures, c.from.ensures)
