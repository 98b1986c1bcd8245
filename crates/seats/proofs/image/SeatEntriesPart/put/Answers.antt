-- A seat's roles are stored at its number.
-- Assumes nothing.
use Rattle.seats.specs.Images.{stored}
use Rattle.seats.proofs.image.SeatEntriesPart.put.Goals as goal

pub returns : goal.returns
unfolding stored
returns c present t = rw (c.store.ensures, c.from.ensures)
