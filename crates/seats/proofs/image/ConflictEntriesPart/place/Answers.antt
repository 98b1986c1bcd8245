-- A conflict's place is by its lower, then its higher privilege.
-- Assumes nothing.
use native.Mathlib.Omega.{arith}
use Rattle.seats.specs.Images.{pair_place}
use Rattle.seats.proofs.image.ConflictEntriesPart.place.Goals as goal

pub returns : goal.returns
unfolding pair_place
returns c = let e = c.from.ensures in (omega arith, omega arith)
