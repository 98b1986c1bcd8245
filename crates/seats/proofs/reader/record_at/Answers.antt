-- `reader::record_at` meets its contract: the part that it gives is the record at the place, by `part_is`, and beyond the end by `part_none`.
-- Assumes nothing.
use native.Mathlib.Omega.{arith}
use Rattle.seats.proofs.TapePlaces.{part_is, part_none}
use Rattle.seats.proofs.reader.record_at.Goals as goal

pub returns-then-e-at : goal.returns-then-e-at
returns-then-e-at c = part_none _ _ _ c.record_end-e.ensures (omega arith)

pub returns : goal.returns
returns c = part_is _ _ _ c.record_end-e.ensures (omega arith)
