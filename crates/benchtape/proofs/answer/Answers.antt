-- `answer` meets its contract: it is what feeding gives.
-- Assumes nothing.
use mathlib.Core.Path.{sym}
use lib.Seq.{length-take-le}
use Rattle.sittings.specs.Records.{step}
use Rattle.sittings.specs.Reading.{read_sitting}
use Rattle.seats.proofs.Feeding.{Told}
use Rattle.benchtape.proofs.Going.{fed_told, answered}
use Rattle.benchtape.proofs.answer.Goals as goal
use Rattle.benchtape.proofs.answer.Goals.{In_ok-n}

-- What feeding gives.
told : (j : In_ok-n) → Told step (read_sitting j.args.progress.sitting) j.args.progress.count j.args.bytes.now j.in_ok-n.n j.feed-fed.new.buffer (j.feed-fed.result.count, read_sitting j.feed-fed.result.sitting)
told j = fed_told j.in_ok-n.was (read_sitting j.args.progress.sitting) j.args.progress.count j.args.bytes.now _ j.feed-fed.ensures

pub slice_bounds-room-end : goal.slice_bounds-room-end
slice_bounds-room-end c = (told (goal.at.slice_bounds-room-end c).In_ok-n).within

pub slice_bounds-write_lines-end : goal.slice_bounds-write_lines-end
slice_bounds-write_lines-end c = sym (length-take-le _ _ (told (goal.at.slice_bounds-write_lines-end c).In_ok-n).within)

pub write_lines-requires : goal.write_lines-requires
write_lines-requires c = (told (goal.at.write_lines-requires c).In_ok-n).text

pub returns : goal.returns
returns c = answered (told (goal.at.returns c).In_ok-n)
