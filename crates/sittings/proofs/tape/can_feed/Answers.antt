-- `tape::can_feed` meets its contract: the longest lines have room, or the lines are measured.
-- Assumes nothing.
use mathlib.Core.List.{[]}
use Rattle.seats.proofs.Feeding.{longest_fits, measured_fits}
use Rattle.sittings.specs.Records.{step}
use Rattle.sittings.specs.Reading.{read_sitting}
use Rattle.sittings.proofs.tape.can_feed.Goals as goal

pub returns-then-record_count-room : goal.returns-then-record_count-room
returns-then-record_count-room c =
    let s = c.args in
    longest_fits step (read_sitting s.sitting) s.count s.part.now [] s.room c.record_count.ensures c.if-record_count-room.true

pub returns : goal.returns
returns c =
    let s = c.args in
    measured_fits step (read_sitting s.sitting) s.count s.part.now _ s.room c.record_count.ensures c.if-record_count-room.false c.run.ensures
