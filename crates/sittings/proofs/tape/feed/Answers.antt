-- `tape::feed` meets its contract: a part whose records cannot be counted or whose lines have no room is refused, and any other run.
-- Assumes nothing.
use Prim.Native.Nat.{◌+◌, ◌^◌, ◌<◌}
use native.Mathlib.Omega.{arith}
use lib.ListN.{length}
use Rattle.seats.specs.Tape.{records}
use Rattle.seats.specs.Reading.{read_part}
use Rattle.seats.proofs.TapeRecords.{count-records}
use Rattle.seats.proofs.Feeding.{feed_uncounted, feed_refused, feed_run, test_fails, test_holds}
use Rattle.sittings.specs.Records.{step}
use Rattle.sittings.specs.Reading.{read_sitting}
use Rattle.sittings.proofs.tape.feed.Goals as goal
use Rattle.sittings.proofs.tape.feed.Goals.{Else-count-record_count}

pub returns-then-count-record_count : goal.returns-then-count-record_count
unfolding read_part
returns-then-count-record_count c =
    let s = c.args in
    let n = c.record_count.ensures in
    let k = count-records s.part.now in
    feed_uncounted step (read_sitting s.sitting) s.count s.part.now s.buffer.now (omega arith)

-- The records are counted.
counted : (e : Else-count-record_count) → let s = e.args in s.count + length (records s.part.now) < 2 ^ 64
counted e =
    let s = e.args in
    let n = e.record_count.ensures in
    let k = count-records s.part.now in
    omega arith

pub can_feed-requires : goal.can_feed-requires
can_feed-requires c = counted c

pub returns-then-not-can_feed : goal.returns-then-not-can_feed
unfolding read_part
returns-then-not-can_feed c =
    let s = c.args in
    feed_refused step (read_sitting s.sitting) s.count s.part.now s.buffer.now (counted (goal.at.returns-then-not-can_feed c).Else-count-record_count)
    (test_fails step (read_sitting s.sitting) s.count s.part.now s.buffer.now _ c.can_feed.ensures c.if-not-can_feed.true)

pub run-ran-requires : goal.run-ran-requires
run-ran-requires c = counted (goal.at.run-ran-requires c).Else-count-record_count

pub returns : goal.returns
unfolding read_part
returns c =
    let s = c.args in
    feed_run step (read_sitting s.sitting) s.count s.part.now s.buffer.now (counted (goal.at.returns c).Else-count-record_count) c.run-ran.ensures
    (test_holds step (read_sitting s.sitting) s.count s.part.now s.buffer.now _ c.can_feed.ensures c.if-not-can_feed.false c.run-ran.ensures)
