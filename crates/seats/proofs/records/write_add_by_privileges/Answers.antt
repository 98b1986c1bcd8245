-- `seats::records::write_add_by_privileges` meets its contract: the record's bytes fill the buffer's front where there is room.
-- Assumes nothing.
use native.Mathlib.Omega.{arith}
use borrow.Author.Rules.{rules}
use Rattle.graph.specs.Reading.{read_set}
use Rattle.seats.specs.Bytes.{bytes_of}
use Rattle.seats.specs.Working.{fields_of}
use Rattle.seats.specs.Reading.{read_filled}
use Rattle.seats.proofs.Written.{and_then, one_written, placed, behind, filled, unfilled}
use Rattle.seats.proofs.RecordBytes.{length_record, add_bytes}
use Rattle.seats.proofs.records.write_add_by_privileges.Goals as goal

pub returns-then-buffer-lt-RECORD : goal.returns-then-buffer-lt-RECORD
unfolding read_filled
returns-then-buffer-lt-RECORD c =
    let t = c.if-buffer-lt-RECORD.true in
    let a = c.args in
    let l = length_record 2 (fields_of a.role.0 0 (read_set a.own) 0 0) in
    rw c.unplaced.ensures (unfilled 9 _ _ (omega arith))

pub returns : goal.returns
unfolding read_filled bytes_of
returns c =
    let a = c.args in
    let room = c.if-buffer-lt-RECORD.false in
    let l = length_record 2 (fields_of a.role.0 0 (read_set a.own) 0 0) in
    let w = and_then (one_written _ 0 _) (and_then (one_written _ _ _) (and_then (behind (search rules) c.put_number.ensures) (and_then (placed (behind (search rules) c.put_set.ensures.0)) (and_then (behind (search rules) c.put_number-2.ensures) (behind (search rules) c.put_number-3.ensures))))) in
    filled 9 _ _ (omega arith) (rw (add_bytes a.role.0 (read_set a.own)) at w)
