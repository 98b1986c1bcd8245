-- `lines::read_heading` meets its contract: one law for each way out.
-- Assumes nothing.
use Rattle.sheets.specs.Working.{read_as, read_end}
use Rattle.sheets.proofs.ColumnLaws.{heading_no, heading_empty, heading_open, heading_read}
use Rattle.sheets.proofs.lines.read_heading.Goals as goal

pub returns-in_err-columns : goal.returns-in_err-columns
unfolding read_as
returns-in_err-columns c = rw c.from_residual.ensures (heading_no _ c.opened.ensures c.in_err-columns.ensures)

pub returns-then-is_empty : goal.returns-then-is_empty
unfolding read_as
returns-then-is_empty c = heading_empty _ c.opened.ensures c.in_ok-columns.ensures (rw c.as_slice.ensures at c.if-is_empty.ensures)

pub returns-in_err-ended : goal.returns-in_err-ended
unfolding read_as read_end
returns-in_err-ended c =
    rw c.from_residual-in_err-ended.ensures (heading_open _ c.opened.ensures c.in_ok-columns.ensures (rw c.as_slice.ensures at c.if-is_empty.ensures) c.in_err-ended.ensures)

pub returns : goal.returns
unfolding read_as read_end
returns c = heading_read _ c.opened.ensures c.in_ok-columns.ensures (rw c.as_slice.ensures at c.if-is_empty.ensures) c.in_ok-ended.ensures
