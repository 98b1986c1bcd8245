-- `lines::read_row` meets its contract: one law for each way out.
-- Assumes nothing.
use Rattle.sheets.specs.Working.{read_as, read_end}
use Rattle.sheets.proofs.LineLaws.{row_no, row_unmarked, row_open, row_read}
use Rattle.sheets.proofs.lines.read_row.Goals as goal

pub returns-in_err-role : goal.returns-in_err-role
unfolding read_as
returns-in_err-role c = rw c.from_residual.ensures (row_no _ _ _ c.in_err-role.ensures)

pub returns-in_err-set : goal.returns-in_err-set
unfolding read_as
returns-in_err-set c = rw c.from_residual-in_err-set.ensures (row_unmarked _ _ _ c.in_ok-role.ensures c.in_err-set.ensures)

pub returns-in_err-end : goal.returns-in_err-end
unfolding read_as read_end
returns-in_err-end c = rw c.from_residual-in_err-end.ensures (row_open _ _ _ c.in_ok-role.ensures c.in_ok-set.ensures c.in_err-end.ensures)

pub returns : goal.returns
unfolding read_as read_end
returns c = row_read _ _ _ c.in_ok-role.ensures c.in_ok-set.ensures c.in_ok-end.ensures
