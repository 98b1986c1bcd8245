-- `lines::read_marks` meets its contract: the set so far, with the marks that are left, makes the whole.
-- Assumes nothing.
use native.Mathlib.Omega.{arith}
use Rattle.sheets.specs.Working.{read_as}
use Rattle.sheets.proofs.LineLaws.{marking_no, marking_next, marking_done}
use Rattle.sheets.proofs.lines.read_marks.Goals as goal

pub returns-in_err-mark : goal.returns-in_err-mark
unfolding read_as
returns-in_err-mark c = rw c.from_residual.ensures (marking_no c.loop-column.invariant (omega arith) c.in_err-mark.ensures)

pub loop-column-preserved : goal.loop-column-preserved
unfolding read_as
loop-column-preserved c = marking_next c.loop-column.invariant (omega arith) c.in_ok-mark.ensures c.with_mark-set.ensures

pub returns : goal.returns
unfolding read_as
returns c = marking_done c.loop-column.invariant (omega arith)
