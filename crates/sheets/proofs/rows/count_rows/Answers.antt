-- `rows::count_rows` meets its contract: the rows counted, with those that are left, make up the whole.
-- Assumes nothing.
use Rattle.sheets.specs.Working.{read_as}
use Rattle.sheets.proofs.RowLaws.{counting_bad, counting_next, counting_done, row_falls}
use Rattle.sheets.proofs.rows.count_rows.Goals as goal

pub returns-in_default : goal.returns-in_default
unfolding read_as
returns-in_default c = counting_bad c.loop-left.invariant _ c.in_default.ensures c.loop-left-test.ensures

pub loop-left-smaller : goal.loop-left-smaller
unfolding read_as
loop-left-smaller c = row_falls _ _ _ c.in-Some.ensures

pub loop-left-preserved : goal.loop-left-preserved
unfolding read_as
loop-left-preserved c = counting_next c.loop-left.invariant _ c.in-Some.ensures

pub returns : goal.returns
returns c = counting_done c.loop-left.invariant c.loop-left-test.ensures
