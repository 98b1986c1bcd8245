use lib.ListN.{length}
use Rattle.sheets.proofs.RowLaws.{Counting}
use Rattle.sheets.proofs.rows.count_rows.Given as goal

abbrev pub invariant-loop-left : goal.invariant-loop-left
invariant-loop-left l = Counting l.text (length l.columns) l.n l.left

abbrev pub decreases-loop-left : goal.decreases-loop-left
decreases-loop-left l = length l.left
