use lib.ListN.{length}
use Rattle.sheets.proofs.RowLaws.{Taping}
use Rattle.sheets.proofs.rows.write_rows.Given as goal

abbrev pub invariant-loop-row : goal.invariant-loop-row
invariant-loop-row l = Taping l.text l.columns (length l.columns) l.initial.tape l.tape l.to l.left

abbrev pub decreases-loop-row : goal.decreases-loop-row
decreases-loop-row l = length l.left
