use Rattle.graph.specs.Reading.{read_set}
use Rattle.sheets.proofs.LineLaws.{Marking}
use Rattle.sheets.proofs.lines.read_marks.Given as goal

abbrev pub invariant-loop-column : goal.invariant-loop-column
invariant-loop-column l = Marking l.text l.columns l.column-index (read_set l.set) l.left
