use Prim.Native.Nat.{◌-◌}
use Rattle.graph.specs.Graph.{privilege_count}
use Rattle.sheets.proofs.ColumnLaws.{Gathering}
use Rattle.sheets.proofs.lines.read_columns.Given as goal

abbrev pub invariant-loop-number : goal.invariant-loop-number
invariant-loop-number l = Gathering l.text l.array l.count l.low l.left

abbrev pub decreases-loop-number : goal.decreases-loop-number
decreases-loop-number l = privilege_count - l.count
