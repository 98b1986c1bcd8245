use Rattle.graph.specs.Tables.{at}
use Rattle.graph.proofs.Loops.{Filled}
use Rattle.graph.proofs.table.whole.Given as goal

abbrev pub invariant-loop-i : goal.invariant-loop-i
invariant-loop-i g l = Filled (at (g.S.Set.sets_in l.table)) l.i l.all
