use Rattle.sets.specs.Sets.{union, difference}
use Rattle.graph.specs.Tables.{at}
use Rattle.graph.proofs.Loops.{Filling}
use Rattle.graph.proofs.table.exchange.Given as goal

abbrev pub invariant-loop-r : goal.invariant-loop-r
invariant-loop-r g l = Filling (λ r. union (difference (at (g.S.Set.sets_in l.initial.table) r) (g.S.Set.read l.out)) (g.S.Set.read l.put)) (at (g.S.Set.sets_in l.initial.table)) l.yielded (g.S.Set.sets_in l.table)
