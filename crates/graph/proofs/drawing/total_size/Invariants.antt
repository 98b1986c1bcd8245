use Rattle.sets.specs.Sets.{size}
use Rattle.graph.specs.Graph.{role_count}
use Rattle.graph.specs.Tables.{at}
use Rattle.graph.proofs.Loops.{Summing}
use Rattle.graph.proofs.drawing.total_size.Given as goal

abbrev pub invariant-loop-s : goal.invariant-loop-s
invariant-loop-s l = Summing (λ s. size role_count (at l.table s)) l.yielded l.total
