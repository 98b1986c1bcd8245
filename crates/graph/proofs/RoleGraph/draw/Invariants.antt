use Rattle.sets.specs.Sets.{member, difference, gather}
use Rattle.graph.specs.Graph.{role_count}
use Rattle.graph.specs.Tables.{at}
use Rattle.graph.proofs.Loops.{Filling}
use Rattle.graph.proofs.RoleGraph.draw.Given as goal

abbrev pub invariant-loop-s : goal.invariant-loop-s
invariant-loop-s l = Filling (λ s. difference (at l.lower s) (gather role_count (λ r. member r (at l.lower s)) (at l.lower))) (at l.lower) l.yielded l.juniors
