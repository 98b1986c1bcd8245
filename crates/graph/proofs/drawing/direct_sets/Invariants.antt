use Rattle.sets.specs.Sets.{member, difference, gather}
use Rattle.graph.specs.Graph.{role_count}
use Rattle.graph.specs.Tables.{at}
use Rattle.graph.specs.Reading.{sets_in}
use Rattle.graph.proofs.Loops.{Filling}
use Rattle.graph.proofs.drawing.direct_sets.Given as goal

abbrev pub invariant-loop-s : goal.invariant-loop-s
invariant-loop-s l = Filling (λ s. difference (at (sets_in l.sets) s) (gather role_count (λ r. member r (at l.juniors s)) (at (sets_in l.sets)))) (at (sets_in l.initial.direct)) l.yielded (sets_in l.direct)
