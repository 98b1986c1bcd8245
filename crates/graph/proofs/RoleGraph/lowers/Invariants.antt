use Rattle.graph.specs.Drawing.{roles_below}
use Rattle.graph.specs.Reading.{drawn_from}
use Rattle.graph.proofs.Loops.{Filling}
use Rattle.graph.proofs.RoleGraph.lowers.Given as goal

abbrev pub invariant-loop-s : goal.invariant-loop-s
invariant-loop-s l = Filling (roles_below (drawn_from l.self.roles l.self.sets.now)) (λ _. 0) l.yielded l.found
