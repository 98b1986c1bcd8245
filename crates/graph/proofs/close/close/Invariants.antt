use Rattle.graph.specs.Reading.{sets_in}
use Rattle.graph.proofs.Memo.{Doing}
use Rattle.graph.proofs.close.close.Given as goal

abbrev pub invariant-loop-r : goal.invariant-loop-r
invariant-loop-r l = Doing (sets_in l.directs) l.juniors l.present (sets_in l.sets) l.done l.yielded
