-- What falls is the number of roles below the role; a role's entry is one step above the gathering of its juniors.
use Prim.Native.Nat.{◌+◌, ◌*◌}
use Rattle.graph.specs.Working.{number_below}
use Rattle.graph.specs.Reading.{read_set, sets_in}
use Rattle.graph.proofs.Memo.{Joined}
use Rattle.graph.proofs.close.+close_role_gather.Given as goal

abbrev pub decreases-close_role : goal.decreases-close_role
decreases-close_role l = number_below l.juniors.now l.r * 2 + 1

abbrev pub decreases-gather : goal.decreases-gather
decreases-gather l = number_below l.juniors.now l.r * 2

abbrev pub invariant-gather-loop-t : goal.invariant-gather-loop-t
invariant-gather-loop-t l = Joined (sets_in l.directs) l.juniors l.before (sets_in l.sets) l.done (read_set l.set) l.yielded
