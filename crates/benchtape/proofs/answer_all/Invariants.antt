-- The invariant: the program stands where the bytes read so far lead, and 64 bits count the records where there may be more.
-- The measure: how many records more 64 bits can count, or none where there are no more.
use mathlib.Core.Bool.{true, cond}
use mathlib.Core.Path.{◌≡◌}
use Prim.Native.Nat.{◌-◌, ◌^◌, ◌<◌}
use Rattle.benchtape.specs.Progress.{Reached}
use Rattle.benchtape.proofs.answer_all.Given as goal

abbrev pub invariant-loop-progress : goal.invariant-loop-progress
invariant-loop-progress l = Reached l.progress × (l.progress.more ≡ true → l.progress.count < 2 ^ 64)

abbrev pub decreases-loop-progress : goal.decreases-loop-progress
decreases-loop-progress l = cond l.progress.more (2 ^ 64 - l.progress.count) 0
