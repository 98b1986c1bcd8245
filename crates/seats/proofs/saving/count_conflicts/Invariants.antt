use mathlib.Core.Path.{◌≡◌}
use Prim.Native.Nat.{◌+◌, ◌≤◌}
use lib.ListN.{length}
use Rattle.graph.specs.Graph.{privilege_count}
use Rattle.graph.specs.Reading.{sets_in}
use Rattle.seats.specs.ImageWork.{pair_entries}
use Rattle.seats.proofs.MemberEntries.{rows_from}
use Rattle.seats.proofs.saving.count_conflicts.Given as goal

abbrev pub invariant-loop-lower : goal.invariant-loop-lower
invariant-loop-lower l = (l.lower ≤ privilege_count) × (l.n + length (rows_from (sets_in l.conflicts) l.lower) ≡ length (pair_entries (sets_in l.conflicts)))
