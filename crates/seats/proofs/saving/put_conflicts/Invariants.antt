use Rattle.graph.specs.Graph.{privilege_count}
use Rattle.graph.specs.Reading.{sets_in}
use Prim.Native.Nat.{◌≤◌}
use Rattle.seats.specs.Images.{privilege_bytes, entry_bytes}
use Rattle.seats.specs.ImageWork.{pair_entries}
use Rattle.seats.proofs.Written.{Unwritten}
use Rattle.seats.proofs.MemberEntries.{rows_from}
use Rattle.seats.proofs.saving.put_conflicts.Given as goal

abbrev pub invariant-loop-lower : goal.invariant-loop-lower
invariant-loop-lower l = (l.lower ≤ privilege_count) × Unwritten l.initial.buffer 0 (entry_bytes privilege_bytes (pair_entries (sets_in l.conflicts))) l.buffer l.n (entry_bytes privilege_bytes (rows_from (sets_in l.conflicts) l.lower))
