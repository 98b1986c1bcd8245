use Prim.Native.Nat.{ℕ}
use Rattle.sets.proofs.Walking.{left}
use Rattle.graph.specs.Reading.{read_set}
use Rattle.seats.specs.Images.{Entry, privilege_bytes, entry_bytes}
use Rattle.seats.specs.ImageWork.{row_entries}
use Rattle.seats.proofs.Written.{Unwritten}
use Rattle.seats.proofs.MemberEntries.{left_bytes}
use Rattle.seats.proofs.saving.put_row.Given as goal

-- The conflicts of a lower privilege, by the higher one.
abbrev pub of : ℕ → ℕ → Entry
of lower n = record { key = lower; value = n }

abbrev pub invariant-loop-higher : goal.invariant-loop-higher
invariant-loop-higher l = Unwritten l.initial.buffer 0 (entry_bytes privilege_bytes (row_entries l.lower (read_set l.fn.row))) l.buffer l.n (left_bytes privilege_bytes (of l.lower) (left l.higher-iterator))
