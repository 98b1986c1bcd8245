use Rattle.sets.proofs.Walking.{left}
use Rattle.seats.specs.Images.{entry_bytes}
use Rattle.seats.specs.ImageWork.{value_bytes, value_of, part_entries}
use Rattle.seats.proofs.AscendingEntries.{valued}
use Rattle.seats.proofs.Written.{Unwritten}
use Rattle.seats.proofs.MemberEntries.{left_bytes}
use Rattle.seats.proofs.saving.put_table.Given as goal

abbrev pub invariant-loop-k : goal.invariant-loop-k
invariant-loop-k g l = Unwritten l.initial.buffer 0 (entry_bytes (value_bytes g.P.Part.part) (part_entries g.P.Part.part l.keys l.table)) l.buffer l.n (left_bytes (value_bytes g.P.Part.part) (valued (value_of g.P.Part.part l.table)) (left l.k-iterator))
