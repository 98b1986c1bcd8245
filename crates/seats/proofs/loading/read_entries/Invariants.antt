use mathlib.Core.Path.{◌≡◌}
use Prim.Native.Nat.{◌/◌}
use lib.ListN.{length}
use Rattle.std.specs.Slice.Iter.{chunks_exact_rest, chunks_exact_size}
use Rattle.seats.specs.Images.{entries_at}
use Rattle.seats.specs.ImageWork.{value_bytes, part_width, table_in}
use Rattle.seats.proofs.EntryReading.{PartLeft}
use Rattle.seats.proofs.loading.read_entries.Given as goal

abbrev pub invariant-loop-entry : goal.invariant-loop-entry
invariant-loop-entry g l =
    let p = g.P.Part.part in
    let left = chunks_exact_rest l.entry-iterator in
    (chunks_exact_size l.entry-iterator ≡ part_width p)
    × (length l.table ≡ length l.initial.table)
    × PartLeft p l.present (entries_at (value_bytes p) 0 (length l.entries / part_width p) l.entries) (table_in p l.initial.table) l.low l.keys (table_in p l.table) (entries_at (value_bytes p) 0 (length left / part_width p) left)
