use Prim.Native.Nat.{◌+◌, ◌*◌, ◌≤◌}
use mathlib.Core.Path.{◌≡◌}
use lib.ListN.{length}
use Rattle.std.specs.Slice.Iter.{chunks_exact_rest, chunks_exact_size}
use Rattle.seats.specs.Asks.{yes_count}
use Rattle.seats.specs.Reading.{lent}
use Rattle.seats.proofs.LentState.count_yes.Given as goal

abbrev pub invariant-loop-pair : goal.invariant-loop-pair
invariant-loop-pair l =
    let s = lent l.fn.self in
    let left = chunks_exact_rest l.pair-iterator in
    (chunks_exact_size l.pair-iterator ≡ 2)
    × (2 * l.count + length left ≤ length l.fn.asks)
    × (l.count + yes_count s left ≡ yes_count s l.fn.asks)
