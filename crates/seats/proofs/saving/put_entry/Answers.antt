-- `saving::put_entry` meets its contract: the key, and the value's bytes behind it.
-- Assumes nothing.
use native.Mathlib.Omega.{arith}
use lib.ListN.{length-set}
use Rattle.seats.specs.ImageWork.{value_bytes}
use Rattle.seats.proofs.Numbers.{length-bytes_of}
use Rattle.seats.proofs.Written.{and_then, one_written, behind}
use Rattle.seats.proofs.saving.put_entry.Goals as goal

pub returns : goal.returns
returns g c =
    let a = c.args in
    let n = length-set a.buffer.now 0 a.key in
    let l = length-bytes_of (value_bytes g.P.Part.part) a.value in
    let w = c.put_value.ensures.0 in
    (and_then (one_written _ _ _) (behind (omega arith) w), omega (arith, w.place))
