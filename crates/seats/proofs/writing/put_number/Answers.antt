-- `seats::writing::put_number` meets its contract: the first bytes of the number's word are put at the front.
-- Assumes nothing.
use mathlib.Core.Path.{ap, ◌∙◌}
use native.Mathlib.Omega.{arith}
use lib.ListN.{take}
use Rattle.seats.proofs.Numbers.{length-bytes_of}
use Rattle.seats.proofs.ShortNumbers.{bytes_taken}
use Rattle.seats.proofs.Written.{front_written}
use Rattle.seats.proofs.writing.put_number.Goals as goal

pub returns : goal.returns
returns c =
    let a = c.args in
    let e = c.copy_from_slice.ensures.after ∙ ap (take a.n) c.to_le_bytes.ensures ∙ bytes_taken a.n a.x (omega arith) in
    rw e (front_written a.buffer.now _ (rw length-bytes_of) (omega arith))
