-- `seats::saving::put_trailer` meets its contract: the four numbers are written one behind the other.
-- Assumes nothing.
use borrow.Author.Rules.{rules}
use mathlib.Core.Path.{◌≡◌}
use Prim.Native.Nat.{◌%◌}
use native.Mathlib.Omega.{arith}
use Rattle.seats.specs.Bytes.{bytes_of}
use Rattle.seats.specs.Images.{trailer}
use Rattle.seats.proofs.Written.{and_then, one_written, behind}
use Rattle.seats.proofs.saving.put_trailer.Goals as goal

pub returns : goal.returns
unfolding trailer bytes_of
returns c =
    let n = c.args.counts in
    let far = rw c.distance.ensures.0 at c.put_number.ensures in
    let r : n.roles % 256 ≡ n.roles = omega arith in
    let s : n.seats % 256 ≡ n.seats = omega arith in
    rw (r, s) (and_then far (and_then (one_written _ _ _) (and_then (one_written _ _ _) (behind (search rules) c.put_number-2.ensures))))
