-- `seats::image::counts_at_end` meets its contract: the trailer has two bytes and a number of two bytes.
-- Assumes nothing.
use native.Mathlib.Omega.{arith}
use mathlib.Core.Path.{◌≡◌, ◌∙◌}
use Prim.Native.Nat.{◌+◌, ◌-◌, ◌≤◌}
use lib.ListN.{length}
use Rattle.seats.specs.Images.{counts_at}
use Rattle.seats.proofs.Numbers.{length_sliced, number_sliced}
use Rattle.seats.proofs.ShortNumbers.{one_byte}
use Rattle.seats.proofs.image.counts_at_end.Goals as goal

pub returns : goal.returns
unfolding counts_at
returns c =
    let l = c.args.bytes.now in
    let i = length l - 2 in
    let h : i + 2 ≤ length l = omega arith in
    let two : length l - i ≡ 2 = omega arith in
    let a = c.from.ensures ∙ one_byte _ _ in
    let b = c.from-2.ensures ∙ one_byte _ _ in
    let d = c.number.ensures.0 ∙ number_sliced 2 i l h two in
    (λ i. record { roles = a i; seats = b i; conflicts = d i }, (rw c.from.ensures (c.type_inv.bytes _).fits, rw c.from-2.ensures (c.type_inv.bytes _).fits, rw (two, length_sliced 2 i l h) at c.number.ensures.1))
