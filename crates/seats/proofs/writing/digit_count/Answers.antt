-- `writing::digit_count` meets its contract: 0 has one digit, and another number one more than its power of ten.
-- Assumes nothing.
use native.Mathlib.Omega.{arith}
use Rattle.seats.proofs.Digits.{width_small, width_power}
use Rattle.seats.proofs.writing.digit_count.Goals as goal

pub returns-in-Some : goal.returns-in-Some
returns-in-Some c =
    let e = c.in-Some.ensures in
    let w = width_power c.in-Some.power c.args.x e.power_le e.next_power_gt in
    let b = e.bound in
    omega arith

pub returns-in-None : goal.returns-in-None
returns-in-None c =
    let z = c.in-None.ensures.none in
    omega (arith, width_small c.args.x (omega arith))
