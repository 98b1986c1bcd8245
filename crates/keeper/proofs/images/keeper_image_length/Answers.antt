-- `keeper::images::keeper_image_length` meets its contract, by whether the image was measured.
-- Assumes nothing.
use mathlib.Core.Path.{ap, ◌∙◌}
use Prim.Native.Nat.{ℕ, ◌+◌}
use native.Mathlib.Omega.{arith}
use Rattle.seats.specs.Reading.{read_measured, read_answer}
use Rattle.keeper.specs.Block.{not_saved, length_code}
use Rattle.keeper.specs.Exports.{image_length}
use Rattle.keeper.proofs.SaveCode.{measured_le}
use Rattle.keeper.proofs.images.keeper_image_length.Goals as goal

pub overflow_cast-result : goal.overflow_cast-result
unfolding read_measured
overflow_cast-result c =
    let l = measured_le c.args.bytes.now c.in-Ok.length c.in-Ok.ensures in
    record { fits = omega arith }

pub returns-in-Ok : goal.returns-in-Ok
unfolding image_length length_code read_measured
returns-in-Ok c = ap length_code c.in-Ok.ensures

pub returns-in-Err : goal.returns-in-Err
unfolding read_answer image_length length_code read_measured
returns-in-Err c = ap (λ (k : ℕ). not_saved + k) c.code.ensures.0 ∙ ap length_code c.in-Err.ensures
