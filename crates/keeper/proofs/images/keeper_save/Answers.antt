-- `keeper::images::keeper_save` meets its contract, by whether the image was written.
-- Assumes nothing.
use mathlib.Core.Path.{refl, ap}
use Prim.Native.Nat.{ℕ, ◌+◌}
use native.Mathlib.Omega.{arith}
use Rattle.seats.specs.Reading.{read_filled, read_answer}
use Rattle.sittings.specs.Reading.{lent}
use Rattle.keeper.specs.Block.{not_saved, save_code}
use Rattle.keeper.specs.Exports.{save_block}
use Rattle.keeper.proofs.SaveCode.{written_le, saves}
use Rattle.keeper.proofs.Shown.{no_state, state_shown}
use Rattle.keeper.proofs.images.keeper_save.Goals as goal

pub returns-in_default : goal.returns-in_default
unfolding save_block
returns-in_default c = no_state _ _ _ c.in_default.ensures

pub overflow_cast-result : goal.overflow_cast-result
unfolding read_filled
overflow_cast-result c =
    let l = written_le (lent c.in-Some.sitting).state c.args.buffer.now c.in-Ok.written refl c.in-Ok.ensures in
    record { fits = omega arith }

pub returns-in-Ok : goal.returns-in-Ok
unfolding save_block save_code read_filled
returns-in-Ok c = state_shown _ _ _ _ c.in-Some.ensures (saves (lent c.in-Some.sitting).state c.args.buffer.now refl c.in-Ok.ensures)

pub returns-in-Err : goal.returns-in-Err
unfolding read_answer save_block save_code read_filled
returns-in-Err c =
    state_shown _ _ _ _ c.in-Some.ensures
    (saves (lent c.in-Some.sitting).state c.args.buffer.now (ap (λ (k : ℕ). not_saved + k) c.code.ensures.0) c.in-Err.ensures)
