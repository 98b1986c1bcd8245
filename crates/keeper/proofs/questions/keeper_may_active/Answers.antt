-- `keeper::questions::keeper_may_active` meets its contract: it shows the sitting that the block holds; a number that is no byte is above the seats' and the privileges'.
-- Assumes nothing.
use mathlib.Core.Path.{sym}
use native.Mathlib.Omega.{arith}
use Rattle.keeper.specs.Exports.{may_active_block}
use Rattle.keeper.proofs.Asking.{question_no_seat, question_no_privilege}
use Rattle.keeper.proofs.Shown.{none_held, shown}
use Rattle.keeper.proofs.questions.keeper_may_active.Goals as goal

pub returns-in_default : goal.returns-in_default
unfolding may_active_block
returns-in_default c = none_held _ _ _ c.in_default.ensures

pub returns-then-seat-gt255 : goal.returns-then-seat-gt255
unfolding may_active_block
returns-then-seat-gt255 c = shown _ _ _ _ c.in-Some.ensures (sym (question_no_seat _ _ _ (omega (arith, c.if-seat-gt255.true))))

pub returns-then-privilege-gt255 : goal.returns-then-privilege-gt255
unfolding may_active_block
returns-then-privilege-gt255 c =
    shown _ _ _ _ c.in-Some.ensures (sym (question_no_privilege _ _ _ (omega (arith, c.if-privilege-gt255.true))))

pub returns : goal.returns
unfolding may_active_block
returns c = shown _ _ _ _ c.in-Some.ensures c.may_active.ensures
