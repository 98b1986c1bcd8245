-- `keeper::queries::keeper_may` meets its contract: it shows the state that the block holds; a number that no record carries is above the seats' and the privileges'.
-- Assumes nothing.
use mathlib.Core.Path.{sym, ap, ◌∙◌}
use native.Mathlib.Omega.{arith}
use Rattle.seats.specs.Asks.{is_yes}
use Rattle.keeper.specs.Exports.{may_block}
use Rattle.keeper.proofs.Asking.{yes_asked, no_seat, no_privilege}
use Rattle.keeper.proofs.Shown.{no_state, state_shown}
use Rattle.keeper.proofs.queries.keeper_may.Goals as goal

pub returns-in_default : goal.returns-in_default
unfolding may_block
returns-in_default c = no_state _ _ _ c.in_default.ensures

pub returns-then-seat-gt255 : goal.returns-then-seat-gt255
unfolding may_block
returns-then-seat-gt255 c = state_shown _ _ _ _ c.in-Some.ensures (sym (no_seat _ _ _ (omega (arith, c.if-seat-gt255.true))))

pub returns-then-privilege-gt255 : goal.returns-then-privilege-gt255
unfolding may_block
returns-then-privilege-gt255 c =
    state_shown _ _ _ _ c.in-Some.ensures (sym (no_privilege _ _ _ (omega (arith, c.if-privilege-gt255.true))))

pub returns : goal.returns
unfolding may_block
returns c = state_shown _ _ _ _ c.in-Some.ensures (c.unwrap_or.ensures ∙ yes_asked c.ask.result ∙ ap is_yes c.ask.ensures)
