-- `keeper::queries::keeper_seat_holds` meets its contract: it shows the state that the block holds.
-- Assumes nothing.
use mathlib.Core.Path.{◌∙◌}
use Rattle.keeper.specs.Exports.{held_block}
use Rattle.keeper.proofs.Shown.{no_state, state_shown}
use Rattle.keeper.proofs.queries.keeper_seat_holds.Goals as goal

pub returns-in_default : goal.returns-in_default
unfolding held_block
returns-in_default c = no_state _ _ _ c.in_default.ensures

pub returns : goal.returns
unfolding held_block
returns c = state_shown _ _ _ _ c.in-Some.ensures (c.word.ensures ∙ c.held_by.ensures)
