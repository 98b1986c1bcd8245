-- `keeper::queries::keeper_count_yes` meets its contract: it shows the state that the block holds.
-- Assumes nothing.
use Rattle.keeper.specs.Exports.{count_yes_block}
use Rattle.keeper.proofs.Shown.{no_state, state_shown}
use Rattle.keeper.proofs.queries.keeper_count_yes.Goals as goal

pub returns-in_default : goal.returns-in_default
unfolding count_yes_block
returns-in_default c = no_state _ _ _ c.in_default.ensures

pub returns : goal.returns
unfolding count_yes_block
returns c = state_shown _ _ _ _ c.in-Some.ensures c.count_yes.ensures
