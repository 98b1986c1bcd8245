-- `keeper::queries::keeper_is_below` meets its contract: it shows the state that the block holds.
-- Assumes nothing.
use Rattle.graph.specs.Graph.{ordinary, present, effective}
use Rattle.graph.specs.Drawing.{below}
use Rattle.keeper.specs.Exports.{below_block}
use Rattle.keeper.proofs.Shown.{no_state, state_shown}
use Rattle.keeper.proofs.queries.keeper_is_below.Goals as goal

pub returns-in_default : goal.returns-in_default
unfolding below_block
returns-in_default c = no_state _ _ _ c.in_default.ensures

pub returns : goal.returns
unfolding below_block below ordinary present effective
returns c = state_shown _ _ _ _ c.in-Some.ensures c.is_below.ensures
