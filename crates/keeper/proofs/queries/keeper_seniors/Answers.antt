-- `keeper::queries::keeper_seniors` meets its contract: it shows the state that the block holds.
-- Assumes nothing.
use Rattle.graph.specs.Graph.{ordinary, present, effective}
use Rattle.graph.specs.Drawing.{below, edge, seniors}
use Rattle.keeper.specs.Exports.{seniors_block}
use Rattle.keeper.proofs.Shown.{no_state, state_shown}
use Rattle.keeper.proofs.queries.keeper_seniors.Goals as goal

pub returns-in_default : goal.returns-in_default
unfolding seniors_block
returns-in_default c = no_state _ _ _ c.in_default.ensures

pub returns : goal.returns
unfolding seniors_block seniors edge below ordinary present effective
returns c = state_shown _ _ _ _ c.in-Some.ensures c.seniors_of.ensures
