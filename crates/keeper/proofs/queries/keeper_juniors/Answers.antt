-- `keeper::queries::keeper_juniors` meets its contract: it shows the state that the block holds.
-- Assumes nothing.
use Rattle.graph.specs.Graph.{ordinary, present, effective}
use Rattle.graph.specs.Drawing.{below, edge, juniors}
use Rattle.keeper.specs.Exports.{juniors_block}
use Rattle.keeper.proofs.Shown.{no_state, state_shown}
use Rattle.keeper.proofs.queries.keeper_juniors.Goals as goal

pub returns-in_default : goal.returns-in_default
unfolding juniors_block
returns-in_default c = no_state _ _ _ c.in_default.ensures

pub returns : goal.returns
unfolding juniors_block juniors edge below ordinary present effective
returns c = state_shown _ _ _ _ c.in-Some.ensures c.juniors_of.ensures
