-- `keeper::queries::keeper_edge_count` meets its contract: it shows the state that the block holds.
-- Assumes nothing.
use Rattle.graph.specs.Graph.{ordinary, present, effective}
use Rattle.graph.specs.Drawing.{below, edge, edge_count}
use Rattle.keeper.specs.Exports.{edge_count_block}
use Rattle.keeper.proofs.Shown.{no_state, state_shown}
use Rattle.keeper.proofs.queries.keeper_edge_count.Goals as goal

pub returns-in_default : goal.returns-in_default
unfolding edge_count_block
returns-in_default c = no_state _ _ _ c.in_default.ensures

pub returns : goal.returns
unfolding edge_count_block edge_count edge below ordinary present effective
returns c = state_shown _ _ _ _ c.in-Some.ensures c.edge_count.ensures
