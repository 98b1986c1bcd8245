-- `keeper::queries::keeper_direct` meets its contract: it shows the state that the block holds.
-- Assumes nothing.
use mathlib.Core.Path.{◌∙◌}
use Rattle.graph.specs.Graph.{ordinary, present, effective}
use Rattle.graph.specs.Drawing.{below, edge, direct}
use Rattle.keeper.specs.Exports.{direct_block}
use Rattle.keeper.proofs.Shown.{no_state, state_shown}
use Rattle.keeper.proofs.queries.keeper_direct.Goals as goal

pub returns-in_default : goal.returns-in_default
unfolding direct_block
returns-in_default c = no_state _ _ _ c.in_default.ensures

pub returns : goal.returns
unfolding direct_block direct edge below ordinary present effective
returns c = state_shown _ _ _ _ c.in-Some.ensures (c.word.ensures ∙ c.direct_of.ensures)
