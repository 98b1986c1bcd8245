-- `keeper::queries::keeper_effective` meets its contract: it shows the state that the block holds.
-- Assumes nothing.
use mathlib.Core.Path.{◌∙◌}
use Rattle.graph.specs.Graph.{effective}
use Rattle.keeper.specs.Exports.{effective_block}
use Rattle.keeper.proofs.Shown.{no_state, state_shown}
use Rattle.keeper.proofs.queries.keeper_effective.Goals as goal

pub returns-in_default : goal.returns-in_default
unfolding effective_block
returns-in_default c = no_state _ _ _ c.in_default.ensures

pub returns : goal.returns
unfolding effective_block effective
returns c = state_shown _ _ _ _ c.in-Some.ensures (c.word.ensures ∙ c.effective_of.ensures)
