-- `keeper::queries::keeper_ask` meets its contract: it shows the state that the block holds.
-- Assumes nothing.
use mathlib.Core.Path.{ap, ◌∙◌}
use Rattle.keeper.specs.Block.{code_of}
use Rattle.keeper.specs.Exports.{ask_block}
use Rattle.keeper.proofs.Shown.{no_state, state_shown}
use Rattle.keeper.proofs.queries.keeper_ask.Goals as goal

pub returns-in_default : goal.returns-in_default
unfolding ask_block
returns-in_default c = no_state _ _ _ c.in_default.ensures

pub returns : goal.returns
unfolding ask_block
returns c = state_shown _ _ _ _ c.in-Some.ensures (c.ask_code.ensures ∙ ap code_of c.ask.ensures)
