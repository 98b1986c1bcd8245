-- `keeper::questions::keeper_ask_active` meets its contract: it shows the sitting that the block holds.
-- Assumes nothing.
use mathlib.Core.Path.{ap, ◌∙◌}
use Rattle.keeper.specs.Block.{code_of}
use Rattle.keeper.specs.Exports.{ask_active_block}
use Rattle.keeper.proofs.Shown.{none_held, shown}
use Rattle.keeper.proofs.questions.keeper_ask_active.Goals as goal

pub returns-in_default : goal.returns-in_default
unfolding ask_active_block
returns-in_default c = none_held _ _ _ c.in_default.ensures

pub returns : goal.returns
unfolding ask_active_block
returns c = shown _ _ _ _ c.in-Some.ensures (c.ask_code.ensures ∙ ap code_of c.ask_active.ensures)
