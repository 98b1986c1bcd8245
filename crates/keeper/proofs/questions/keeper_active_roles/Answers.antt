-- `keeper::questions::keeper_active_roles` meets its contract: it shows the sitting that the block holds.
-- Assumes nothing.
use Rattle.keeper.specs.Exports.{active_roles_block}
use Rattle.keeper.proofs.Shown.{none_held, shown}
use Rattle.keeper.proofs.questions.keeper_active_roles.Goals as goal

pub returns-in_default : goal.returns-in_default
unfolding active_roles_block
returns-in_default c = none_held _ _ _ c.in_default.ensures

pub returns : goal.returns
unfolding active_roles_block
returns c = shown _ _ _ _ c.in-Some.ensures c.entry.ensures
