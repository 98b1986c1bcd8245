-- `keeper::questions::keeper_is_excluded` meets its contract: it shows the sitting that the block holds.
-- Assumes nothing.
use Rattle.sittings.specs.Sittings.{excluded}
use Rattle.keeper.specs.Exports.{excluded_block}
use Rattle.keeper.proofs.Shown.{none_held, shown}
use Rattle.keeper.proofs.questions.keeper_is_excluded.Goals as goal

pub returns-in_default : goal.returns-in_default
unfolding excluded_block
returns-in_default c = none_held _ _ _ c.in_default.ensures

pub returns : goal.returns
unfolding excluded_block excluded
returns c = shown _ _ _ _ c.in-Some.ensures c.is_excluded.ensures
