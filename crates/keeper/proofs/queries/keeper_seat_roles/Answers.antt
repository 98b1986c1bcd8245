-- `keeper::queries::keeper_seat_roles` meets its contract: it shows the state that the block holds.
-- Assumes nothing.
use Rattle.keeper.specs.Exports.{seat_roles_block}
use Rattle.keeper.proofs.Shown.{no_state, state_shown}
use Rattle.keeper.proofs.queries.keeper_seat_roles.Goals as goal

pub returns-in_default : goal.returns-in_default
unfolding seat_roles_block
returns-in_default c = no_state _ _ _ c.in_default.ensures

pub returns : goal.returns
unfolding seat_roles_block
returns c = state_shown _ _ _ _ c.in-Some.ensures c.roles_of.ensures
