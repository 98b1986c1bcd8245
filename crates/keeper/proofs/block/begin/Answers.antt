-- `keeper::block::begin` meets its contract: the roles and the five tables are written one behind the other.
-- Assumes nothing.
use Rattle.sittings.specs.Sittings.{begun}
use Rattle.keeper.proofs.BlockWords.{has_own, roles_put, sets_put, conflicts_put, seats_put, pairs_put, active_put, has_words}
use Rattle.keeper.proofs.block.begin.Goals as goal

pub returns : goal.returns
unfolding begun
returns c =
    let r = roles_put (has_own c.args.words.now c.told-words) c.args.state.roles in
    let s = sets_put r c.copy_from_slice.ensures.len c.copy_from_slice.ensures.after in
    let d = conflicts_put s c.copy_from_slice-2.ensures.len c.copy_from_slice-2.ensures.after in
    let t = seats_put d c.copy_from_slice-3.ensures.len c.copy_from_slice-3.ensures.after in
    let p = pairs_put t c.copy_from_slice-4.ensures.len c.copy_from_slice-4.ensures.after in
    has_words (active_put p c.copy_from_slice-5.ensures.len c.copy_from_slice-5.ensures.after)
