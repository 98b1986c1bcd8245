-- `keeper::changes::put_change` meets its contract: without a pair and an active role the roles and the sets are all there is to write; otherwise what follows refuses the change and leaves the block, or is written with it.
-- Assumes nothing.
use mathlib.Core.Path.{sym, ap, ◌∙◌}
use mathlib.Core.Bool.{◌&&◌}
use native.Mathlib.Omega.{arith}
use Rattle.std.proofs.lemmas.Result.{err_from_is_err_and}
use Rattle.graph.specs.Reading.{read_change}
use Rattle.seats.specs.Calls.{accepted, refused}
use Rattle.seats.specs.Records.{all_empty}
use Rattle.seats.specs.Reading.{state_of, read_answer}
use Rattle.sittings.specs.Sittings.{Sitting}
use Rattle.sittings.specs.Reading.{sitting_of}
use Rattle.sittings.proofs.TakenCalls.{idle_change, together_change, apart_change}
use Rattle.keeper.specs.Block.{conflicts_of, seats_of, pairs_of, active_of, sitting_in}
use Rattle.keeper.proofs.BlockWords.{has_own, roles_put, sets_put, pairs_put, active_put, has_words, words_own}
use Rattle.keeper.proofs.BlockStates.{block_sized}
use Rattle.keeper.proofs.CodedAnswer.{leaves}
use Rattle.keeper.proofs.changes.put_change.Goals as goal

-- ---- nothing follows
pub returns-then-is_idle : goal.returns-then-is_idle
unfolding read_answer
returns-then-is_idle c =
    let s = c.args in
    let W = s.words.now in
    let n = block_sized W (omega arith) in
    let idle = sym (ap (λ (z : Sitting). all_empty z.pairs && all_empty z.active) c.lent.ensures) ∙ sym c.is_idle.ensures ∙ c.if-is_idle.true in
    leaves accepted (sitting_of (state_of s.roles s.sets.now (conflicts_of W) (seats_of W)) (pairs_of W) (active_of W)) (has_words (sets_put (roles_put (has_own W c.told-words) s.roles) c.copy_from_slice.ensures.len c.copy_from_slice.ensures.after))
    (idle_change (sitting_in W) (read_change s.edit) c.requires idle n.pairs n.active)

-- ---- 35 refuses it
pub returns-in_err-next : goal.returns-in_err-next
unfolding read_answer
returns-in_err-next c =
    let s = c.args in
    let W = s.words.now in
    let p = err_from_is_err_and c.from_residual.result c.from_residual.ensures.1 in
    rw (p.1, p.2)
    (leaves (refused _ _) (sitting_in W) (sym (words_own W c.told-words)) (together_change (sitting_in W) (read_change s.edit) c.requires c.follow-next.ensures.2 c.in_err-next.was))

-- ---- all is written
pub returns : goal.returns
unfolding read_answer
returns c =
    let s = c.args in
    let W = s.words.now in
    let f = c.follow-next in
    let h = state_of s.roles s.sets.now (conflicts_of W) (seats_of W) in
    let x = sets_put (roles_put (has_own W c.told-words) s.roles) c.copy_from_slice-2.ensures.len c.copy_from_slice-2.ensures.after in
    let y = pairs_put x c.copy_from_slice-3.ensures.len c.copy_from_slice-3.ensures.after in
    leaves accepted (sitting_of h f.result.pairs f.result.active) (has_words (active_put y c.copy_from_slice-4.ensures.len c.copy_from_slice-4.ensures.after))
    (apart_change (sitting_in W) (read_change s.edit) c.requires f.ensures.2 c.in_ok-next.was f.ensures.0 f.ensures.1 (block_sized W (omega arith)).pairs)
