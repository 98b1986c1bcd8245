-- `keeper::requests::switch_off` meets its contract: the word of the seat that kind 11 names is stored, and any other request leaves the block.
-- Assumes nothing.
use mathlib.Core.Path.{sym, ap, ap₂, ◌∙◌}
use mathlib.Core.List.{List}
use Prim.Native.Nat.{ℕ}
use lib.ListN.{set}
use Rattle.graph.specs.Tables.{at}
use Rattle.seats.specs.Reading.{read_request}
use Rattle.sittings.specs.Sittings.{Sitting, still_covered}
use Rattle.sittings.specs.Calls.{active_after}
use Rattle.sittings.specs.Reading.{sitting_of}
use Rattle.sittings.proofs.TakenCalls.{none_off}
use Rattle.keeper.specs.Block.{pairs_of, active_of, state_in, words_of}
use Rattle.keeper.proofs.BlockWords.{has_own, active_put, stored_long, has_words, words_own}
use Rattle.keeper.proofs.requests.switch_off.Goals as goal

pub returns-in-Unassign : goal.returns-in-Unassign
unfolding read_request active_after
returns-in-Unassign c =
    let W = c.args.words.now in
    let i = c.in-Unassign.seat.0 in
    let u = c.unassigned-row.ensures in
    let e = ap₂ (set (active_of W)) u.0 (u.1 ∙ ap (λ (z : Sitting). still_covered z.state i (at z.active i)) c.lent.ensures) in
    rw c.in-Unassign.is (has_words (active_put (has_own W c.told-words) (stored_long (active_of W) _ _ c.store.ensures) (c.store.ensures ∙ e)))

pub returns-in_default : goal.returns-in_default
returns-in_default c =
    let W = c.args.words.now in
    sym (words_own W c.told-words) ∙ ap (λ (A : List ℕ). words_of (sitting_of (state_in W) (pairs_of W) A)) (none_off (state_in W) (active_of W) c.args.request c.in_default.not-Unassign)
