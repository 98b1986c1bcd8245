-- `keeper::changes::redraw` meets its contract: what is refused after closing leaves the block, and what is accepted is put.
-- Assumes nothing.
use mathlib.Core.Path.{sym, ap}
use Rattle.std.proofs.lemmas.Result.{err_from_is_err_and}
use Rattle.seats.specs.Calls.{refused}
use Rattle.seats.specs.Reading.{read_answer}
use Rattle.seats.proofs.Changing.{graph_passes, after_refused, after_accepted}
use Rattle.sittings.specs.Sittings.{Sitting}
use Rattle.sittings.proofs.TakenCalls.{change_refused}
use Rattle.keeper.specs.Block.{sitting_in}
use Rattle.keeper.proofs.BlockWords.{words_own}
use Rattle.keeper.proofs.CodedAnswer.{leaves}
use Rattle.keeper.proofs.changes.redraw.Goals as goal

pub invariant_of-carry_out : goal.invariant_of-carry_out
invariant_of-carry_out c = record { passes = graph_passes (ap (λ (z : Sitting). z.state) c.lent.ensures) _ c.requires }

pub returns-in_err-judge_redrawn : goal.returns-in_err-judge_redrawn
unfolding read_answer
returns-in_err-judge_redrawn c =
    let W = c.args.words.now in
    let l = ap (λ (z : Sitting). z.state) c.lent.ensures in
    let p = err_from_is_err_and c.from_residual.result c.from_residual.ensures.1 in
    rw (p.1, p.2)
    (leaves (refused _ _) (sitting_in W) (sym (words_own W c.told-words))
    (change_refused (sitting_in W) _ _ (after_refused l _ c.requires _ _ c.carry_out-next.ensures l _ c.judge_redrawn.ensures c.in_err-judge_redrawn.was)))

pub put_change-requires : goal.put_change-requires
put_change-requires c =
    let l = ap (λ (z : Sitting). z.state) c.lent.ensures in
    after_accepted l _ c.requires _ _ c.carry_out-next.ensures l _ c.judge_redrawn.ensures c.in_ok-judge_redrawn.was
