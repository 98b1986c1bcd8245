-- `keeper::changes::take_change` meets its contract: what is refused early leaves the block.
-- Assumes nothing.
use mathlib.Core.Path.{sym, ap}
use Rattle.std.proofs.lemmas.Result.{err_from_is_err_and}
use Rattle.seats.specs.Calls.{refused}
use Rattle.seats.specs.Reading.{read_answer}
use Rattle.seats.proofs.Changing.{early_refused, early_passed}
use Rattle.sittings.specs.Sittings.{Sitting}
use Rattle.sittings.proofs.TakenCalls.{change_refused}
use Rattle.keeper.specs.Block.{sitting_in}
use Rattle.keeper.proofs.BlockWords.{words_own}
use Rattle.keeper.proofs.CodedAnswer.{leaves}
use Rattle.keeper.proofs.changes.take_change.Goals as goal

pub returns-in_err-judge_early : goal.returns-in_err-judge_early
unfolding read_answer
returns-in_err-judge_early c =
    let W = c.args.words.now in
    let p = err_from_is_err_and c.from_residual.result c.from_residual.ensures.1 in
    rw (p.1, p.2)
    (leaves (refused _ _) (sitting_in W) (sym (words_own W c.told-words))
    (change_refused (sitting_in W) _ _ (early_refused (ap (λ (z : Sitting). z.state) c.lent.ensures) _ c.judge_early.ensures c.in_err-judge_early.was)))

pub redraw-requires : goal.redraw-requires
redraw-requires c = early_passed (ap (λ (z : Sitting). z.state) c.lent.ensures) _ c.judge_early.ensures c.in_ok-judge_early.was
