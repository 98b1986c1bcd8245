-- `sittings::Sitting::take_change` meets its contract: what is refused early leaves the sitting.
-- Assumes nothing.
use Rattle.std.proofs.lemmas.Result.{err_from_is_err_and}
use Rattle.seats.specs.Reading.{read_answer}
use Rattle.seats.proofs.Changing.{early_refused, early_passed}
use Rattle.sittings.specs.Reading.{read_sitting}
use Rattle.sittings.proofs.TakenCalls.{change_refused}
use Rattle.sittings.proofs.Sitting.take_change.Goals as goal

pub returns-in_err-judge_early : goal.returns-in_err-judge_early
unfolding read_answer
returns-in_err-judge_early c =
    let p = err_from_is_err_and c.from_residual.result c.from_residual.ensures.1 in
    rw (p.1, p.2)
    (change_refused (read_sitting c.args.self.now) _ _ (early_refused c.lent.ensures _ c.judge_early.ensures c.in_err-judge_early.was))

pub redraw-requires : goal.redraw-requires
redraw-requires c = early_passed c.lent.ensures _ c.judge_early.ensures c.in_ok-judge_early.was
