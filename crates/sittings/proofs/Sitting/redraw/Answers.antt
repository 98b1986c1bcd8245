-- `sittings::Sitting::redraw` meets its contract: what is refused after closing leaves the sitting, and what is accepted is put.
-- Assumes nothing.
use Rattle.std.proofs.lemmas.Result.{err_from_is_err_and}
use Rattle.seats.specs.Reading.{read_answer}
use Rattle.seats.proofs.Changing.{graph_passes, after_refused, after_accepted}
use Rattle.sittings.specs.Reading.{read_sitting}
use Rattle.sittings.proofs.TakenCalls.{change_refused}
use Rattle.sittings.proofs.Sitting.redraw.Goals as goal

pub invariant_of-carry_out : goal.invariant_of-carry_out
invariant_of-carry_out c = record { passes = graph_passes c.lent.ensures _ c.requires }

pub returns-in_err-judge_redrawn : goal.returns-in_err-judge_redrawn
unfolding read_answer
returns-in_err-judge_redrawn c =
    let p = err_from_is_err_and c.from_residual.result c.from_residual.ensures.1 in
    rw (p.1, p.2)
    (change_refused (read_sitting c.args.self.now) _ _
    (after_refused c.lent.ensures _ c.requires _ _ c.carry_out-next.ensures c.lent-2.ensures _ c.judge_redrawn.ensures c.in_err-judge_redrawn.was))

pub put_change-requires : goal.put_change-requires
put_change-requires c = after_accepted c.lent.ensures _ c.requires _ _ c.carry_out-next.ensures c.lent-2.ensures _ c.judge_redrawn.ensures c.in_ok-judge_redrawn.was
