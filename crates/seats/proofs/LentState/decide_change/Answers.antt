-- `seats::LentState::decide_change` meets its contract: what refuses before closing comes first, then what refuses after it.
-- Assumes nothing.
use mathlib.Core.Path.{◌≡◌, refl}
use mathlib.Core.List.{◌++◌}
use Rattle.std.proofs.lemmas.Result.{err_from_is_err_and}
use Rattle.graph.specs.Refusing.{passed, verdict}
use Rattle.graph.specs.Reading.{read_change}
use Rattle.seats.specs.Calls.{seat_checks, with_graph}
use Rattle.seats.specs.Reading.{lent, read_changed}
use Rattle.seats.proofs.Changing.{before_checks, early_refused, early_passed, graph_passes, after_refused, after_accepted}
use Rattle.seats.proofs.LentState.decide_change.Goals as goal
use Rattle.seats.proofs.LentState.decide_change.Goals.{In_ok-judge_early}

-- Nothing refuses the change early.
passes : (k : In_ok-judge_early) → (
    let s = lent k.args.self in
    let d = read_change k.args.edit in
    passed ≡ verdict (before_checks s d ++ seat_checks s d))
passes k = early_passed refl _ k.judge_early.ensures k.in_ok-judge_early.was

pub returns-in_err-judge_early : goal.returns-in_err-judge_early
unfolding read_changed
returns-in_err-judge_early c =
    let p = err_from_is_err_and c.from_residual.result c.from_residual.ensures.1 in
    rw (p.1, p.2) (early_refused refl _ c.judge_early.ensures c.in_err-judge_early.was)

pub invariant_of-carry_out : goal.invariant_of-carry_out
invariant_of-carry_out c = record { passes = graph_passes refl _ (passes (goal.at.invariant_of-carry_out c).In_ok-judge_early) }

pub returns-in_err-judge_redrawn : goal.returns-in_err-judge_redrawn
unfolding read_changed
returns-in_err-judge_redrawn c =
    let e = passes (goal.at.returns-in_err-judge_redrawn c).In_ok-judge_early in
    let p = err_from_is_err_and c.from_residual-in_err-judge_redrawn.result c.from_residual-in_err-judge_redrawn.ensures.1 in
    rw (p.1, p.2) (after_refused refl _ e _ _ c.carry_out-next.ensures refl _ c.judge_redrawn.ensures c.in_err-judge_redrawn.was)

pub returns : goal.returns
unfolding read_changed with_graph
returns c =
    let e = passes (goal.at.returns c).In_ok-judge_early in
    after_accepted refl _ e _ _ c.carry_out-next.ensures refl _ c.judge_redrawn.ensures c.in_ok-judge_redrawn.was
