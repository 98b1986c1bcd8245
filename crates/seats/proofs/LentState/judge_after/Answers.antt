-- `seats::LentState::judge_after` meets its contract: the checks of the graph come first, then that of the seats.
-- Assumes nothing.
use mathlib.Core.Path.{sym, ap, ◌∙◌}
use Rattle.graph.specs.Graph.{effective}
use Rattle.graph.specs.Refusing.{refused}
use Rattle.graph.specs.Reading.{read_verdict}
use Rattle.std.proofs.lemmas.Result.{err_from_is_err_and}
use Rattle.graph.proofs.Judging.{stops, moves_on, ends, refused_first, passed_first, place_found, place_lowest, place_none}
use Rattle.seats.specs.Seats.{assigned, held, pair_seat}
use Rattle.seats.proofs.LentState.judge_after.Goals as goal

pub returns-in-Some : goal.returns-in-Some
unfolding pair_seat held assigned effective
returns-in-Some c =
    let e = c.pair_seat.ensures in
    let at = c.in-Some.is in
    c.refuse.ensures ∙ ap (refused 30) (place_lowest _ _ e at)
    ∙ sym (passed_first _ _ c.judge_closed.ensures c.in_ok-judge_closed.was ∙ stops _ _ (place_found _ _ e at))

pub returns-in_err-judge_closed : goal.returns-in_err-judge_closed
returns-in_err-judge_closed c = let p = err_from_is_err_and c.from_residual.result c.from_residual.ensures.1 in rw (p.1, p.2) (refused_first _ _ c.judge_closed.ensures c.in_err-judge_closed.was)

pub returns : goal.returns
unfolding pair_seat held assigned effective read_verdict
returns c =
    let told = c.in_ok-judge_closed.was in
    ends
    ∙ sym (passed_first _ _ c.judge_closed.ensures told ∙ moves_on _ _ (place_none _ _ c.pair_seat.ensures c.in_default.is))
