-- `seats::deciding::judge_held` meets its contract: the checks of the role come first, then that of the seats.
-- Assumes nothing.
use mathlib.Core.Path.{sym, ap, ◌∙◌}
use Rattle.graph.specs.Graph.{present}
use Rattle.graph.specs.Editing.{remove_role}
use Rattle.graph.specs.Refusing.{refused, input_checks, state_checks}
use Rattle.graph.specs.Reading.{read_verdict}
use Rattle.std.proofs.lemmas.Result.{err_from_is_err_and}
use Rattle.graph.proofs.Judging.{stops, moves_on, ends, refused_first, passed_first, place_found, place_lowest, place_none}
use Rattle.seats.specs.Seats.{assigned}
use Rattle.seats.specs.Calls.{seat_checks}
use Rattle.seats.specs.Reading.{state_of}
use Rattle.seats.specs.Working.{removal_checks}
use Rattle.seats.proofs.Changing.{before_checks}
use Rattle.seats.proofs.deciding.judge_held.Goals as goal

pub returns-in_err-judge_role : goal.returns-in_err-judge_role
unfolding removal_checks input_checks state_checks present
returns-in_err-judge_role c S C b =
    let g = c.args in
    let s = state_of g.roles S C g.seats.now in
    let d = remove_role g.a.0 b in
    let p = err_from_is_err_and c.from_residual.result c.from_residual.ensures.1 in rw (p.1, p.2) (refused_first (before_checks s d) (seat_checks s d) c.judge_role.ensures c.in_err-judge_role.was)

pub returns-in-Some : goal.returns-in-Some
unfolding removal_checks input_checks state_checks seat_checks present assigned
returns-in-Some c S C b =
    let e = c.seat_with_role.ensures in
    let at = c.in-Some.is in
    let g = c.args in
    let s = state_of g.roles S C g.seats.now in
    let d = remove_role g.a.0 b in
    c.refuse.ensures ∙ ap (refused 24) (place_lowest _ _ e at)
    ∙ sym (passed_first (before_checks s d) (seat_checks s d) c.judge_role.ensures c.in_ok-judge_role.was
    ∙ stops _ _ (place_found _ _ e at))

pub returns : goal.returns
unfolding removal_checks input_checks state_checks seat_checks present assigned read_verdict
returns c S C b =
    let g = c.args in
    let s = state_of g.roles S C g.seats.now in
    let d = remove_role g.a.0 b in
    ends
    ∙ sym (passed_first (before_checks s d) (seat_checks s d) c.judge_role.ensures c.in_ok-judge_role.was
    ∙ moves_on _ _ (place_none _ _ c.seat_with_role.ensures c.in_default.is))
