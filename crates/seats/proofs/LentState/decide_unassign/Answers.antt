-- `seats::LentState::decide_unassign` meets its contract: each return is the check that it stands for, and what passes them is stored.
-- Assumes nothing.
use mathlib.Core.Bool.{not}
use mathlib.Core.Path.{sym, ap, ap₂, ◌∙◌}
use Prim.Native.Nat.{ℕ}
use lib.ListN.{set}
use Rattle.sets.specs.Sets.{member, difference}
use Rattle.sets.proofs.Laws.{known_single}
use Rattle.graph.specs.Graph.{present}
use Rattle.graph.specs.Tables.{take_out}
use Rattle.graph.specs.Reading.{read_verdict}
use Rattle.std.proofs.lemmas.Result.{err_from_is_err_and}
use Rattle.graph.proofs.Judging.{stops, moves_on, ends, refused_first, passed_first}
use Rattle.seats.specs.Seats.{assigned}
use Rattle.seats.specs.Calls.{seat_role_checks, accepted, unassign, checks, after, reply, with_seats}
use Rattle.seats.specs.Reading.{lent, read_decision}
use Rattle.seats.proofs.Settling.{refused_by, passed_by}
use Rattle.seats.proofs.Requests.{unassign_late, seat_numbers}
use Rattle.seats.proofs.LentState.decide_unassign.Goals as goal

pub returns-then-not-member : goal.returns-then-not-member
unfolding read_verdict read_decision present checks assigned
returns-then-not-member c =
    let g = c.args in
    let s = lent g.self in
    let told = c.in_ok-judge_seat.was in
    let j = c.judge_seat.ensures in
    rw c.refused.ensures (sym (refused_by s (unassign g.a.0 g.b.0) (passed_first (seat_role_checks s.graph g.a.0 g.b.0) (unassign_late s g.a.0 g.b.0) j told ∙ stops _ _ (ap not (ap (member _) (sym c.roles_of-own.ensures) ∙ sym c.member.ensures ∙ c.if-not-member.true)))))

pub returns-in_err-judge_seat : goal.returns-in_err-judge_seat
unfolding read_verdict read_decision present checks assigned
returns-in_err-judge_seat c =
    let g = c.args in
    let s = lent g.self in
    let told = c.in_err-judge_seat.was in
    let p = err_from_is_err_and c.from_residual.result c.from_residual.ensures.1 in
    rw (p.1, p.2) (sym (refused_by s (unassign g.a.0 g.b.0) (sym (refused_first (seat_role_checks s.graph g.a.0 g.b.0) (unassign_late s g.a.0 g.b.0) c.judge_seat.ensures told))))

pub returns : goal.returns
unfolding read_verdict read_decision present checks assigned reply after with_seats take_out
returns c =
    let g = c.args in
    let s = lent g.self in
    let told = c.in_ok-judge_seat.was in
    let j = c.judge_seat.ensures in
    let n = seat_numbers s.graph g.a.0 g.b.0 (sym j ∙ ap read_verdict told) in
    ap (λ (x : ℕ). (accepted, with_seats s (set s.seats g.a.0 x))) (c.difference.ensures ∙ ap₂ difference c.roles_of-own.ensures (known_single n.1 c.single.ensures))
    ∙ sym (passed_by s (unassign g.a.0 g.b.0) (passed_first (seat_role_checks s.graph g.a.0 g.b.0) (unassign_late s g.a.0 g.b.0) j told ∙ moves_on _ _ (ap not (ap (member _) (sym c.roles_of-own.ensures) ∙ sym c.member.ensures ∙ c.if-not-member.false)) ∙ sym ends))
