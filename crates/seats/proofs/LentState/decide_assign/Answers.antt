-- `seats::LentState::decide_assign` meets its contract: each return is the check that it stands for, and what passes them is stored.
-- Assumes nothing.
use mathlib.Core.Path.{sym, ap, ap₂, ◌∙◌}
use Prim.Native.Nat.{ℕ}
use lib.ListN.{set}
use Rattle.sets.specs.Sets.{member, union}
use Rattle.sets.proofs.Laws.{known_single}
use Rattle.graph.specs.Graph.{effective, present}
use Rattle.graph.specs.Tables.{put}
use Rattle.graph.specs.Reading.{read_verdict}
use Rattle.std.proofs.lemmas.Result.{err_from_is_err_and}
use Rattle.graph.proofs.Judging.{stops, moves_on, ends, refused_first, passed_first, place_found, place_lowest, place_none}
use Rattle.seats.specs.Seats.{assigned, held, pair_seat}
use Rattle.seats.specs.Calls.{seat_role_checks, accepted, refused, assign, checks, after, reply, with_seats}
use Rattle.seats.specs.Reading.{lent, read_decision}
use Rattle.seats.proofs.Settling.{refused_by, passed_by}
use Rattle.seats.proofs.Requests.{assign_late, seat_numbers}
use Rattle.seats.proofs.LentState.decide_assign.Goals as goal

pub returns-then-member : goal.returns-then-member
unfolding read_verdict read_decision present checks assigned
returns-then-member c =
    let g = c.args in
    let s = lent g.self in
    let told = c.in_ok-judge_seat.was in
    let j = c.judge_seat.ensures in
    rw c.refused.ensures (sym (refused_by s (assign g.a.0 g.b.0) (passed_first (seat_role_checks s.graph g.a.0 g.b.0) (assign_late s g.a.0 g.b.0) j told ∙ stops _ _ (ap (member _) (sym c.roles_of-own.ensures) ∙ sym c.member.ensures ∙ c.if-member.true))))

pub returns-in-Some : goal.returns-in-Some
unfolding read_verdict read_decision present checks assigned after with_seats pair_seat held effective
returns-in-Some c =
    let e = c.pair_seat_after.ensures in
    let at = c.in-Some.is in
    let g = c.args in
    let s = lent g.self in
    let told = c.in_ok-judge_seat.was in
    let j = c.judge_seat.ensures in
    rw c.refused-in-Some.ensures (ap (λ (p : ℕ). (refused 30 p, s)) (place_lowest _ _ e at) ∙ sym (refused_by s (assign g.a.0 g.b.0) (passed_first (seat_role_checks s.graph g.a.0 g.b.0) (assign_late s g.a.0 g.b.0) j told ∙ moves_on _ _ (ap (member _) (sym c.roles_of-own.ensures) ∙ sym c.member.ensures ∙ c.if-member.false) ∙ stops _ _ (place_found _ _ e at))))

pub returns-in_err-judge_seat : goal.returns-in_err-judge_seat
unfolding read_verdict read_decision present checks assigned
returns-in_err-judge_seat c =
    let g = c.args in
    let s = lent g.self in
    let told = c.in_err-judge_seat.was in
    let p = err_from_is_err_and c.from_residual.result c.from_residual.ensures.1 in
    rw (p.1, p.2) (sym (refused_by s (assign g.a.0 g.b.0) (sym (refused_first (seat_role_checks s.graph g.a.0 g.b.0) (assign_late s g.a.0 g.b.0) c.judge_seat.ensures told))))

pub returns : goal.returns
unfolding read_verdict read_decision present checks assigned reply after with_seats put pair_seat held effective
returns c =
    let g = c.args in
    let s = lent g.self in
    let told = c.in_ok-judge_seat.was in
    let j = c.judge_seat.ensures in
    let n = seat_numbers s.graph g.a.0 g.b.0 (sym j ∙ ap read_verdict told) in
    ap (λ (x : ℕ). (accepted, with_seats s (set s.seats g.a.0 x))) (c.union.ensures ∙ ap₂ union c.roles_of-own.ensures (known_single n.1 c.single.ensures))
    ∙ sym (passed_by s (assign g.a.0 g.b.0) (passed_first (seat_role_checks s.graph g.a.0 g.b.0) (assign_late s g.a.0 g.b.0) j told ∙ moves_on _ _ (ap (member _) (sym c.roles_of-own.ensures) ∙ sym c.member.ensures ∙ c.if-member.false) ∙ moves_on _ _ (place_none _ _ c.pair_seat_after.ensures c.in_default.is) ∙ sym ends))
