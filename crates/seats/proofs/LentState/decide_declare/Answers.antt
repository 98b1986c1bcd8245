-- `seats::LentState::decide_declare` meets its contract: each return is the check that it stands for, and what passes them is stored.
-- Assumes nothing.
use borrow.Author.Tests.{lt-ltb}
use mathlib.Core.Path.{sym, ap, ap₂, ◌∙◌}
use Prim.Native.Nat.{ℕ}
use lib.ListN.{set}
use Rattle.sets.specs.Sets.{when}
use Rattle.graph.specs.Tables.{put}
use Rattle.graph.specs.Graph.{effective}
use Rattle.graph.specs.Conflicts as conflicts
use Rattle.graph.specs.Reading.{read_verdict}
use Rattle.std.proofs.lemmas.Result.{err_from_is_err_and}
use Rattle.graph.proofs.Judging.{stops, moves_on, ends, refused_first, passed_first, place_found, place_lowest, place_none}
use Rattle.seats.specs.Seats.{assigned, held, offered_seat}
use Rattle.seats.specs.Calls.{accepted, refused, declare, checks, after, reply, with_conflicts}
use Rattle.seats.specs.Reading.{lent, read_decision}
use Rattle.seats.proofs.Settling.{refused_by, passed_by}
use Rattle.seats.proofs.Requests.{declare_numbers}
use Rattle.seats.proofs.LentState.decide_declare.Goals as goal

pub returns-in-Some : goal.returns-in-Some
unfolding read_verdict read_decision checks offered_seat held assigned effective
returns-in-Some c =
    let e = c.offered_seat.ensures in
    let at = c.in-Some.is in
    let g = c.args in
    let s = lent g.self in
    let told = c.in_ok-judge_declare.was in
    rw c.refused.ensures (ap (λ (p : ℕ). (refused 30 p, s)) (place_lowest _ _ e at) ∙ sym (refused_by s (declare g.a.0 g.b.0) (passed_first _ _ c.judge_declare.ensures told ∙ stops _ _ (place_found _ _ e at))))

pub returns-in_err-judge_declare : goal.returns-in_err-judge_declare
unfolding read_verdict read_decision checks
returns-in_err-judge_declare c =
    let g = c.args in
    let s = lent g.self in
    let told = c.in_err-judge_declare.was in
    let p = err_from_is_err_and c.from_residual.result c.from_residual.ensures.1 in
    rw (p.1, p.2) (sym (refused_by s (declare g.a.0 g.b.0) (sym (refused_first _ _ c.judge_declare.ensures told))))

pub returns : goal.returns
unfolding read_verdict read_decision checks reply after conflicts.declare put when offered_seat held assigned effective
returns c =
    let g = c.args in
    let s = lent g.self in
    let told = c.in_ok-judge_declare.was in
    let j = c.judge_declare.ensures in
    let d = c.with_conflict.ensures in
    let l = declare_numbers s.graph g.a.0 g.b.0 (sym j ∙ ap read_verdict told) in
    ap₂ (λ (n x : ℕ). (accepted, with_conflicts s (set s.graph.conflicts n x))) d.0 (d.1 ∙ rw (lt-ltb _ _ l))
    ∙ sym (passed_by s (declare g.a.0 g.b.0) (passed_first _ _ j told ∙ moves_on _ _ (place_none _ _ c.offered_seat.ensures c.in_default.is) ∙ sym ends))
