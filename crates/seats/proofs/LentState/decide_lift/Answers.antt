-- `seats::LentState::decide_lift` meets its contract: a refusal is that of the checks, and what passes them is stored.
-- Assumes nothing.
use mathlib.Core.Path.{sym, ap, ap₂, ◌∙◌}
use Prim.Native.Nat.{ℕ}
use lib.ListN.{set}
use Rattle.graph.specs.Tables.{take_out}
use Rattle.graph.specs.Conflicts as conflicts
use Rattle.graph.specs.Refusing.{lift_checks}
use Rattle.graph.specs.Reading.{read_verdict}
use Rattle.std.proofs.lemmas.Result.{err_from_is_err_and}
use Rattle.seats.specs.Calls.{accepted, lift, checks, after, reply, with_conflicts}
use Rattle.seats.specs.Reading.{lent, read_decision}
use Rattle.seats.proofs.Settling.{refused_by, passed_by}
use Rattle.seats.proofs.LentState.decide_lift.Goals as goal

pub returns-in_err-judge_lift : goal.returns-in_err-judge_lift
unfolding read_verdict read_decision checks lift_checks
returns-in_err-judge_lift c =
    let g = c.args in
    let s = lent g.self in
    let told = c.in_err-judge_lift.was in
    let p = err_from_is_err_and c.from_residual.result c.from_residual.ensures.1 in
    rw (p.1, p.2) (sym (refused_by s (lift g.a.0 g.b.0) (sym c.judge_lift.ensures ∙ ap read_verdict told)))

pub returns : goal.returns
unfolding read_verdict read_decision checks reply after conflicts.lift take_out lift_checks
returns c =
    let g = c.args in
    let s = lent g.self in
    let d = c.without_conflict.ensures in
    ap₂ (λ (n x : ℕ). (accepted, with_conflicts s (set s.graph.conflicts n x))) d.0 d.1
    ∙ sym (passed_by s (lift g.a.0 g.b.0) (sym c.judge_lift.ensures ∙ ap read_verdict c.in_ok-judge_lift.was))
