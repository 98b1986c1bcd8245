-- `sittings::LentSitting::decide_deactivate` meets its contract: each return is the check that it stands for, and what passes them is stored.
-- Assumes nothing.
use mathlib.Core.Bool.{not}
use mathlib.Core.Path.{sym, ap, ap₂, ◌∙◌}
use Prim.Native.Nat.{ℕ}
use lib.ListN.{set}
use Rattle.std.proofs.lemmas.Result.{err_from_is_err_and}
use Rattle.sets.specs.Sets.{member, difference}
use Rattle.sets.proofs.Laws.{known_single}
use Rattle.graph.specs.Tables.{take_out}
use Rattle.graph.specs.Graph.{present}
use Rattle.graph.specs.Reading.{read_verdict}
use Rattle.graph.proofs.Judging.{stops, moves_on, ends}
use Rattle.seats.specs.Calls.{accepted}
use Rattle.seats.proofs.Requests.{seat_numbers}
use Rattle.sittings.specs.Sittings.{is_active}
use Rattle.sittings.specs.Calls.{after, reply}
use Rattle.sittings.specs.Reading.{sitting_of, lent, read_chosen}
use Rattle.sittings.proofs.Choices.{deactivate_parts, first_refuses, later_refuses, none_refuses}
use Rattle.sittings.proofs.LentSitting.decide_deactivate.Goals as goal

pub returns-in_err-judge_seat : goal.returns-in_err-judge_seat
unfolding present read_chosen
returns-in_err-judge_seat c =
    let g = c.args in
    let p = err_from_is_err_and c.from_residual.result c.from_residual.ensures.1 in
    rw (p.1, p.2) (first_refuses (deactivate_parts (lent g.self) g.a.0 g.b.0) c.judge_seat.ensures c.in_err-judge_seat.was)

pub returns-then-not-member : goal.returns-then-not-member
unfolding present is_active read_chosen
returns-then-not-member c =
    let g = c.args in
    rw c.refused.ensures
    (later_refuses (deactivate_parts (lent g.self) g.a.0 g.b.0) c.judge_seat.ensures c.in_ok-judge_seat.was
    (stops _ _ (ap not (ap (member _) (sym c.entry-own.ensures) ∙ sym c.member.ensures ∙ c.if-not-member.true))))

pub returns : goal.returns
unfolding present is_active after reply read_verdict read_chosen take_out
returns c =
    let g = c.args in
    let z = lent g.self in
    let told = c.in_ok-judge_seat.was in
    let n = seat_numbers z.state.graph g.a.0 g.b.0 (sym c.judge_seat.ensures ∙ ap read_verdict told) in
    ap (λ (s : ℕ). (accepted, sitting_of z.state z.pairs (set z.active g.a.0 s)))
    (c.difference.ensures ∙ ap₂ difference c.entry-own.ensures (known_single n.1 c.single.ensures))
    ∙ none_refuses (deactivate_parts z g.a.0 g.b.0) c.judge_seat.ensures told
    (moves_on _ _ (ap not (ap (member _) (sym c.entry-own.ensures) ∙ sym c.member.ensures ∙ c.if-not-member.false)) ∙ sym ends)
