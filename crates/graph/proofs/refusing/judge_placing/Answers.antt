-- `refusing::judge_placing` meets its contract: each return is the check that it stands for.
-- Assumes nothing.
use mathlib.Core.Path.{ap, ◌∙◌}
use Rattle.graph.specs.Graph.{is_end, effective}
use Rattle.graph.specs.Refusing.{early, verdict, input_checks, state_checks, refused}
use Rattle.graph.specs.Reading.{read_verdict}
use Rattle.graph.proofs.Judging.{present_by, absent_by, place_found, place_lowest, place_none}
use Rattle.graph.proofs.refusing.judge_placing.Goals as goal

pub returns-then-is_present : goal.returns-then-is_present
unfolding early verdict input_checks state_checks is_end effective
returns-then-is_present c =
    let sets = c.args.graph.sets.now in
    simp
    (present_by _ sets _ c.is_present.ensures c.if-is_present.true)
    c.refuse.ensures

pub returns-in-Some : goal.returns-in-Some
unfolding early verdict input_checks state_checks is_end effective
returns-in-Some c =
    let sets = c.args.graph.sets.now in
    let e = absent_by _ sets _ c.absent_in.ensures in
    simp (
      present_by _ sets _ c.is_present.ensures c.if-is_present.false,
      place_found _ _ e c.in-Some.is,
    )
    (c.refuse-in-Some.ensures ∙ ap (refused 21) (place_lowest _ _ e c.in-Some.is))

pub returns-in-Some-absent_in : goal.returns-in-Some-absent_in
unfolding early verdict input_checks state_checks is_end effective
returns-in-Some-absent_in c =
    let sets = c.args.graph.sets.now in
    let e = absent_by _ sets _ c.absent_in-2.ensures in
    simp (
      present_by _ sets _ c.is_present.ensures c.if-is_present.false,
      place_none _ _ (absent_by _ sets _ c.absent_in.ensures) c.in_default.is,
      place_found _ _ e c.in-Some-absent_in.is,
    )
    (c.refuse-in-Some-absent_in.ensures ∙ ap (refused 21) (place_lowest _ _ e c.in-Some-absent_in.is))

pub returns-in-Some-circle_in : goal.returns-in-Some-circle_in
unfolding early verdict input_checks state_checks is_end effective
returns-in-Some-circle_in c =
    let sets = c.args.graph.sets.now in
    simp (
      present_by _ sets _ c.is_present.ensures c.if-is_present.false,
      place_none _ _ (absent_by _ sets _ c.absent_in.ensures) c.in_default.is,
      place_none _ _ (absent_by _ sets _ c.absent_in-2.ensures) c.in_default-absent_in.is,
      place_found _ _ c.circle_in.ensures c.in-Some-circle_in.is,
    )
    (c.refuse-in-Some-circle_in.ensures ∙ ap (refused 25) (place_lowest _ _ c.circle_in.ensures c.in-Some-circle_in.is))

pub returns : goal.returns
unfolding early verdict input_checks state_checks is_end effective read_verdict
returns c =
    let sets = c.args.graph.sets.now in
    simp (
      present_by _ sets _ c.is_present.ensures c.if-is_present.false,
      place_none _ _ (absent_by _ sets _ c.absent_in.ensures) c.in_default.is,
      place_none _ _ (absent_by _ sets _ c.absent_in-2.ensures) c.in_default-absent_in.is,
      place_none _ _ c.circle_in.ensures c.in_default-circle_in.is,
    )
