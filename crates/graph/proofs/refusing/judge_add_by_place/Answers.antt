-- `refusing::judge_add_by_place` meets its contract: each return is the check that it stands for.
-- Assumes nothing.
use mathlib.Core.Path.{sym, ap, ◌∙◌}
use borrow.Author.Tests.{lt-ltb, le-ltb, le-leb, lt-leb}
use Rattle.graph.specs.Graph.{role_count, is_end, effective}
use Rattle.graph.specs.Refusing.{early, verdict, input_checks, state_checks, refused}
use Rattle.graph.specs.Reading.{read_verdict}
use Rattle.graph.proofs.Judging.{place_found, place_lowest, place_none}
use Rattle.graph.proofs.refusing.judge_add_by_place.Goals as goal

pub returns-then-r-ge64 : goal.returns-then-r-ge64
unfolding early verdict input_checks state_checks is_end effective
returns-then-r-ge64 c =
    simp
    (le-leb role_count _ c.if-r-ge64.true)
    c.refuse.ensures

pub returns-then-r-lt2 : goal.returns-then-r-lt2
unfolding early verdict input_checks state_checks is_end effective
returns-then-r-lt2 c =
    simp (
      lt-leb role_count _ c.if-r-ge64.false,
      lt-ltb _ 2 c.if-r-lt2.true,
    )
    c.refuse-then-r-lt2.ensures

pub returns-in-Some : goal.returns-in-Some
unfolding early verdict input_checks state_checks is_end effective
returns-in-Some c =
    simp (
      lt-leb role_count _ c.if-r-ge64.false,
      le-ltb _ 2 c.if-r-lt2.false,
      place_found _ _ c.end_in.ensures c.in-Some.is,
    )
    (c.refuse-in-Some.ensures ∙ ap (refused 3) (place_lowest _ _ c.end_in.ensures c.in-Some.is))

pub returns-in-Some-end_in : goal.returns-in-Some-end_in
unfolding early verdict input_checks state_checks is_end effective
returns-in-Some-end_in c =
    simp (
      lt-leb role_count _ c.if-r-ge64.false,
      le-ltb _ 2 c.if-r-lt2.false,
      place_none _ _ c.end_in.ensures c.in_default.is,
      place_found _ _ c.end_in-2.ensures c.in-Some-end_in.is,
    )
    (c.refuse-in-Some-end_in.ensures ∙ ap (refused 3) (place_lowest _ _ c.end_in-2.ensures c.in-Some-end_in.is))

pub returns-then-in_either : goal.returns-then-in_either
unfolding early verdict input_checks state_checks is_end effective
returns-then-in_either c =
    simp (
      lt-leb role_count _ c.if-r-ge64.false,
      le-ltb _ 2 c.if-r-lt2.false,
      place_none _ _ c.end_in.ensures c.in_default.is,
      place_none _ _ c.end_in-2.ensures c.in_default-end_in.is,
      sym c.in_either.ensures ∙ c.if-in_either.true,
    )
    c.refuse-then-in_either.ensures

pub returns : goal.returns
unfolding early verdict input_checks state_checks is_end effective read_verdict
returns c =
    simp (
      lt-leb role_count _ c.if-r-ge64.false,
      le-ltb _ 2 c.if-r-lt2.false,
      place_none _ _ c.end_in.ensures c.in_default.is,
      place_none _ _ c.end_in-2.ensures c.in_default-end_in.is,
      sym c.in_either.ensures ∙ c.if-in_either.false,
    )
    c.judge_placing.ensures
