-- `graph::declaring::judge_declare` meets its contract: it judges by one check after the other.
-- Assumes nothing.
use mathlib.Core.Path.{◌∙◌, sym, ap}
use Rattle.graph.specs.Graph.{ordinary, effective}
use Rattle.graph.specs.Refusing.{refused, offered_role, declare_checks}
use Rattle.graph.specs.Reading.{read_verdict}
use Rattle.std.proofs.lemmas.Result.{err_from_is_err_and}
use Rattle.graph.proofs.Judging.{stops, moves_on, ends, refused_first, passed_first, place_found, place_lowest, place_none}
use Rattle.graph.proofs.declaring.judge_declare.Goals as goal

pub returns-in_err-judge_pair : goal.returns-in_err-judge_pair
unfolding declare_checks
returns-in_err-judge_pair c = let p = err_from_is_err_and c.from_residual.result c.from_residual.ensures.1 in rw (p.1, p.2) (refused_first _ _ c.judge_pair.ensures c.in_err-judge_pair.was)

pub returns-then-is_declared : goal.returns-then-is_declared
unfolding declare_checks
returns-then-is_declared c =
    c.refuse.ensures
    ∙ sym (passed_first _ _ c.judge_pair.ensures c.in_ok-judge_pair.was
    ∙ stops _ _ (sym c.is_declared.ensures ∙ c.if-is_declared.true))

pub returns-in-Some : goal.returns-in-Some
unfolding ordinary effective offered_role declare_checks
returns-in-Some c =
    let e = c.offered_role.ensures in
    let at = c.in-Some.is in
    c.refuse-in-Some.ensures ∙ ap (refused 29) (place_lowest _ _ e at)
    ∙ sym (passed_first _ _ c.judge_pair.ensures c.in_ok-judge_pair.was
    ∙ moves_on _ _ (sym c.is_declared.ensures ∙ c.if-is_declared.false)
    ∙ stops _ _ (place_found _ _ e at))

pub returns : goal.returns
unfolding ordinary effective offered_role declare_checks read_verdict
returns c =
    ends
    ∙ sym (passed_first _ _ c.judge_pair.ensures c.in_ok-judge_pair.was
    ∙ moves_on _ _ (sym c.is_declared.ensures ∙ c.if-is_declared.false)
    ∙ moves_on _ _ (place_none _ _ c.offered_role.ensures c.in_default.is))
