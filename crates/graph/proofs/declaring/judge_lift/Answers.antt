-- `graph::declaring::judge_lift` meets its contract: it judges by one check after the other.
-- Assumes nothing.
use mathlib.Core.Bool.{not}
use mathlib.Core.Path.{◌∙◌, sym, ap}
use Rattle.graph.specs.Refusing.{lift_checks}
use Rattle.graph.specs.Reading.{read_verdict}
use Rattle.std.proofs.lemmas.Result.{err_from_is_err_and}
use Rattle.graph.proofs.Judging.{stops, moves_on, ends, refused_first, passed_first}
use Rattle.graph.proofs.declaring.judge_lift.Goals as goal

pub returns-in_err-judge_pair : goal.returns-in_err-judge_pair
unfolding lift_checks
returns-in_err-judge_pair c = let p = err_from_is_err_and c.from_residual.result c.from_residual.ensures.1 in rw (p.1, p.2) (refused_first _ _ c.judge_pair.ensures c.in_err-judge_pair.was)

pub returns-then-is_declared : goal.returns-then-is_declared
unfolding lift_checks read_verdict
returns-then-is_declared c =
    ends
    ∙ sym (passed_first _ _ c.judge_pair.ensures c.in_ok-judge_pair.was
    ∙ moves_on _ _ (ap not (sym c.is_declared.ensures ∙ c.if-is_declared.true)))

pub returns-else-is_declared : goal.returns-else-is_declared
unfolding lift_checks
returns-else-is_declared c =
    c.refuse.ensures
    ∙ sym (passed_first _ _ c.judge_pair.ensures c.in_ok-judge_pair.was
    ∙ stops _ _ (ap not (sym c.is_declared.ensures ∙ c.if-is_declared.false)))
