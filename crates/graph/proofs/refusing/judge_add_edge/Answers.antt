-- `refusing::judge_add_edge` meets its contract: what both roles want comes first.
-- Assumes nothing.
use mathlib.Core.Path.{sym, ◌∙◌}
use Rattle.graph.specs.Graph.{present}
use Rattle.graph.specs.Refusing.{early, input_checks, state_checks}
use Rattle.graph.specs.Reading.{read_verdict}
use Rattle.std.proofs.lemmas.Result.{err_from_is_err_and}
use Rattle.graph.proofs.Judging.{stops, moves_on, ends, refused_first, passed_first}
use Rattle.graph.proofs.refusing.judge_add_edge.Goals as goal

pub returns-in_err-judge_two_roles : goal.returns-in_err-judge_two_roles
unfolding early input_checks state_checks present
returns-in_err-judge_two_roles c = let p = err_from_is_err_and c.from_residual.result c.from_residual.ensures.1 in rw (p.1, p.2) (refused_first _ _ c.judge_two_roles.ensures c.in_err-judge_two_roles.was)

pub returns-then-is_below : goal.returns-then-is_below
unfolding early input_checks state_checks present
returns-then-is_below c =
    c.refuse.ensures
    ∙ sym (passed_first _ _ c.judge_two_roles.ensures c.in_ok-judge_two_roles.was
    ∙ stops _ _ (sym c.is_below.ensures ∙ c.if-is_below.true))

pub returns-then-is_below-2 : goal.returns-then-is_below-2
unfolding early input_checks state_checks present
returns-then-is_below-2 c =
    c.refuse-then-is_below-2.ensures
    ∙ sym (passed_first _ _ c.judge_two_roles.ensures c.in_ok-judge_two_roles.was
    ∙ moves_on _ _ (sym c.is_below.ensures ∙ c.if-is_below.false)
    ∙ stops _ _ (sym c.is_below-2.ensures ∙ c.if-is_below-2.true))

pub returns : goal.returns
unfolding early input_checks state_checks present read_verdict
returns c =
    ends
    ∙ sym (passed_first _ _ c.judge_two_roles.ensures c.in_ok-judge_two_roles.was
    ∙ moves_on _ _ (sym c.is_below.ensures ∙ c.if-is_below.false)
    ∙ moves_on _ _ (sym c.is_below-2.ensures ∙ c.if-is_below-2.false))
