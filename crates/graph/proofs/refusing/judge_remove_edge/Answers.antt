-- `refusing::judge_remove_edge` meets its contract: what both roles want comes first.
-- Assumes nothing.
use mathlib.Core.Path.{sym, ap, ◌∙◌}
use mathlib.Core.Bool.{not}
use Rattle.graph.specs.Graph.{present}
use Rattle.graph.specs.Refusing.{early, input_checks, state_checks}
use Rattle.graph.specs.Reading.{read_verdict}
use Rattle.std.proofs.lemmas.Result.{err_from_is_err_and}
use Rattle.graph.proofs.Judging.{ends, refused_first, then_stops, then_goes}
use Rattle.graph.proofs.refusing.judge_remove_edge.Goals as goal

pub returns-in_err-judge_two_roles : goal.returns-in_err-judge_two_roles
unfolding early input_checks state_checks present
returns-in_err-judge_two_roles c = let p = err_from_is_err_and c.from_residual.result c.from_residual.ensures.1 in rw (p.1, p.2) (refused_first _ _ c.judge_two_roles.ensures c.in_err-judge_two_roles.was)

pub returns-then-not-is_edge : goal.returns-then-not-is_edge
unfolding early input_checks state_checks present
returns-then-not-is_edge c =
    c.refuse.ensures ∙ then_stops _ _ _ c.judge_two_roles.ensures c.in_ok-judge_two_roles.was (ap not (sym c.is_edge.ensures ∙ c.if-not-is_edge.true))

pub returns : goal.returns
unfolding early input_checks state_checks present read_verdict
returns c =
    ends ∙ then_goes _ _ _ c.judge_two_roles.ensures c.in_ok-judge_two_roles.was (ap not (sym c.is_edge.ensures ∙ c.if-not-is_edge.false))
