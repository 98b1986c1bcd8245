-- `refusing::judge_grant` meets its contract: what the role and the privilege want comes first.
-- Assumes nothing.
use mathlib.Core.Path.{sym, ap, ◌∙◌}
use Rattle.sets.specs.Sets.{member}
use Rattle.graph.specs.Graph.{present, effective}
use Rattle.graph.specs.Refusing.{early, input_checks, state_checks}
use Rattle.graph.specs.Reading.{read_verdict}
use Rattle.std.proofs.lemmas.Result.{err_from_is_err_and}
use Rattle.graph.proofs.Judging.{ends, refused_first, then_stops, then_goes}
use Rattle.graph.proofs.refusing.judge_grant.Goals as goal

pub returns-in_err-judge_role_privilege : goal.returns-in_err-judge_role_privilege
unfolding early input_checks state_checks present effective
returns-in_err-judge_role_privilege c = let p = err_from_is_err_and c.from_residual.result c.from_residual.ensures.1 in rw (p.1, p.2) (refused_first _ _ c.judge_role_privilege.ensures c.in_err-judge_role_privilege.was)

pub returns-then-member : goal.returns-then-member
unfolding early input_checks state_checks present effective
returns-then-member c =
    c.refuse.ensures
    ∙ then_stops _ _ _ c.judge_role_privilege.ensures c.in_ok-judge_role_privilege.was
    (ap (member _) (sym c.effective_of.ensures) ∙ sym c.member.ensures ∙ c.if-member.true)

pub returns : goal.returns
unfolding early input_checks state_checks present effective read_verdict
returns c =
    ends
    ∙ then_goes _ _ _ c.judge_role_privilege.ensures c.in_ok-judge_role_privilege.was
    (ap (member _) (sym c.effective_of.ensures) ∙ sym c.member.ensures ∙ c.if-member.false)
