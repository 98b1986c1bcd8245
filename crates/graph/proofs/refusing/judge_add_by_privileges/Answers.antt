-- `refusing::judge_add_by_privileges` meets its contract: each return is the check that it stands for.
-- Assumes nothing.
use borrow.Author.Tests.{lt-ltb, le-ltb, le-leb, lt-leb}
use Rattle.graph.specs.Graph.{role_count, is_end, effective}
use Rattle.graph.specs.Refusing.{early, verdict, input_checks, state_checks}
use Rattle.graph.specs.Reading.{read_verdict}
use Rattle.graph.proofs.Judging.{present_by}
use Rattle.graph.proofs.refusing.judge_add_by_privileges.Goals as goal

pub returns-then-r-ge64 : goal.returns-then-r-ge64
unfolding early verdict input_checks state_checks is_end effective
returns-then-r-ge64 c =
    simp
    (le-leb role_count _ c.if-r-ge64.true)
    c.refuse.ensures

pub returns-then-r-lt2 : goal.returns-then-r-lt2
unfolding early verdict input_checks state_checks is_end effective
returns-then-r-lt2 c =
    simp (
      lt-leb role_count _ c.if-r-ge64.false,
      lt-ltb _ 2 c.if-r-lt2.true,
    )
    c.refuse-then-r-lt2.ensures

pub returns-then-is_present : goal.returns-then-is_present
unfolding early verdict input_checks state_checks is_end effective
returns-then-is_present c =
    let sets = c.args.graph.sets.now in
    simp (
      lt-leb role_count _ c.if-r-ge64.false,
      le-ltb _ 2 c.if-r-lt2.false,
      present_by _ sets _ c.is_present.ensures c.if-is_present.true,
    )
    c.refuse-then-is_present.ensures

pub returns : goal.returns
unfolding early verdict input_checks state_checks is_end effective read_verdict
returns c =
    let sets = c.args.graph.sets.now in
    simp (
      lt-leb role_count _ c.if-r-ge64.false,
      le-ltb _ 2 c.if-r-lt2.false,
      present_by _ sets _ c.is_present.ensures c.if-is_present.false,
    )
