-- `refusing::judge_role_privilege` meets its contract: each return is the check that it stands for.
-- Assumes nothing.
use mathlib.Core.Path.{sym, ◌∙◌}
use borrow.Author.Tests.{lt-ltb, le-ltb, le-leb, lt-leb}
use Rattle.graph.specs.Graph.{role_count, privilege_count, is_end}
use Rattle.graph.specs.Refusing.{verdict}
use Rattle.graph.specs.Reading.{read_verdict}
use Rattle.graph.proofs.refusing.judge_role_privilege.Goals as goal

pub returns-then-r-ge64 : goal.returns-then-r-ge64
unfolding verdict is_end
returns-then-r-ge64 c =
    simp
    (le-leb role_count _ c.if-r-ge64.true)
    c.refuse.ensures

pub returns-then-p-ge64 : goal.returns-then-p-ge64
unfolding verdict is_end
returns-then-p-ge64 c =
    simp (
      lt-leb role_count _ c.if-r-ge64.false,
      le-leb privilege_count _ c.if-p-ge64.true,
    )
    c.refuse-then-p-ge64.ensures

pub returns-then-r-lt2 : goal.returns-then-r-lt2
unfolding verdict is_end
returns-then-r-lt2 c =
    simp (
      lt-leb role_count _ c.if-r-ge64.false,
      lt-leb privilege_count _ c.if-p-ge64.false,
      lt-ltb _ 2 c.if-r-lt2.true,
    )
    c.refuse-then-r-lt2.ensures

pub returns-then-not-is_present : goal.returns-then-not-is_present
unfolding verdict is_end
returns-then-not-is_present c =
    simp (
      lt-leb role_count _ c.if-r-ge64.false,
      lt-leb privilege_count _ c.if-p-ge64.false,
      le-ltb _ 2 c.if-r-lt2.false,
      sym c.is_present.ensures ∙ c.if-not-is_present.true,
    )
    c.refuse-then-not-is_present.ensures

pub returns : goal.returns
unfolding verdict is_end read_verdict
returns c =
    simp (
      lt-leb role_count _ c.if-r-ge64.false,
      lt-leb privilege_count _ c.if-p-ge64.false,
      le-ltb _ 2 c.if-r-lt2.false,
      sym c.is_present.ensures ∙ c.if-not-is_present.false,
    )
