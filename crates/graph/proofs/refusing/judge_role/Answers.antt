-- `refusing::judge_role` meets its contract: each return is the check that it stands for.
-- Assumes nothing.
use borrow.Author.Tests.{lt-ltb, le-ltb, le-leb, lt-leb}
use mathlib.Core.Path.{sym, ◌∙◌}
use Rattle.graph.specs.Graph.{role_count, is_end}
use Rattle.graph.specs.Refusing.{verdict}
use Rattle.graph.specs.Reading.{read_verdict}
use Rattle.graph.proofs.refusing.judge_role.Goals as goal

pub returns-then-a-ge64 : goal.returns-then-a-ge64
unfolding verdict is_end
returns-then-a-ge64 c =
    simp
    (le-leb role_count _ c.if-a-ge64.true)
    c.refuse.ensures

pub returns-then-a-lt2 : goal.returns-then-a-lt2
unfolding verdict is_end
returns-then-a-lt2 c =
    simp (
      lt-leb role_count _ c.if-a-ge64.false,
      lt-ltb _ 2 c.if-a-lt2.true,
    )
    c.refuse-then-a-lt2.ensures

pub returns-then-not-is_present : goal.returns-then-not-is_present
unfolding verdict is_end
returns-then-not-is_present c =
    simp (
      lt-leb role_count _ c.if-a-ge64.false,
      le-ltb _ 2 c.if-a-lt2.false,
      sym c.is_present.ensures ∙ c.if-not-is_present.true,
    )
    c.refuse-then-not-is_present.ensures

pub returns : goal.returns
unfolding verdict is_end read_verdict
returns c =
    simp (
      lt-leb role_count _ c.if-a-ge64.false,
      le-ltb _ 2 c.if-a-lt2.false,
      sym c.is_present.ensures ∙ c.if-not-is_present.false,
    )
