-- `refusing::judge_two_roles` meets its contract: each return is the check that it stands for.
-- Assumes nothing.
use mathlib.Core.Path.{sym, ◌∙◌}
use borrow.Author.Tests.{lt-ltb, le-ltb, le-leb, lt-leb, eq-eqb, ne_eqb}
use Rattle.graph.specs.Graph.{role_count, is_end}
use Rattle.graph.specs.Refusing.{verdict}
use Rattle.graph.specs.Reading.{read_verdict}
use Rattle.graph.proofs.refusing.judge_two_roles.Goals as goal

pub returns-then-r-ge64 : goal.returns-then-r-ge64
unfolding verdict is_end
returns-then-r-ge64 c =
    simp
    (le-leb role_count _ c.if-r-ge64.true)
    c.refuse.ensures

pub returns-then-s-ge64 : goal.returns-then-s-ge64
unfolding verdict is_end
returns-then-s-ge64 c =
    simp (
      lt-leb role_count _ c.if-r-ge64.false,
      le-leb role_count _ c.if-s-ge64.true,
    )
    c.refuse-then-s-ge64.ensures

pub returns-then-r-lt2 : goal.returns-then-r-lt2
unfolding verdict is_end
returns-then-r-lt2 c =
    simp (
      lt-leb role_count _ c.if-r-ge64.false,
      lt-leb role_count _ c.if-s-ge64.false,
      lt-ltb _ 2 c.if-r-lt2.true,
    )
    c.refuse-then-r-lt2.ensures

pub returns-then-s-lt2 : goal.returns-then-s-lt2
unfolding verdict is_end
returns-then-s-lt2 c =
    simp (
      lt-leb role_count _ c.if-r-ge64.false,
      lt-leb role_count _ c.if-s-ge64.false,
      le-ltb _ 2 c.if-r-lt2.false,
      lt-ltb _ 2 c.if-s-lt2.true,
    )
    c.refuse-then-s-lt2.ensures

pub returns-then-r-s : goal.returns-then-r-s
unfolding verdict is_end
returns-then-r-s c =
    simp (
      lt-leb role_count _ c.if-r-ge64.false,
      lt-leb role_count _ c.if-s-ge64.false,
      le-ltb _ 2 c.if-r-lt2.false,
      le-ltb _ 2 c.if-s-lt2.false,
      eq-eqb _ _ c.if-r-s.true,
    )
    c.refuse-then-r-s.ensures

pub returns-then-not-is_present : goal.returns-then-not-is_present
unfolding verdict is_end
returns-then-not-is_present c =
    simp (
      lt-leb role_count _ c.if-r-ge64.false,
      lt-leb role_count _ c.if-s-ge64.false,
      le-ltb _ 2 c.if-r-lt2.false,
      le-ltb _ 2 c.if-s-lt2.false,
      ne_eqb _ _ c.if-r-s.false,
      sym c.is_present.ensures ∙ c.if-not-is_present.true,
    )
    c.refuse-then-not-is_present.ensures

pub returns-then-not-is_present-2 : goal.returns-then-not-is_present-2
unfolding verdict is_end
returns-then-not-is_present-2 c =
    simp (
      lt-leb role_count _ c.if-r-ge64.false,
      lt-leb role_count _ c.if-s-ge64.false,
      le-ltb _ 2 c.if-r-lt2.false,
      le-ltb _ 2 c.if-s-lt2.false,
      ne_eqb _ _ c.if-r-s.false,
      sym c.is_present.ensures ∙ c.if-not-is_present.false,
      sym c.is_present-2.ensures ∙ c.if-not-is_present-2.true,
    )
    c.refuse-then-not-is_present-2.ensures

pub returns : goal.returns
unfolding verdict is_end read_verdict
returns c =
    simp (
      lt-leb role_count _ c.if-r-ge64.false,
      lt-leb role_count _ c.if-s-ge64.false,
      le-ltb _ 2 c.if-r-lt2.false,
      le-ltb _ 2 c.if-s-lt2.false,
      ne_eqb _ _ c.if-r-s.false,
      sym c.is_present.ensures ∙ c.if-not-is_present.false,
      sym c.is_present-2.ensures ∙ c.if-not-is_present-2.false,
    )
