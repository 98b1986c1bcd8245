-- `graph::declaring::judge_pair` meets its contract: it judges by one check after the other.
-- Assumes nothing.
use borrow.Author.Tests.{le-leb, lt-leb, eq-eqb, ne_eqb}
use mathlib.Core.Path.{◌∙◌, sym}
use Rattle.graph.specs.Reading.{read_verdict}
use Rattle.graph.proofs.Judging.{stops, moves_on, ends}
use Rattle.graph.proofs.declaring.judge_pair.Goals as goal

pub returns-then-a-ge64 : goal.returns-then-a-ge64
returns-then-a-ge64 c = c.refuse.ensures ∙ sym (stops _ _ (le-leb _ _ c.if-a-ge64.true))

pub returns-then-b-ge64 : goal.returns-then-b-ge64
returns-then-b-ge64 c =
    c.refuse-then-b-ge64.ensures
    ∙ sym (moves_on _ _ (lt-leb _ _ c.if-a-ge64.false) ∙ stops _ _ (le-leb _ _ c.if-b-ge64.true))

pub returns-then-a-b : goal.returns-then-a-b
returns-then-a-b c =
    c.refuse-then-a-b.ensures
    ∙ sym (moves_on _ _ (lt-leb _ _ c.if-a-ge64.false) ∙ moves_on _ _ (lt-leb _ _ c.if-b-ge64.false) ∙ stops _ _ (eq-eqb _ _ c.if-a-b.true))

pub returns : goal.returns
unfolding read_verdict
returns c =
    ends
    ∙ sym (moves_on _ _ (lt-leb _ _ c.if-a-ge64.false) ∙ moves_on _ _ (lt-leb _ _ c.if-b-ge64.false) ∙ moves_on _ _ (ne_eqb _ _ c.if-a-b.false))
