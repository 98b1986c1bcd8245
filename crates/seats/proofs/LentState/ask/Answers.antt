-- `seats::LentState::ask` meets its contract: the record that asks decodes to kind 12, whose checks are the code's.
-- Assumes nothing.
use borrow.Author.Rules.{rules}
use borrow.Author.Tests.{le-leb, lt-leb}
use mathlib.Core.Path.{sym, ap, ◌∙◌}
use Rattle.sets.specs.Sets.{member}
use Rattle.graph.specs.Refusing.{verdict}
use Rattle.seats.specs.Seats.{may_use}
use Rattle.seats.specs.Calls.{answered, checks, reply, judged, settle, perform}
use Rattle.lists.specs.Settling as settling
use Rattle.seats.specs.Reading.{read_asked}
use Rattle.seats.proofs.AskMeaning.{steps_ask}
use Rattle.seats.proofs.LentState.ask.Goals as goal

pub returns-then-seat-ge64 : goal.returns-then-seat-ge64
unfolding perform checks verdict settle judged settling.settle read_asked
returns-then-seat-ge64 c = sym (steps_ask _ _ _ (search rules) ∙ rw (le-leb 64 _ c.if-seat-ge64.true))

pub returns-then-privilege-ge64 : goal.returns-then-privilege-ge64
unfolding perform checks verdict settle judged settling.settle read_asked
returns-then-privilege-ge64 c =
    sym (steps_ask _ _ _ (search rules) ∙ rw (lt-leb 64 _ c.if-seat-ge64.false, le-leb 64 _ c.if-privilege-ge64.true))

pub returns : goal.returns
unfolding perform checks verdict settle judged settling.settle reply may_use read_asked
returns c =
    ap answered (c.member.ensures ∙ ap (member _) c.held_by.ensures)
    ∙ sym (steps_ask _ _ _ (search rules) ∙ rw (lt-leb 64 _ c.if-seat-ge64.false, lt-leb 64 _ c.if-privilege-ge64.false))
