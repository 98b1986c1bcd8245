-- `seats::LentState::decide` meets its contract: each arm is its kind.
-- Assumes nothing.
use borrow.Author.Rules.{rules}
use mathlib.Core.Path.{sym, ap, ap₂, ◌∙◌}
use Rattle.seats.specs.Seats.{State}
use Rattle.seats.specs.Calls.{Answer}
use Rattle.std.proofs.lemmas.Result.{err_from_is_err_and}
use Rattle.seats.specs.Reading.{lent, read_request, read_decision, read_asked}
use Rattle.seats.proofs.AskMeaning.{steps_ask, ask_keeps}
use Rattle.seats.proofs.LentState.decide.Goals as goal

pub returns-in-Declare : goal.returns-in-Declare
unfolding read_request
returns-in-Declare c = rw c.in-Declare.is c.decide_declare.ensures

pub returns-in-Lift : goal.returns-in-Lift
unfolding read_request
returns-in-Lift c = rw c.in-Lift.is c.decide_lift.ensures

pub returns-in-Assign : goal.returns-in-Assign
unfolding read_request
returns-in-Assign c = rw c.in-Assign.is c.decide_assign.ensures

pub returns-in-Unassign : goal.returns-in-Unassign
unfolding read_request
returns-in-Unassign c = rw c.in-Unassign.is c.decide_unassign.ensures

pub returns-in_ok-ask-in-Ask : goal.returns-in_ok-ask-in-Ask
unfolding read_request read_decision read_asked
returns-in_ok-ask-in-Ask c =
    let s = lent c.args.self in
    rw c.in-Ask.is (ap₂ (λ (x : Answer) (h : State). (x, h)) (sym (ap read_asked c.in_ok-ask-in-Ask.was) ∙ c.ask.ensures ∙ steps_ask s _ _ (search rules)) (sym (ask_keeps s _ _)))

pub returns-in_err-ask-in-Ask : goal.returns-in_err-ask-in-Ask
unfolding read_request read_decision read_asked
returns-in_err-ask-in-Ask c =
    let s = lent c.args.self in
    let p = err_from_is_err_and c.from_residual.result c.from_residual.ensures.1 in
    rw (p.1, p.2) (rw c.in-Ask.is (ap₂ (λ (x : Answer) (h : State). (x, h)) (sym (ap read_asked c.in_err-ask-in-Ask.was) ∙ c.ask.ensures ∙ steps_ask s _ _ (search rules)) (sym (ask_keeps s _ _))))
