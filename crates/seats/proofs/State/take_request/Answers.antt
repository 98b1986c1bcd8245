-- `seats::State::take_request` meets its contract: what the request stores is stored, and a refused one leaves the state.
-- Assumes nothing.
use mathlib.Core.List.{List}
use mathlib.Core.Path.{◌≡◌, sym, ap, ◌∙◌}
use Prim.Native.Nat.{ℕ}
use Rattle.std.specs.Prelude.{Ok}
use Rattle.std.proofs.lemmas.Result.{err_from_is_err_and}
use Rattle.seats.specs.declared.Decided.{Decided}
use Rattle.seats.specs.Seats.{State}
use Rattle.seats.specs.Calls.{accepted, perform, with_graph, with_conflicts, with_seats}
use Rattle.seats.specs.Reading.{read_state, read_answer, read_request, read_decision}
use Rattle.seats.proofs.State.take_request.Goals as goal
use Rattle.seats.proofs.State.take_request.Goals.{After-decide}

-- What the request comes to on the state as it is lent, it comes to on the state.
decided : (j : After-decide) → (
    let s = read_state j.args.self.now in
    read_decision s j.decide.result ≡ perform s (read_request j.args.request))
decided j =
    let q = j.lent.ensures in
    sym (ap (λ (h : State). read_decision h j.decide.result) q) ∙ j.decide.ensures ∙ ap (λ (h : State). perform h (read_request j.args.request)) q

-- What was decided is read on the state.
read : (j : After-decide) {d : Decided} → j.decide.result ≡ Ok d → (
    let s = read_state j.args.self.now in
    read_decision s (Ok d) ≡ perform s (read_request j.args.request))
read j was = sym (ap (read_decision (read_state j.args.self.now)) was) ∙ decided j

pub returns-in_err-row : goal.returns-in_err-row
unfolding read_answer read_decision
returns-in_err-row c =
    let p = err_from_is_err_and c.from_residual.result c.from_residual.ensures.1 in
    rw (p.1, p.2) (sym (ap (read_decision (read_state c.args.self.now)) c.in_err-row.was) ∙ decided (goal.at.returns-in_err-row c).After-decide)

pub returns-in-Answered : goal.returns-in-Answered
unfolding read_answer read_decision
returns-in-Answered c = read (goal.at.returns-in-Answered c).After-decide (c.in_ok-row.was ∙ ap (λ (d : Decided). Ok d) c.in-Answered.is)

pub returns-in-Conflicts : goal.returns-in-Conflicts
unfolding read_answer read_decision with_graph with_conflicts
returns-in-Conflicts c =
    ap (λ (C : List ℕ). (accepted, with_conflicts (read_state c.args.self.now) C)) c.store.ensures
    ∙ read (goal.at.returns-in-Conflicts c).After-decide (c.in_ok-row.was ∙ ap (λ (d : Decided). Ok d) c.in-Conflicts.is)

pub returns-in-Roles : goal.returns-in-Roles
unfolding read_answer read_decision with_seats
returns-in-Roles c =
    ap (λ (W : List ℕ). (accepted, with_seats (read_state c.args.self.now) W)) c.store-in-Roles.ensures
    ∙ read (goal.at.returns-in-Roles c).After-decide (c.in_ok-row.was ∙ ap (λ (d : Decided). Ok d) c.in-Roles.is)
