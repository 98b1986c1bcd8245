-- `seats::State::take` meets its contract: nothing decodes, or the call is a change or a request.
-- Assumes nothing.
use mathlib.Core.Path.{sym, ap, ◌∙◌}
use Rattle.seats.specs.Calls.{perform}
use Rattle.seats.specs.Records.{perform_decoded, step}
use Rattle.seats.specs.Reading.{read_state, read_answer, read_call, read_decoded}
use Rattle.seats.proofs.State.take.Goals as goal

pub returns-in_default : goal.returns-in_default
unfolding step perform_decoded read_decoded read_answer
returns-in_default c = sym (ap (perform_decoded (read_state c.args.self.now)) (sym c.decode.ensures ∙ ap read_decoded c.in_default.is))

pub returns-in-Change : goal.returns-in-Change
unfolding step perform_decoded read_decoded read_call
returns-in-Change c =
    let s = read_state c.args.self.now in
    c.take_change.ensures
    ∙ sym (ap (perform_decoded s) (sym c.decode.ensures ∙ ap read_decoded c.in-Some.is) ∙ ap (λ x. perform s (read_call x)) c.in-Change.is)

pub returns-in-Request : goal.returns-in-Request
unfolding step perform_decoded read_decoded read_call
returns-in-Request c =
    let s = read_state c.args.self.now in
    c.take_request.ensures
    ∙ sym (ap (perform_decoded s) (sym c.decode.ensures ∙ ap read_decoded c.in-Some.is) ∙ ap (λ x. perform s (read_call x)) c.in-Request.is)
