-- `sittings::Sitting::take` meets its contract: nothing decodes, or the call is a change, a request or a choice.
-- Assumes nothing.
use mathlib.Core.Path.{sym, ap, ◌∙◌}
use Rattle.seats.specs.Reading.{read_answer}
use Rattle.sittings.specs.Calls.{perform}
use Rattle.sittings.specs.Records.{perform_decoded, step}
use Rattle.sittings.specs.Reading.{read_sitting, read_call, read_decoded}
use Rattle.sittings.proofs.Sitting.take.Goals as goal

pub returns-in_default : goal.returns-in_default
unfolding step perform_decoded read_decoded read_answer
returns-in_default c = sym (ap (perform_decoded (read_sitting c.args.self.now)) (sym c.decode.ensures ∙ ap read_decoded c.in_default.is))

pub returns-in-Change : goal.returns-in-Change
unfolding step perform_decoded read_decoded read_call
returns-in-Change c =
    let z = read_sitting c.args.self.now in
    c.take_change.ensures
    ∙ sym (ap (perform_decoded z) (sym c.decode.ensures ∙ ap read_decoded c.in-Some.is) ∙ ap (λ x. perform z (read_call x)) c.in-Change.is)

pub returns-in-Request : goal.returns-in-Request
unfolding step perform_decoded read_decoded read_call
returns-in-Request c =
    let z = read_sitting c.args.self.now in
    c.take_request.ensures
    ∙ sym (ap (perform_decoded z) (sym c.decode.ensures ∙ ap read_decoded c.in-Some.is) ∙ ap (λ x. perform z (read_call x)) c.in-Request.is)

pub returns-in-Choice : goal.returns-in-Choice
unfolding step perform_decoded read_decoded read_call
returns-in-Choice c =
    let z = read_sitting c.args.self.now in
    c.take_choice.ensures
    ∙ sym (ap (perform_decoded z) (sym c.decode.ensures ∙ ap read_decoded c.in-Some.is) ∙ ap (λ x. perform z (read_call x)) c.in-Choice.is)
