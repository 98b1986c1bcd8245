-- `keeper::calls::take` meets its contract, by what the record decodes to.
-- Assumes nothing.
use mathlib.Core.Path.{sym, ap, ◌∙◌}
use Rattle.seats.specs.Calls.{refused}
use Rattle.seats.specs.Reading.{read_answer}
use Rattle.sittings.specs.Records.{Decoded, well_formed, perform_decoded, step}
use Rattle.sittings.specs.Reading.{read_call, read_decoded}
use Rattle.sittings.specs.declared.Call.{Call}
use Rattle.keeper.specs.Block.{sitting_in}
use Rattle.keeper.specs.Exports.{left}
use Rattle.keeper.proofs.BlockWords.{words_own}
use Rattle.keeper.proofs.CodedAnswer.{leaves}
use Rattle.keeper.proofs.calls.take.Goals as goal

pub returns-in_default : goal.returns-in_default
unfolding step perform_decoded read_decoded read_answer
returns-in_default c =
    let W = c.args.words.now in
    leaves (refused 1 0) (sitting_in W) (sym (words_own W c.told-words)) (ap (perform_decoded (sitting_in W)) (sym (ap read_decoded c.in_default.is) ∙ c.decode.ensures))

pub returns-in-Change : goal.returns-in-Change
unfolding step perform_decoded read_decoded read_call
returns-in-Change c =
    let W = c.args.words.now in
    c.take_change.ensures ∙ ap (λ (d : Decoded). left (perform_decoded (sitting_in W) d)) (sym (sym c.decode.ensures ∙ ap read_decoded c.in-Some.is ∙ ap (λ (q : Call). well_formed (read_call q)) c.in-Change.is))

pub returns-in-Request : goal.returns-in-Request
unfolding step perform_decoded read_decoded read_call
returns-in-Request c =
    let W = c.args.words.now in
    c.take_request.ensures ∙ ap (λ (d : Decoded). left (perform_decoded (sitting_in W) d)) (sym (sym c.decode.ensures ∙ ap read_decoded c.in-Some.is ∙ ap (λ (q : Call). well_formed (read_call q)) c.in-Request.is))

pub returns-in-Choice : goal.returns-in-Choice
unfolding step perform_decoded read_decoded read_call
returns-in-Choice c =
    let W = c.args.words.now in
    c.take_choice.ensures ∙ ap (λ (d : Decoded). left (perform_decoded (sitting_in W) d)) (sym (sym c.decode.ensures ∙ ap read_decoded c.in-Some.is ∙ ap (λ (q : Call). well_formed (read_call q)) c.in-Choice.is))
