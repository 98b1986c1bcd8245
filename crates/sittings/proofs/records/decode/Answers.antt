-- `sittings::records::decode` meets its contract: what document 01 decodes is that call, and the rest is tried as a record of kinds 13 to 15.
-- Assumes nothing.
use mathlib.Core.Path.{sym, ap, ◌∙◌}
use Rattle.seats.specs.Records as base
use Rattle.seats.specs.Reading as reading
use Rattle.seats.specs.declared.Call as call-enum
use Rattle.sittings.specs.Records.{decoded, decode}
use Rattle.sittings.specs.Reading.{read_call}
use Rattle.sittings.proofs.records.decode.Goals as goal

pub returns-in-Change : goal.returns-in-Change
unfolding decode decoded read_call reading.read_decoded reading.read_call
returns-in-Change c =
    let l = c.args.bytes.now in
    c.formed.ensures
    ∙ ap (λ (x : base.Decoded). decoded x l)
    (ap (λ (x : call-enum.Call). base.well_formed (reading.read_call x)) (sym c.in-Change.is) ∙ sym (ap reading.read_decoded c.in-Some.is) ∙ c.decode.ensures)

pub returns-in-Request : goal.returns-in-Request
unfolding decode decoded read_call reading.read_decoded reading.read_call
returns-in-Request c =
    let l = c.args.bytes.now in
    c.formed-in-Request.ensures
    ∙ ap (λ (x : base.Decoded). decoded x l)
    (ap (λ (x : call-enum.Call). base.well_formed (reading.read_call x)) (sym c.in-Request.is) ∙ sym (ap reading.read_decoded c.in-Some.is) ∙ c.decode.ensures)

pub returns-in_default : goal.returns-in_default
unfolding decode decoded reading.read_decoded
returns-in_default c =
    let l = c.args.bytes.now in
    c.own.ensures ∙ ap (λ (x : base.Decoded). decoded x l) (sym (ap reading.read_decoded c.in_default.is) ∙ c.decode.ensures)
