-- `records::fields_in` meets its contract: each field stands at its place.
-- Assumes nothing.
use native.Mathlib.Omega.{arith}
use mathlib.Core.Path.{refl, ◌∙◌}
use Rattle.seats.proofs.Numbers.{number_taken, number_sliced}
use Rattle.seats.proofs.Decoding.{fields_read}
use Rattle.seats.proofs.records.fields_in.Goals as goal

pub returns : goal.returns
returns c =
    let l = c.args.bytes.now in
    fields_read l (c.set.ensures ∙ number_taken 8 8 l (omega arith)) (c.number.ensures.0 ∙ number_sliced 8 16 l (omega arith) refl) (c.number-2.ensures.0 ∙ number_sliced 8 24 l (omega arith) (omega arith))
