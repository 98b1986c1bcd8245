-- `records::decode` meets its contract: a record has its length, zeros in bytes 3 to 7, and a kind of the table.
-- Assumes nothing.
use lib.ListN.{get_or}
use mathlib.Core.List.{◌∷◌}
use mathlib.Core.Path.{ap, ◌∙◌}
use Rattle.seats.specs.Records.{malformed, Fields, kinds, decode}
use Rattle.seats.specs.Reading.{read_decoded}
use Rattle.seats.proofs.records.decode.Goals as goal

pub returns-then-not-is_record : goal.returns-then-not-is_record
unfolding decode read_decoded
returns-then-not-is_record c = let e = c.if-not-is_record.ensures in rw (← e)

pub returns : goal.returns
unfolding decode
returns c =
    let e = c.if-not-is_record.ensures in
    rw (← e) (c.named.ensures ∙ ap (λ (g : Fields). get_or (malformed ∷ kinds g) (get_or c.args.bytes.now 0 0) malformed) c.fields_in.ensures)
