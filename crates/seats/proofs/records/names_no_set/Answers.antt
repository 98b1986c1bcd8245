-- `records::names_no_set` meets its contract: what is a record names no set where its sets are empty.
-- Assumes nothing.
use mathlib.Core.Bool.{and_assoc}
use mathlib.Core.Path.{ap, ◌∙◌}
use Rattle.seats.specs.Records.{unused}
use Rattle.seats.proofs.records.names_no_set.Goals as goal

pub returns : goal.returns
unfolding unused
returns c =
    let e = c.if-not-is_record.ensures in
    rw (← and_assoc, ← e) (c.unused.ensures ∙ ap (unused 0) c.fields_in-fields.ensures)
