-- `fields::opened` meets its contract: two quotes, or none.
-- Assumes nothing.
use Rattle.sheets.proofs.FieldLaws.{opened_word}
use Rattle.sheets.proofs.fields.opened.Goals as goal

pub returns : goal.returns
returns c = rw c.unwrap_or.ensures (opened_word _ _ c.strip_prefix.ensures.cases)
