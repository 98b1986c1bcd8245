-- `fields::ended` meets its contract: one law for each way out.
-- Assumes nothing.
use Rattle.sheets.specs.Working.{read_end}
use Rattle.sheets.proofs.FieldLaws.{ended_out, ended_line}
use Rattle.sheets.proofs.fields.ended.Goals as goal

pub returns-then-is_empty : goal.returns-then-is_empty
unfolding read_end
returns-then-is_empty c = ended_out _ c.if-is_empty.ensures

pub returns : goal.returns
returns c = ended_line _ _ c.if-is_empty.ensures c.strip_prefix.ensures.cases
