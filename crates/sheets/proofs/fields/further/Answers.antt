-- `fields::further` meets its contract: a mark where a comma stands before it.
-- Assumes nothing.
use mathlib.Core.Path.{◌∙◌}
use Rattle.sheets.specs.Parsing.{binary}
use Rattle.sheets.specs.Working.{read_as}
use Rattle.sheets.proofs.FieldLaws.{further_no, further_read}
use Rattle.sheets.proofs.fields.further.Goals as goal

pub returns-in_err-strip_prefix : goal.returns-in_err-strip_prefix
unfolding read_as
returns-in_err-strip_prefix c = rw c.from_residual.ensures (further_no _ c.in_err-strip_prefix.ensures.cases)

pub returns : goal.returns
returns c = let s = c.in_ok-strip_prefix.ensures.cases in c.quotable.ensures binary (λ t r p. p) ∙ further_read _ s.0 s.1
