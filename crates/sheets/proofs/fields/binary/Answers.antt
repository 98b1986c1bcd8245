-- `fields::binary` meets its contract: one law for each way out.
-- Assumes nothing.
use Rattle.sheets.specs.Working.{read_as}
use Rattle.sheets.proofs.FieldLaws.{binary_no, binary_high, binary_read}
use Rattle.sheets.proofs.fields.binary.Goals as goal

pub returns-in_err-mark : goal.returns-in_err-mark
unfolding read_as
returns-in_err-mark c = rw c.from_residual.ensures (binary_no _ c.in_err-mark.ensures)

pub returns-then-mark-gt1 : goal.returns-then-mark-gt1
unfolding read_as
returns-then-mark-gt1 c = let e = c.in_ok-mark.ensures in binary_high _ e.0 e.1 c.if-mark-gt1.true

pub returns : goal.returns
unfolding read_as
returns c = let e = c.in_ok-mark.ensures in binary_read _ e.0 e.1 c.if-mark-gt1.false
