-- `fields::plain` meets its contract: one law for each way out.
-- Assumes nothing.
use mathlib.Core.Path.{◌∙◌}
use Rattle.sheets.specs.Working.{read_as}
use Rattle.sheets.proofs.FieldLaws.{plain_no, plain_high, plain_zero, plain_longer}
use Rattle.sheets.proofs.fields.plain.Goals as goal

pub returns-in_err-first : goal.returns-in_err-first
unfolding read_as
returns-in_err-first c = rw c.from_residual.ensures (plain_no _ _ c.in_err-first.ensures)

pub returns-then-limit-first : goal.returns-then-limit-first
unfolding read_as
returns-then-limit-first c = let e = c.in_ok-first.ensures in plain_high _ _ e.0 e.1 c.if-limit-first.true

pub returns-then-first-eq0 : goal.returns-then-first-eq0
unfolding read_as
returns-then-first-eq0 c = let e = c.in_ok-first.ensures in plain_zero _ _ e.0 e.1 c.if-limit-first.false c.if-first-eq0.true

pub returns : goal.returns
returns c = let e = c.in_ok-first.ensures in c.longer.ensures ∙ plain_longer _ _ e.0 e.1 c.if-limit-first.false c.if-first-eq0.false
