-- `fields::digit` meets its contract: the bytes from 48 to 57 are the digits.
-- Assumes nothing.
use Rattle.sheets.proofs.FieldLaws.{no_digit_in, no_digit_first}
use Rattle.sheets.proofs.fields.digit.Goals as goal

pub returns-in_err-first : goal.returns-in_err-first
returns-in_err-first c = rw c.from_residual.ensures (no_digit_in _ c.in_err-first.ensures.cases)

pub returns-then-not-is_ascii_digit : goal.returns-then-not-is_ascii_digit
returns-then-not-is_ascii_digit c = no_digit_first c.in_ok-first.ensures.cases.0 c.if-not-is_ascii_digit.ensures.cases
