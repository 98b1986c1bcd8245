-- `fields::longer` meets its contract: the digits that are left, behind those that are read, make the whole.
-- Assumes nothing.
use mathlib.Core.Path.{sym, ◌∙◌}
use native.Mathlib.Omega.{arith}
use Rattle.sheets.specs.Working.{read_as}
use Rattle.sheets.proofs.FieldLaws.{longer_done, longer_high, longer_next}
use Rattle.sheets.proofs.fields.longer.Goals as goal

pub returns-in_err-checked_mul : goal.returns-in_err-checked_mul
unfolding read_as
returns-in_err-checked_mul c =
    let e = c.in-Some.ensures in
    let high = c.in_err-checked_mul.ensures in
    let fits = c.ranges.limit.fits in
    rw c.from_residual.ensures (longer_high _ _ _ e.0 e.1 (omega arith) ∙ sym c.loop-d.invariant.same)

pub returns-in_err-n : goal.returns-in_err-n
unfolding read_as
returns-in_err-n c =
    let e = c.in-Some.ensures in
    let made = c.in_ok-checked_mul.ensures in
    let high = c.in_err-n.ensures in
    let fits = c.ranges.limit.fits in
    rw c.from_residual-in_err-n.ensures (longer_high _ _ _ e.0 e.1 (omega arith) ∙ sym c.loop-d.invariant.same)

pub returns-then-limit-n : goal.returns-then-limit-n
unfolding read_as
returns-then-limit-n c =
    let e = c.in-Some.ensures in
    let made = c.in_ok-checked_mul.ensures in
    let more = c.in_ok-n.ensures in
    longer_high _ _ _ e.0 e.1 (omega arith) ∙ sym c.loop-d.invariant.same

pub loop-d-preserved : goal.loop-d-preserved
loop-d-preserved c =
    let e = c.in-Some.ensures in
    let made = c.in_ok-checked_mul.ensures in
    let more = c.in_ok-n.ensures in
    record { fits = omega arith; same = c.loop-d.invariant.same ∙ longer_next _ _ _ e.0 e.1 (omega arith) (omega arith) }

pub returns : goal.returns
unfolding read_as
returns c = longer_done _ _ _ c.in_default.ensures ∙ sym c.loop-d.invariant.same
