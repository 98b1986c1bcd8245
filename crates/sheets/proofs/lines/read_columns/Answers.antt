-- `lines::read_columns` meets its contract: the columns so far stand in the array, and with those that are left they make the whole.
-- Assumes nothing.
use mathlib.Core.Path.{refl}
use native.Mathlib.Omega.{arith}
use Rattle.sheets.specs.Working.{read_as}
use Rattle.sheets.proofs.ColumnLaws.{gathering_start, gathering_no, gathering_low, gathering_lt, gathering_next, gathering_done}
use Rattle.sheets.proofs.lines.read_columns.Goals as goal

pub loop-number-init : goal.loop-number-init
loop-number-init c = gathering_start _ _ refl

pub returns-in_err-column : goal.returns-in_err-column
unfolding read_as
returns-in_err-column c = let s = c.in-Some.ensures.cases in rw c.from_residual.ensures (gathering_no c.loop-number.invariant s.0 s.1 c.in_err-column.ensures)

pub returns-then-column-low : goal.returns-then-column-low
unfolding read_as
returns-then-column-low c = let s = c.in-Some.ensures.cases in gathering_low c.loop-number.invariant s.0 s.1 c.in_ok-column.ensures c.if-column-low.true

pub bounds-array-count : goal.bounds-array-count
unfolding read_as
bounds-array-count c =
    let v = c.loop-number.invariant in
    let s = c.in-Some.ensures.cases in
    let l = gathering_lt v s.0 s.1 c.in_ok-column.ensures in
    omega arith

pub overflow_add-low : goal.overflow_add-low
unfolding read_as
overflow_add-low c = let s = c.in-Some.ensures.cases in let l = gathering_lt c.loop-number.invariant s.0 s.1 c.in_ok-column.ensures in omega arith

pub loop-number-smaller : goal.loop-number-smaller
unfolding read_as
loop-number-smaller c =
    let v = c.loop-number.invariant in
    let s = c.in-Some.ensures.cases in
    let l = gathering_lt v s.0 s.1 c.in_ok-column.ensures in
    omega arith

pub loop-number-preserved : goal.loop-number-preserved
unfolding read_as
loop-number-preserved c = let s = c.in-Some.ensures.cases in gathering_next c.loop-number.invariant s.0 s.1 c.in_ok-column.ensures c.if-column-low.false

pub returns : goal.returns
unfolding read_as
returns c = gathering_done c.loop-number.invariant c.in_default.ensures.cases
