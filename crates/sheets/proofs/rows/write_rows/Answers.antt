-- `rows::write_rows` meets its contract: the records of the rows that are left are left to write.
-- Assumes nothing.
use native.Mathlib.Omega.{arith}
use Rattle.sheets.specs.Working.{read_as}
use Rattle.sheets.proofs.RowLaws.{taping_start, taping_length, taping_room, taping_next, taping_done, row_falls}
use Rattle.sheets.proofs.rows.write_rows.Goals as goal

pub loop-row-init : goal.loop-row-init
loop-row-init c = taping_start _ _ _ _ c.requires

pub slice_bounds-write_add_by_privileges-count : goal.slice_bounds-write_add_by_privileges-count
unfolding read_as
slice_bounds-write_add_by_privileges-count c = let o = taping_room c.loop-row.invariant c.in-Some.ensures in omega arith

pub overflow_add-to : goal.overflow_add-to
unfolding read_as
overflow_add-to c =
    let v = c.loop-row.invariant in
    let o = taping_room v c.in-Some.ensures in
    let l = taping_length v in
    omega arith

pub loop-row-smaller : goal.loop-row-smaller
unfolding read_as
loop-row-smaller c = row_falls _ _ _ c.in-Some.ensures

pub loop-row-preserved : goal.loop-row-preserved
unfolding read_as
loop-row-preserved c = taping_next c.loop-row.invariant c.in-Some.ensures _ c.write_add_by_privileges.ensures

pub returns : goal.returns
unfolding read_as
returns c = taping_done c.loop-row.invariant c.in_default.ensures
