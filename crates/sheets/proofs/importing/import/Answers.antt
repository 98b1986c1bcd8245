-- `importing::import` meets its contract: one law for each way out.
-- Assumes nothing.
use Rattle.std.proofs.lemmas.Result.{err_from_is_err_and}
use Rattle.sheets.specs.Reading.{read_imported}
use Rattle.sheets.proofs.ImportLaws.{headed, import_headless, import_bad, import_short, tape_fits, import_done}
use Rattle.sheets.proofs.importing.import.Goals as goal

pub returns-in_err-heading : goal.returns-in_err-heading
returns-in_err-heading c =
    let p = err_from_is_err_and c.from_residual.result c.from_residual.ensures.1 in
    let e = c.in_err-heading.ensures in
    rw (p.1, p.2) (import_headless _ _ c.read_heading.ensures e.ok_part e.value)

pub returns-in_err-rows : goal.returns-in_err-rows
returns-in_err-rows c =
    let p = err_from_is_err_and c.from_residual-in_err-rows.result c.from_residual-in_err-rows.ensures.1 in
    let h = headed _ c.read_heading.ensures c.in_ok-heading.ensures.ok_part c.as_slice-columns.ensures in
    rw (p.1, p.2) (import_bad _ _ h c.in_err-rows.ensures)

pub returns-then-tape-rows : goal.returns-then-tape-rows
unfolding read_imported
returns-then-tape-rows c =
    let h = headed _ c.read_heading.ensures c.in_ok-heading.ensures.ok_part c.as_slice-columns.ensures in
    import_short _ _ h c.in_ok-rows.ensures c.if-tape-rows.true

pub write_rows-requires : goal.write_rows-requires
write_rows-requires c =
    let h = headed _ c.read_heading.ensures c.in_ok-heading.ensures.ok_part c.as_slice-columns.ensures in
    tape_fits _ _ h c.in_ok-rows.ensures c.if-tape-rows.false

pub returns : goal.returns
unfolding read_imported
returns c =
    let h = headed _ c.read_heading.ensures c.in_ok-heading.ensures.ok_part c.as_slice-columns.ensures in
    import_done _ _ h c.in_ok-rows.ensures c.if-tape-rows.false c.write_rows.ensures
