-- `keeper::imports::keeper_import` meets its contract: the answer of the importer as one number.
-- Assumes nothing.
use mathlib.Core.Path.{refl, ap}
use native.Mathlib.Omega.{arith}
use Rattle.std.specs.Prelude.{Err}
use Rattle.sheets.specs.Importing.{imported, refused}
use Rattle.sheets.specs.Reading.{read_imported}
use Rattle.sheets.proofs.Outcomes.{place_bound}
use Rattle.keeper.specs.Imports.{import_code}
use Rattle.keeper.proofs.imports.keeper_import.Goals as goal

pub overflow_add-result : goal.overflow_add-result
unfolding read_imported
overflow_add-result c =
    let b = place_bound c.in-Err-BadRow.ensures (ap (λ e. read_imported (Err e)) c.in-Err-BadRow.field-0-is) in
    omega arith

pub returns-in-Ok : goal.returns-in-Ok
unfolding read_imported import_code
returns-in-Ok c = record { answer = imported c.in-Ok.length; imports = c.in-Ok.ensures; code = refl }

pub returns-in-Err-BadRow : goal.returns-in-Err-BadRow
unfolding read_imported import_code
returns-in-Err-BadRow c = record { answer = refused 32 c.in-Err-BadRow.row; imports = rw c.in-Err-BadRow.field-0-is at c.in-Err-BadRow.ensures; code = refl }

pub returns-in-Err-NoRoom : goal.returns-in-Err-NoRoom
unfolding read_imported import_code
returns-in-Err-NoRoom c = record { answer = refused 33 0; imports = rw c.in-Err-NoRoom.field-0-is at c.in-Err-NoRoom.ensures; code = refl }
