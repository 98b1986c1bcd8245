-- How the importer's answer is read as the paper's.
use Rattle.std.specs.Prelude.{Result, Ok, Err, ℕ}
use Rattle.sheets.specs.Importing.{Imported, imported, refused}
use Rattle.sheets.specs.declared.ImportError.{ImportError}
use Rattle.sheets.specs.declared.ImportError.TheVariants.{BadRow, NoRoom}

-- The length written; refusal 32 at a bad row, or refusal 33 at place 0.
unfoldable pub read_imported : Result ℕ ImportError → Imported
read_imported (Ok n) = imported n
read_imported (Err (BadRow row)) = refused 32 row
read_imported (Err NoRoom) = refused 33 0
