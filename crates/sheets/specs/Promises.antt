-- What the importer promises of one text and one buffer.
use Rattle.std.specs.Prelude.{List, Result, ℕ}
use Rattle.sheets.specs.Importing.{Imports}
use Rattle.sheets.specs.Reading.{read_imported}
use Rattle.sheets.specs.declared.ImportError.{ImportError}

-- By the text, with the buffer, importing answers r and leaves the buffer as `left`.
abbrev pub ImportPromise : List ℕ → List ℕ → Result ℕ ImportError → List ℕ → Type 0
ImportPromise text buffer r left = Imports text buffer (read_imported r) left
