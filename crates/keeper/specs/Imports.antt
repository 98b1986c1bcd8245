-- The demands on the exported importer: its answer as one number, which tells the answer.
use Rattle.std.specs.Prelude.{List, ◌++◌, ◌↔◌, ◌≡◌, ℕ, ◌+◌, ◌^◌, ◌<◌, ◌≤◌, length, drop}
use Rattle.sheets.specs.Sheets.{Sheet, Spells, tape_of}
use Rattle.sheets.specs.Importing.{Imported, imported, refused, Fails, Imports}

-- What is added to the place of a refused import, so that it is no length: no buffer has so many bytes.
abbrev pub not_imported : ℕ
not_imported = 2 ^ 63

-- What an import answers as one number: the length written, or the place with not-imported added.
unfoldable pub import_code : Imported → ℕ
import_code (imported n) = n
import_code (refused n p) = not_imported + p

-- By the text, with the buffer, keeper_import answers r and leaves the buffer as `left`.
pub record ImportPromise (text buffer : List ℕ) (r : ℕ) (left : List ℕ) : Type 0 where
  pub answer : Imported
  pub imports : Imports text buffer answer left
  pub code : r ≡ import_code answer

pub record DemandsOnImports : Type 0 where
  -- Two answers to one text and one buffer are the same number and leave the same bytes.
  pub one_answer : (text buffer left leaves : List ℕ) (r q : ℕ) → ImportPromise text buffer r left → ImportPromise text buffer q leaves → (r ≡ q) × (left ≡ leaves)
  -- A number from not-imported on leaves every byte of the buffer.
  pub refused_leaves : (text buffer left : List ℕ) (r : ℕ) → length buffer < not_imported → ImportPromise text buffer r left → not_imported ≤ r → left ≡ buffer
  -- It is not-imported and a row from 1 on exactly where the text fails at that row.
  pub bad_row_iff : (text buffer left : List ℕ) (r row : ℕ) → length buffer < not_imported → 0 < row → ImportPromise text buffer r left → (r ≡ not_imported + row) ↔ Fails text row
  -- It is not-imported alone exactly where the text spells a sheet whose tape is longer than the buffer.
  pub short_tape_iff : (text buffer left : List ℕ) (r : ℕ) → length buffer < not_imported → ImportPromise text buffer r left
      → (r ≡ not_imported) ↔ ((s : Sheet) × Spells text s × (length buffer < length (tape_of s)))
  -- Otherwise it is the length of the sheet's tape, which stands at the buffer's front.
  pub length_iff : (text buffer left : List ℕ) (r : ℕ) → length buffer < not_imported → ImportPromise text buffer r left
      → (r < not_imported) ↔ ((s : Sheet) × Spells text s × (r ≡ length (tape_of s)) × (r ≤ length buffer) × (left ≡ tape_of s ++ drop r buffer))
