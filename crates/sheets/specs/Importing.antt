-- Document 02, Item 2, "Answers": what importing a text answers, and the buffer that it leaves.
use Rattle.std.specs.Prelude.{List, [], ◌∷◌, ◌++◌, ◌≡◌, ℕ, zero, suc, length}
use Rattle.seats.specs.Bytes.{Filled, written, too_short, fill}
use Rattle.sheets.specs.Rfc.{Record, line_end}
use Rattle.sheets.specs.Sheets.{Sheet, Good, table_of, Spells, tape_of}

-- Records, each before a line end, and any text behind them.
pub data Begins : List (List (List ℕ)) → List ℕ → Type 0 where
  any_text : {t : List ℕ} → Begins [] t
  one-more : {r : List (List ℕ)} {l : List (List (List ℕ))} {w t : List ℕ} → Record r w → Begins l t → Begins (r ∷ l) (w ++ line_end t)

-- The text begins with n rows of a sheet, the heading among them, each before a line end.
unfoldable pub Leads : ℕ → List ℕ → Type 0
Leads zero text = Unit {0}
Leads (suc n) text = (s : Sheet) × Good s × (length s.rows ≡ n) × Begins (table_of s) text

-- The text spells no sheet, and the row, the heading being row 1, is the first that is no row of a sheet.
pub record Fails (text : List ℕ) (row : ℕ) : Type 0 where
  pub before : ℕ
  pub place : row ≡ suc before
  pub unspelt : (s : Sheet) → Spells text s → ⊥
  pub led : Leads before text
  pub stopped : Leads (suc before) text → ⊥

-- What importing answers: the length of the tape, or a refusal with its number and place.
pub data Imported : Type 0 where
  imported : ℕ → Imported
  refused : ℕ → ℕ → Imported

-- What filling the tape's buffer answers is the importer's answer.
unfoldable pub filled : Filled → Imported
filled (written n) = imported n
filled (too_short n p) = refused n p

-- Refusal 32 at the first bad row, and the buffer stays; otherwise the sheet's tape fills the buffer, or refusal 33 where that is too short.
pub data Imports (text buffer : List ℕ) : Imported → List ℕ → Type 0 where
  fails : {row : ℕ} → Fails text row → Imports text buffer (refused 32 row) buffer
  spelt : {s : Sheet} {a : Filled} {left : List ℕ} → Spells text s → (a, left) ≡ fill 33 (tape_of s) buffer → Imports text buffer (filled a) left
