-- Document 02, Item 2: sheets, the text that spells one, and the tape that one means.
use Rattle.std.specs.Prelude.{Bool, cond, List, [], ◌∷◌, map, ◌≢◌, ◌≡◌, ℕ, ◌<◌, length}
use Rattle.sets.specs.Sets.{empty, single, union, when}
use Rattle.lists.specs.Runs.{Each}
use Rattle.graph.specs.Graph.{role_count, privilege_count}
use Rattle.graph.specs.Editing.{add_by_privileges}
use Rattle.seats.specs.Calls.{Call, change}
use Rattle.seats.specs.Records.{record_of}
use Rattle.seats.specs.Tape.{digits, joined}
use Rattle.sheets.specs.Rfc.{File}

-- A row: a role, and for each column whether it is marked.
pub record Row : Type 0 where
  pub role : ℕ
  pub marks : List Bool

-- A sheet: the privileges over its columns, and its rows.
pub record Sheet : Type 0 where
  pub columns : List ℕ
  pub rows : List Row

-- ---- the rules of a sheet

-- Each number is above the one before it.
unfoldable pub Ascending : List ℕ → Type 0
Ascending [] = Unit {0}
Ascending (x ∷ []) = Unit {0}
Ascending (x ∷ y ∷ l) = (x < y) × Ascending (y ∷ l)

-- A row under n columns: a role's number, and a mark for each column.
pub record GoodRow (n : ℕ) (r : Row) : Type 0 where
  pub role_below : r.role < role_count
  pub as_many : length r.marks ≡ n

-- One or more columns, strictly ascending, each a privilege's number, and good rows under them.
pub record Good (s : Sheet) : Type 0 where
  pub some_column : s.columns ≢ []
  pub ascending : Ascending s.columns
  pub columns_below : Each (λ c. c < privilege_count) s.columns
  pub good_rows : Each (GoodRow (length s.columns)) s.rows

-- ---- the text of a sheet

-- The number that stands for a mark.
abbrev pub bit : Bool → ℕ
bit b = cond b 1 0

-- The contents of the heading's fields: an empty one, and the columns in base ten.
abbrev pub heading_fields : List ℕ → List (List ℕ)
heading_fields columns = [] ∷ map digits columns

-- The contents of a row's fields: the role and the marks in base ten.
abbrev pub row_fields : Row → List (List ℕ)
row_fields r = digits r.role ∷ map digits (map bit r.marks)

-- The contents of a sheet's fields, row by row.
unfoldable pub table_of : Sheet → List (List (List ℕ))
table_of s = heading_fields s.columns ∷ map row_fields s.rows

-- The text spells the sheet: it follows the rules, and by RFC 4180 the text has the contents of its fields.
pub record Spells (text : List ℕ) (s : Sheet) : Type 0 where
  pub good : Good s
  pub file : File (table_of s) text

-- ---- the meaning of a sheet

-- The privileges of the marked columns.
unfoldable pub set_of : List ℕ → List Bool → ℕ
set_of [] marks = empty
set_of (c ∷ columns) [] = empty
set_of (c ∷ columns) (b ∷ marks) = union (when b (single c)) (set_of columns marks)

-- A row's call, of kind 2: the role is added with the privileges of the marked columns.
unfoldable pub row_call : List ℕ → Row → Call
row_call columns r = change (add_by_privileges r.role (set_of columns r.marks))

-- The record of kind 2 of a role and a set.
abbrev pub record_with : ℕ → ℕ → List ℕ
record_with role set = record_of 2 (record { a = role; b = 0; x = set; y = empty; z = empty })

-- The record of a row's call.
unfoldable pub row_record : List ℕ → Row → List ℕ
row_record columns r = record_with r.role (set_of columns r.marks)

-- The calls of a sheet, in row order.
unfoldable pub calls_of : Sheet → List Call
calls_of s = map (row_call s.columns) s.rows

-- The tape of a sheet: the records of its rows, in row order.
unfoldable pub tape_of : Sheet → List ℕ
tape_of s = joined (map (row_record s.columns) s.rows)
