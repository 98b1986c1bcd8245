-- What the contracts of private functions speak of: what they read, and rows by what is known of their columns.
use Rattle.std.specs.Prelude.{Bool, cond, List, [], ◌∷◌, map, Option, Some, None, Result, Ok, Err, ◌≡◌, ℕ, ◌+◌, length, take, ltb}
use Rattle.std.specs.Borrow.{Bor}
use Rattle.sets.specs.Sets.{empty, single, union, when}
use Rattle.graph.specs.Graph.{privilege_count}
use Rattle.graph.specs.Reading.{read_set}
use Rattle.graph.specs.declared.PrivilegeSet as privilege-set-struct
use Rattle.seats.specs.Tape.{joined}
use Rattle.sheets.specs.Sheets.{Row, record_with}
use Rattle.sheets.specs.Parsing.{Read, got, bad, quotable}
use Rattle.sheets.specs.declared.ImportError.{ImportError}
use Rattle.sheets.specs.declared.ImportError.TheVariants.{BadRow}
use Rattle.sheets.specs.declared.columns.Columns as columns-struct
use Rattle.sheets.specs.declared.lines.Row as row-struct

-- What was read with the text behind it, or nothing, where f says what the code's value stands for.
unfoldable pub read_as : {V X : Type 0} → (V → X) → Option (V × Bor (List ℕ)) → Read X
read_as f None = bad
read_as f (Some r) = got (f r.0) r.1.now

-- A number read.
abbrev pub read_number : Option (ℕ × Bor (List ℕ)) → Read ℕ
read_number = read_as (λ n. n)

-- Where each call of a function reads what f reads, r is what f reads plain or between quotes.
abbrev pub ReadQuotable : (Bor (List ℕ) → Option (ℕ × Bor (List ℕ)) → Type 0) → List ℕ → Option (ℕ × Bor (List ℕ)) → Type 0
ReadQuotable Call text r = (f : List ℕ → Read ℕ) → ((t : Bor (List ℕ)) (q : Option (ℕ × Bor (List ℕ))) → Call t q → read_number q ≡ f t.now) → read_number r ≡ quotable f text

-- The end of a line read.
unfoldable pub read_end : Option (Bor (List ℕ)) → Read (Unit {0})
read_end None = bad
read_end (Some t) = got tt t.now

-- The numbers of columns.
abbrev pub columns_of : columns-struct.Columns → List ℕ
columns_of c = take c.count c.array

-- Columns read.
abbrev pub read_columns : Option (columns-struct.Columns × Bor (List ℕ)) → Read (List ℕ)
read_columns = read_as columns_of

-- The set of marks read.
abbrev pub read_marks : Option (privilege-set-struct.PrivilegeSet × Bor (List ℕ)) → Read ℕ
read_marks = read_as read_set

-- A row's role and set read.
abbrev pub read_row : Option (row-struct.Row × Bor (List ℕ)) → Read (ℕ × ℕ)
read_row = read_as (λ r. (r.role.0, read_set r.set))

-- How many rows were found, where there is nothing behind them; otherwise the row behind them is bad, the heading being row 1.
unfoldable pub counted : List Row × Bool → Result ℕ ImportError
counted found = cond found.1 (Ok (length found.0)) (Err (BadRow (length found.0 + 2)))

-- The privilege of a column, where it is one, if the column is marked.
abbrev pub column_set : ℕ → Bool → ℕ
column_set c b = when b (when (ltb c privilege_count) (single c))

-- The privileges of the marked columns, as far as they are privileges.
unfoldable pub known_set : List ℕ → List Bool → ℕ
known_set [] marks = empty
known_set (c ∷ columns) [] = empty
known_set (c ∷ columns) (b ∷ marks) = union (column_set c b) (known_set columns marks)

-- Marks read as a set, with members that it has already.
unfoldable pub added : List ℕ → ℕ → Read (List Bool) → Read ℕ
added columns set bad = bad
added columns set (got m t) = got (union set (known_set columns m)) t

-- A row's role and set.
unfoldable pub meant : List ℕ → Read Row → Read (ℕ × ℕ)
meant columns bad = bad
meant columns (got r t) = got (r.role, known_set columns r.marks) t

-- The records of rows.
unfoldable pub known_records : List ℕ → List Row → List ℕ
known_records columns l = joined (map (λ (r : Row). record_with r.role (known_set columns r.marks)) l)
