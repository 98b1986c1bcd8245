-- Document 02, Item 2, by examples: the sheet of document 01's two sample roles with its tape, other spellings of it, and each way to fail with its row.
-- Assumes nothing.
use mathlib.Core.Bool.{true, false}
use mathlib.Core.List.{List, [], ◌∷◌, ◌++◌}
use mathlib.Core.Path.{◌≡◌, refl}
use Prim.Native.Nat.{ℕ, ◌+◌}
use lib.ListN.{replicate}
use Rattle.graph.specs.Drawing.{edge_count}
use Rattle.seats.specs.Seats.{fresh}
use Rattle.seats.specs.Calls.{accepted, refused}
use Rattle.seats.specs.Lists.{answers, end}
use Rattle.seats.specs.Tape.{records, line_feed}
use Rattle.sheets.specs.Rfc.{comma, quote, carriage_return, line_end}
use Rattle.sheets.specs.Sheets.{Sheet, Spells, tape_of}
use Rattle.sheets.specs.Importing.{imported, Fails, Imports, fails, spelt}
use Rattle.sheets.specs.Importing as importing
use Rattle.sheets.specs.Computes.{computes}
use Rattle.sheets.proofs.SheetReading.{read_spelt, no_heading, bad_row}

-- The byte of a digit.
abbrev d : ℕ → ℕ
d x = 48 + x

-- ---- a good sheet
-- Privileges 0 and 1; role 2 has 0, role 3 has both.
unfoldable two_roles : Sheet
two_roles = record { columns = 0 ∷ 1 ∷ []; rows = record { role = 2; marks = true ∷ false ∷ [] } ∷ record { role = 3; marks = true ∷ true ∷ [] } ∷ [] }

-- ,0,1 / 2,1,0 / 3,1,1 /
unfoldable text : List ℕ
text = comma ∷ d 0 ∷ comma ∷ d 1 ∷ line_end (d 2 ∷ comma ∷ d 1 ∷ comma ∷ d 0 ∷ line_end (d 3 ∷ comma ∷ d 1 ∷ comma ∷ d 1 ∷ line_end []))

spells : Spells text two_roles
unfolding computes text two_roles
spells = read_spelt (record { behind = d 2 ∷ comma ∷ d 1 ∷ comma ∷ d 0 ∷ line_end (d 3 ∷ comma ∷ d 1 ∷ comma ∷ d 1 ∷ line_end []); headed_by = refl; reads = refl })

-- Its tape, byte by byte: the first two records of document 01's sample tape.
unfoldable tape : List ℕ
tape = ((2 ∷ 2 ∷ replicate 6 0) ++ (1 ∷ replicate 23 0)) ++ ((2 ∷ 3 ∷ replicate 6 0) ++ (3 ∷ replicate 23 0))

its_tape : tape_of two_roles ≡ tape
unfolding computes two_roles tape
its_tape = refl

-- Played from a fresh graph both records are accepted, and three edges are drawn.
played : answers fresh (records tape) ≡ accepted ∷ accepted ∷ []
unfolding computes tape
played = refl

drawn : edge_count (end fresh (records tape)).graph ≡ 3
unfolding computes tape
drawn = refl

-- ---- buffers
-- An exact buffer is filled, a longer one has its bytes behind the tape, a shorter one gives 33 and stays.
exact : Imports text (replicate 64 7) (imported 64) tape
unfolding computes two_roles tape
exact = spelt spells refl

longer : Imports text (replicate 67 7) (imported 64) (tape ++ replicate 3 7)
unfolding computes two_roles tape
longer = spelt spells refl

shorter : Imports text (replicate 63 7) (importing.refused 33 0) (replicate 63 7)
unfolding computes two_roles tape
shorter = spelt spells refl

-- ---- other spellings
-- Without the last line end.
unended : Spells (comma ∷ d 0 ∷ comma ∷ d 1 ∷ line_end (d 2 ∷ comma ∷ d 1 ∷ comma ∷ d 0 ∷ line_end (d 3 ∷ comma ∷ d 1 ∷ comma ∷ d 1 ∷ []))) two_roles
unfolding computes two_roles
unended = read_spelt (record { behind = d 2 ∷ comma ∷ d 1 ∷ comma ∷ d 0 ∷ line_end (d 3 ∷ comma ∷ d 1 ∷ comma ∷ d 1 ∷ []); headed_by = refl; reads = refl })

-- A number's field between quotes.
unfoldable quoted : ℕ → List ℕ → List ℕ
quoted x t = quote ∷ d x ∷ quote ∷ t

-- Every field between quotes.
all_quoted : Spells (quote ∷ quote ∷ comma ∷ quoted 0 (comma ∷ quoted 1 (line_end (quoted 2 (comma ∷ quoted 1 (comma ∷ quoted 0 (line_end (quoted 3 (comma ∷ quoted 1 (comma ∷ quoted 1 [])))))))))) two_roles
unfolding computes two_roles quoted
all_quoted = read_spelt (record { behind = quoted 2 (comma ∷ quoted 1 (comma ∷ quoted 0 (line_end (quoted 3 (comma ∷ quoted 1 (comma ∷ quoted 1 [])))))); headed_by = refl; reads = refl })

-- A heading alone, with and without a line end, is a sheet without rows; its tape is empty.
unfoldable no_rows : Sheet
no_rows = record { columns = 63 ∷ []; rows = [] }

heading_alone : Spells (comma ∷ d 6 ∷ d 3 ∷ []) no_rows
unfolding computes no_rows
heading_alone = read_spelt (record { behind = []; headed_by = refl; reads = refl })

heading-ended : Spells (comma ∷ d 6 ∷ d 3 ∷ line_end []) no_rows
unfolding computes no_rows
heading-ended = read_spelt (record { behind = []; headed_by = refl; reads = refl })

empty_tape : tape_of no_rows ≡ []
unfolding computes no_rows
empty_tape = refl

-- Role numbers 0 and 1 and repeated ones are rows like others: the keeper refuses their records.
unfoldable odd_roles : Sheet
odd_roles = record { columns = 5 ∷ []; rows = record { role = 1; marks = true ∷ [] } ∷ record { role = 2; marks = true ∷ [] } ∷ record { role = 2; marks = true ∷ [] } ∷ [] }

odd_spelt : Spells (comma ∷ d 5 ∷ line_end (d 1 ∷ comma ∷ d 1 ∷ line_end (d 2 ∷ comma ∷ d 1 ∷ line_end (d 2 ∷ comma ∷ d 1 ∷ [])))) odd_roles
unfolding computes odd_roles
odd_spelt = read_spelt (record { behind = d 1 ∷ comma ∷ d 1 ∷ line_end (d 2 ∷ comma ∷ d 1 ∷ line_end (d 2 ∷ comma ∷ d 1 ∷ [])); headed_by = refl; reads = refl })

odd_played : answers fresh (records (tape_of odd_roles)) ≡ refused 3 1 ∷ accepted ∷ refused 20 2 ∷ []
unfolding computes odd_roles
odd_played = refl

-- ---- headings that fail, in row 1
empty_text : Fails [] 1
unfolding computes
empty_text = no_heading refl

-- A line end alone.
empty-heading : Fails (line_end []) 1
unfolding computes
empty-heading = no_heading refl

-- "" without a privilege.
no_privilege : Fails (quote ∷ quote ∷ line_end []) 1
unfolding computes
no_privilege = no_heading refl

-- 7,1
first_field : Fails (d 7 ∷ comma ∷ d 1 ∷ []) 1
unfolding computes
first_field = no_heading refl

-- ,01
leading_zero : Fails (comma ∷ d 0 ∷ d 1 ∷ []) 1
unfolding computes
leading_zero = no_heading refl

-- ,64
privilege_64 : Fails (comma ∷ d 6 ∷ d 4 ∷ []) 1
unfolding computes
privilege_64 = no_heading refl

-- ,+1
sign : Fails (comma ∷ 43 ∷ d 1 ∷ []) 1
unfolding computes
sign = no_heading refl

-- , 1
space : Fails (comma ∷ 32 ∷ d 1 ∷ []) 1
unfolding computes
space = no_heading refl

-- ,1,
empty_number : Fails (comma ∷ d 1 ∷ comma ∷ []) 1
unfolding computes
empty_number = no_heading refl

-- ,1,1
equal_columns : Fails (comma ∷ d 1 ∷ comma ∷ d 1 ∷ []) 1
unfolding computes
equal_columns = no_heading refl

-- ,2,1
descending : Fails (comma ∷ d 2 ∷ comma ∷ d 1 ∷ []) 1
unfolding computes
descending = no_heading refl

-- ,1 and a bare line feed before a row
bare_line_feed : Fails (comma ∷ d 1 ∷ line_feed ∷ d 2 ∷ comma ∷ d 1 ∷ []) 1
unfolding computes
bare_line_feed = no_heading refl

-- ,"1
open_quote : Fails (comma ∷ quote ∷ d 1 ∷ []) 1
unfolding computes
open_quote = no_heading refl

-- ,"1""" : the content 1" is no number
doubled_quote : Fails (comma ∷ quote ∷ d 1 ∷ quote ∷ quote ∷ quote ∷ []) 1
unfolding computes
doubled_quote = no_heading refl

-- ---- rows that fail
-- ,5 and the text of further rows.
unfoldable under : List ℕ → List ℕ
under t = comma ∷ d 5 ∷ line_end t

-- 2,2
mark_2 : Fails (under (d 2 ∷ comma ∷ d 2 ∷ [])) 2
unfolding computes under
mark_2 = bad_row {cs = 5 ∷ []} {t = d 2 ∷ comma ∷ d 2 ∷ []} refl refl

-- 2,01
mark_01 : Fails (under (d 2 ∷ comma ∷ d 0 ∷ d 1 ∷ [])) 2
unfolding computes under
mark_01 = bad_row {cs = 5 ∷ []} {t = d 2 ∷ comma ∷ d 0 ∷ d 1 ∷ []} refl refl

-- 64,1
role_64 : Fails (under (d 6 ∷ d 4 ∷ comma ∷ d 1 ∷ [])) 2
unfolding computes under
role_64 = bad_row {cs = 5 ∷ []} {t = d 6 ∷ d 4 ∷ comma ∷ d 1 ∷ []} refl refl

-- 2
short_row : Fails (under (d 2 ∷ [])) 2
unfolding computes under
short_row = bad_row {cs = 5 ∷ []} {t = d 2 ∷ []} refl refl

-- 2,1,0 before a good row
long_row : Fails (under (d 2 ∷ comma ∷ d 1 ∷ comma ∷ d 0 ∷ line_end (d 3 ∷ comma ∷ d 1 ∷ []))) 2
unfolding computes under
long_row = bad_row {cs = 5 ∷ []} {t = d 2 ∷ comma ∷ d 1 ∷ comma ∷ d 0 ∷ line_end (d 3 ∷ comma ∷ d 1 ∷ [])} refl refl

-- A good row, an empty one, a good row.
empty-row : Fails (under (d 2 ∷ comma ∷ d 1 ∷ line_end (line_end (d 3 ∷ comma ∷ d 1 ∷ [])))) 3
unfolding computes under
empty-row = bad_row {cs = 5 ∷ []} {t = d 2 ∷ comma ∷ d 1 ∷ line_end (line_end (d 3 ∷ comma ∷ d 1 ∷ []))} refl refl

-- A good row and two line ends.
second_line_end : Fails (under (d 2 ∷ comma ∷ d 1 ∷ line_end (line_end []))) 3
unfolding computes under
second_line_end = bad_row {cs = 5 ∷ []} {t = d 2 ∷ comma ∷ d 1 ∷ line_end (line_end [])} refl refl

-- A good row, and one with a carriage return alone behind it.
bare_return : Fails (under (d 2 ∷ comma ∷ d 1 ∷ line_end (d 3 ∷ comma ∷ d 1 ∷ carriage_return ∷ []))) 3
unfolding computes under
bare_return = bad_row {cs = 5 ∷ []} {t = d 2 ∷ comma ∷ d 1 ∷ line_end (d 3 ∷ comma ∷ d 1 ∷ carriage_return ∷ [])} refl refl

-- A good row, and one whose quote is open up to the text's end.
open_row : Fails (under (d 2 ∷ comma ∷ d 1 ∷ line_end (d 3 ∷ comma ∷ quote ∷ d 1 ∷ line_end []))) 3
unfolding computes under
open_row = bad_row {cs = 5 ∷ []} {t = d 2 ∷ comma ∷ d 1 ∷ line_end (d 3 ∷ comma ∷ quote ∷ d 1 ∷ line_end [])} refl refl

-- 32 comes before 33: a bad row is told whatever the buffer's length, and the buffer stays.
before_33 : Imports (under (d 2 ∷ comma ∷ d 1 ∷ line_end (line_end []))) [] (importing.refused 32 3) []
before_33 = fails second_line_end
