-- The customer's three demands on the importer, over the promise that its contract cites: a field for each sentence, its meaning above it.
-- Texts and buffers are any.
use Rattle.std.specs.Prelude.{List, Result, map, ◌↔◌, ◌⊎◌, ◌≡◌, ℕ, ◌*◌, ◌/◌, ◌<◌, ◌≤◌, length, take, drop}
use Rattle.lists.specs.Runs.{run, Chain}
use Rattle.seats.specs.Records.{record_length, well_formed, decode}
use Rattle.seats.specs.Tape.{records}
use Rattle.seats.specs.Demands.{One}
use Rattle.seats.specs.Reading.{read_answer}
use Rattle.seats.specs.Replies.{Answer}
use Rattle.sittings.specs.Calls.{call, perform}
use Rattle.sittings.specs.Promises.{StepPromise, KeeperStart, KeeperTheorem}
use Rattle.sittings.specs.Reading.{read_sitting}
use Rattle.sittings.specs.declared.Sitting.{Sitting}
use Rattle.sheets.specs.Sheets.{Sheet, Spells, calls_of, tape_of}
use Rattle.sheets.specs.Importing.{imported, refused, Fails}
use Rattle.sheets.specs.Importing as importing
use Rattle.sheets.specs.Reading.{read_imported}
use Rattle.sheets.specs.Promises.{ImportPromise}
use Rattle.sheets.specs.declared.ImportError.{ImportError}

-- An answer and the buffer left, as the definitions have them.
abbrev pub read_left : Result ℕ ImportError × List ℕ → importing.Imported × List ℕ
read_left z = (read_imported z.0, z.1)

-- ---- demand 1: every text is answered, and a refusal has its number and place and changes nothing

pub record DemandOne : Type 0 where
  -- A text spells a sheet, or fails at a row; never both, and neither two sheets nor at two rows.
  pub spelt_or_fails : (text : List ℕ) → ((s : Sheet) × Spells text s) ⊎ ((row : ℕ) × Fails text row)
  pub not_both : (text : List ℕ) (s : Sheet) (row : ℕ) → Spells text s → Fails text row → ⊥
  pub one_sheet : (text : List ℕ) (s t : Sheet) → Spells text s → Spells text t → s ≡ t
  pub one-row : (text : List ℕ) (m n : ℕ) → Fails text m → Fails text n → m ≡ n
  -- To every text with every buffer there is an answer and a buffer left, and by the promise no other.
  pub import_answered : (text buffer : List ℕ) → One read_left (λ z. ImportPromise text buffer z.0 z.1)
  -- A refusal has number 32 and the row of a text that fails, or number 33 and place 0; it leaves every byte of the buffer.
  pub import_refused : (text buffer left : List ℕ) (r : Result ℕ ImportError) (n p : ℕ) → ImportPromise text buffer r left → read_imported r ≡ refused n p
      → (((n ≡ 32) × Fails text p) ⊎ ((n ≡ 33) × (p ≡ 0))) × (left ≡ buffer)

-- ---- demand 2: exactly what the request defines

pub record DemandTwo : Type 0 where
  -- A text is refused with 32 exactly where it fails, at that row, whatever the buffer.
  pub text_refused_iff : (text buffer left : List ℕ) (r : Result ℕ ImportError) (row : ℕ) → ImportPromise text buffer r left → (read_imported r ≡ refused 32 row) ↔ Fails text row
  -- It is refused with 33 exactly where it spells a sheet and the buffer has fewer bytes than the sheet's tape.
  pub tape_refused_iff : (text buffer left : List ℕ) (r : Result ℕ ImportError) (p : ℕ) → ImportPromise text buffer r left
      → (read_imported r ≡ refused 33 p) ↔ ((p ≡ 0) × (s : Sheet) × Spells text s × (length buffer < length (tape_of s)))
  -- Otherwise the tape stands at the buffer's front with nothing behind it touched, and the answer is its length.
  pub import_accepted : (text buffer left : List ℕ) (r : Result ℕ ImportError) (s : Sheet) → ImportPromise text buffer r left → Spells text s → length (tape_of s) ≤ length buffer
      → (read_imported r ≡ imported (length (tape_of s))) × (take (length (tape_of s)) left ≡ tape_of s) × (drop (length (tape_of s)) left ≡ drop (length (tape_of s)) buffer)
  -- A length is the answer of no other text.
  pub import_spelt : (text buffer left : List ℕ) (r : Result ℕ ImportError) (n : ℕ) → ImportPromise text buffer r left → read_imported r ≡ imported n
      → (s : Sheet) × Spells text s × (n ≡ length (tape_of s)) × (n ≤ length buffer)
  -- The tape has a record for each row, in row order, and it decodes to the row's call of kind 2.
  pub rows-decode : (text : List ℕ) (s : Sheet) → Spells text s → map decode (records (tape_of s)) ≡ map well_formed (calls_of s)
  -- A record's length for each five bytes of the text takes every tape.
  pub room_enough : (text : List ℕ) (s : Sheet) → Spells text s → length (tape_of s) ≤ record_length * (length text / 5)

-- ---- demand 3: a sheet's tape as a list of calls

pub record DemandThree : Type 1 where
  -- A keeper that takes the records of a sheet's tape one by one, from any sitting, answers and ends as the calls of its rows do.
  pub played : (text : List ℕ) (s : Sheet) (c d : Sitting) (m : List Answer) → Spells text s → Chain StepPromise c (records (tape_of s)) m d
      → (map read_answer m, read_sitting d) ≡ run perform (read_sitting c) (map call (calls_of s))
  -- From every start it has the list theorem.
  pub every_tape : (text : List ℕ) (s : Sheet) (c d : Sitting) (m : List Answer) → Spells text s → KeeperStart c → Chain StepPromise c (records (tape_of s)) m d
      → KeeperTheorem c (records (tape_of s)) m d

-- The three together.
pub record Demands : Type 1 where
  pub one : DemandOne
  pub two : DemandTwo
  pub three : DemandThree
