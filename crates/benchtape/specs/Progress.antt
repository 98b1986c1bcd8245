-- What the functions of benchtape promise each other: how far the program has come with the bytes read so far.
use Rattle.std.specs.Prelude.{true, List, ◌≡◌, ℕ, ◌+◌, ◌*◌, ◌%◌, ◌^◌, ◌<◌, ◌≤◌, eqb, length, take}
use Rattle.graph.specs.Drawing.{edge_count}
use Rattle.seats.specs.Records.{record_length}
use Rattle.seats.specs.Tape.{fed, end_line}
use Rattle.sittings.specs.Sittings.{Sitting, fresh}
use Rattle.sittings.specs.Records.{step}
use Rattle.sittings.specs.Reading.{read_sitting}
use Rattle.benchtape.specs.declared.Progress as progress-struct

-- How many records are read at once, and how many bytes these are.
abbrev pub chunk_records : ℕ
chunk_records = 1024

abbrev pub chunk_length : ℕ
chunk_length = chunk_records * record_length

-- The first n numbers of a list are n.
abbrev pub IsPrefixLen : ℕ → List ℕ → Type 0
IsPrefixLen n xs = (n ≤ length xs) × (n ≡ length (take n xs))

-- The records so far and the sitting.
abbrev pub standing : progress-struct.Progress → ℕ × Sitting
standing r = (r.count, read_sitting r.sitting)

-- The last line.
abbrev pub last_line : progress-struct.Progress → List ℕ
last_line r = end_line r.count (edge_count (read_sitting r.sitting).state.graph)

-- The progress r is that of s after these bytes: they are fed, and there may be more where they are a whole chunk.
pub record Answered (s : progress-struct.Progress) (bytes : List ℕ) (r : progress-struct.Progress) : Type 0 where
  pub done : standing r ≡ (fed step (read_sitting s.sitting) s.count bytes).1
  pub bound : r.count < 2 ^ 64
  pub more : r.more ≡ eqb (length bytes) chunk_length

-- The program stands where a tape, the bytes read so far, takes a fresh sitting; while there may be more, the tape ends where a record ends.
pub record Reached (r : progress-struct.Progress) : Type 0 where
  pub tape : List ℕ
  pub stands : standing r ≡ (fed step fresh 0 tape).1
  pub whole : r.more ≡ true → length tape % record_length ≡ 0

-- The progress r stands where some bytes after those of s take it; where there may be more, a chunk has been answered.
pub record Proceeded (s r : progress-struct.Progress) : Type 0 where
  pub reached : Reached r
  pub grown : r.more ≡ true → r.count ≡ s.count + chunk_records
  pub bound : r.more ≡ true → r.count < 2 ^ 64
