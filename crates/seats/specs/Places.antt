-- Document 01, "The tape": the records of a tape by the places where they start, as a reader gives them.
use Rattle.std.specs.Prelude.{Bool, cond, List, [], ◌∷◌, ℕ, zero, suc, ◌+◌, min, length, take, drop, leb}
use Rattle.seats.specs.Records.{record_length}

-- No record starts at the place: it is at the end of the tape or beyond.
abbrev pub is_end : List ℕ → ℕ → Bool
is_end tape at = leb (length tape) at

-- The record at a place: the record's length of bytes, or what is left.
abbrev pub record_at : List ℕ → ℕ → List ℕ
record_at tape at = take record_length (drop at tape)

-- The place where the record at a place ends, and the next one starts.
abbrev pub record_end : List ℕ → ℕ → ℕ
record_end tape at = min (at + record_length) (length tape)

-- The records from a place on, n at the most: at the end none; else the record there, and those from where it ends.
unfoldable pub records_from : ℕ → List ℕ → ℕ → List (List ℕ)
records_from zero tape at = []
records_from (suc n) tape at = cond (is_end tape at) [] (record_at tape at ∷ records_from n tape (record_end tape at))
