-- Document 01, "The tape": the records of a tape, the lines that benchtape prints, and a tape fed in parts, for any step.
use Rattle.std.specs.Prelude.{cond, true, false, List, [], ◌∷◌, ◌++◌, ◌≡◌, ℕ, zero, suc, ◌+◌, ◌/◌, ◌%◌, ◌^◌, length, take, drop, leb, ltb}
use Rattle.lists.specs.Runs.{run}
use Rattle.seats.specs.Bytes.{Filled, fill}
use Rattle.seats.specs.Calls.{Answer, accepted, answered, refused}
use Rattle.seats.specs.Records.{record_length}

-- The records of a tape, n at the most: each has the record's length but the last, which has what is left.
unfoldable pub records_upto : ℕ → List ℕ → List (List ℕ)
records_upto zero tape = []
records_upto (suc n) [] = []
records_upto (suc n) (x ∷ tape) = take record_length (x ∷ tape) ∷ records_upto n (drop record_length (x ∷ tape))

-- The records of a tape; it has no more of them than bytes.
unfoldable pub records : List ℕ → List (List ℕ)
records tape = records_upto (length tape) tape

-- The base-ten digits of x before the text that follows, n digits at the most.
unfoldable pub digits_upto : ℕ → ℕ → List ℕ → List ℕ
digits_upto zero x rest = rest
digits_upto (suc n) x rest = cond (ltb x 10) ((48 + x) ∷ rest) (digits_upto n (x / 10) ((48 + x % 10) ∷ rest))

-- A number in base ten, without leading zeros; it has at most one digit more than its value.
unfoldable pub digits : ℕ → List ℕ
digits x = digits_upto (suc x) x []

-- The number and the place that stand for an answer: 0 and 0 for accepted, 0 and 1 or 0 for an ask's yes or no.
unfoldable pub answer_number : Answer → ℕ
answer_number accepted = 0
answer_number (answered b) = 0
answer_number (refused n p) = n

unfoldable pub answer_place : Answer → ℕ
answer_place accepted = 0
answer_place (answered true) = 1
answer_place (answered false) = 0
answer_place (refused n p) = p

abbrev pub space : ℕ
space = 32

abbrev pub line_feed : ℕ
line_feed = 10

-- The line of a record: its index, refusal number or 0, and place.
unfoldable pub line : ℕ → Answer → List ℕ
line i a = digits i ++ (space ∷ digits (answer_number a)) ++ (space ∷ digits (answer_place a)) ++ (line_feed ∷ [])

-- The lines of answers, the first with index i.
unfoldable pub lines : ℕ → List Answer → List ℕ
lines i [] = []
lines i (a ∷ l) = line i a ++ lines (suc i) l

-- The last line: the word end, the number of records, the number of edges.
unfoldable pub end_line : ℕ → ℕ → List ℕ
end_line count edges = (101 ∷ 110 ∷ 100 ∷ space ∷ digits count) ++ (space ∷ digits edges) ++ (line_feed ∷ [])

-- ---- a tape in parts

-- A part of a tape, after so many records and from the state that they left: its lines, the records so far, and the state after it.
unfoldable pub fed : {S : Type 0} → (S → List ℕ → Answer × S) → S → ℕ → List ℕ → List ℕ × (ℕ × S)
fed step s count part =
    let l = records part in
    (lines (suc count) (run step s l).0, (count + length l, (run step s l).1))

-- What feeding a part of a tape answers: what filling the buffer does, or that 64 bits do not hold the records so far.
pub data PartAnswer : Type 0 where
  fills : Filled → PartAnswer
  uncounted : PartAnswer

-- A part of a tape with its lines at a buffer's front, and what it comes to; where the buffer is shorter, refusal 9 and nothing done, and nothing either where 64 bits do not hold the records so far.
unfoldable pub feed : {S : Type 0} → (S → List ℕ → Answer × S) → S → ℕ → List ℕ → List ℕ → (PartAnswer × List ℕ) × (ℕ × S)
feed step s count part buffer =
    let (text, after) = fed step s count part in
    let (filled, left) = fill 9 text buffer in
    cond (ltb after.0 (2 ^ 64))
    ((fills filled, left), cond (leb (length text) (length buffer)) after (count, s))
    ((uncounted, buffer), (count, s))

-- Every part but the last ends where a record ends.
unfoldable pub Parts : List (List ℕ) → Type 0
Parts [] = Unit {0}
Parts (p ∷ []) = Unit {0}
Parts (p ∷ q ∷ l) = (length p % record_length ≡ 0) × Parts (q ∷ l)

-- The tape that the parts make.
unfoldable pub joined : List (List ℕ) → List ℕ
joined [] = []
joined (p ∷ l) = p ++ joined l

-- The parts one after another: their lines, the records so far, and the state after the last.
unfoldable pub fed_parts : {S : Type 0} → (S → List ℕ → Answer × S) → S → ℕ → List (List ℕ) → List ℕ × (ℕ × S)
fed_parts step s count [] = ([], (count, s))
fed_parts step s count (p ∷ l) =
    let (text, (n, t)) = fed step s count p in
    let rest = fed_parts step t n l in
    (text ++ rest.0, rest.1)
