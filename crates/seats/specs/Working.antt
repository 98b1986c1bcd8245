-- What the contracts of private functions speak of: the fields of a record by themselves, what refuses the removal of a role and any change after closing, the end of a line, the lines with one more, and a part of a tape run.
use Rattle.std.specs.Prelude.{cond, List, [], ◌∷◌, ◌++◌, ◌≡◌, ℕ, ◌+◌, ◌-◌, ◌*◌, ◌/◌, ◌≤◌, leb, length}
use Rattle.std.proofs.lemmas.List.Edits.{sets}
use Rattle.graph.specs.Editing.{Change, add_by_place, add_by_privileges, remove_role, grant, withdraw, add_edge, remove_edge}
use Rattle.graph.specs.Refusing.{Check, refuse_lowest, input_checks, state_checks, still_below, closed_checks}
use Rattle.seats.specs.Seats.{State, seat_count, pair_seat}
use Rattle.seats.specs.Calls.{Answer, seat_checks}
use Rattle.seats.specs.Records.{record_length, Fields}
use Rattle.seats.specs.Tape.{records, digits, space, line_feed, line, fed}
use Rattle.seats.specs.Written.{Written}

-- How many records so many bytes make, a partial last one among them.
abbrev pub record_count : ℕ → ℕ
record_count n = (n + (record_length - 1)) / record_length

-- The fields of a record beside its kind.
abbrev pub fields_of : ℕ → ℕ → ℕ → ℕ → ℕ → Fields
fields_of a b x y z = record { a = a; b = b; x = x; y = y; z = z }

-- What refuses kind 3 before closing, 24 by the seats among it; the other kinds have no check here.
unfoldable pub removal_checks : State → Change → List Check
removal_checks s (remove_role a b) = (input_checks (remove_role a b) ++ state_checks s.graph (remove_role a b)) ++ seat_checks s (remove_role a b)
removal_checks s (add_by_place a own juniors seniors) = []
removal_checks s (add_by_privileges a own) = []
removal_checks s (grant a b) = []
removal_checks s (withdraw a b) = []
removal_checks s (add_edge a b) = []
removal_checks s (remove_edge a b) = []

-- Refusals 26 to 30, h being the state that the change would leave.
abbrev pub after_checks : State → Change → List Check
after_checks h c = (still_below h.graph c ++ closed_checks h.graph) ++ (refuse_lowest 30 seat_count (pair_seat h) ∷ [])

-- Two numbers, each behind a space, and a line feed.
abbrev pub tail_of : ℕ → ℕ → List ℕ
tail_of x y = space ∷ (digits x ++ (space ∷ (digits y ++ (line_feed ∷ []))))

-- The longest line: an index of 20 digits, a number and a place of 3 digits each, two spaces and a line feed.
abbrev pub longest_line : ℕ
longest_line = 29

-- How many bytes the line of an index and two numbers has.
abbrev pub line_length : ℕ → ℕ → ℕ → ℕ
line_length i x y = length (digits i) + length (digits x) + length (digits y) + 3

-- The line of the record i, whose answer is a, has n bytes, and is put at the buffer's front where the buffer has room for it.
pub record LinePut (buffer : List ℕ) (i : ℕ) (a : Answer) (after : List ℕ) (n : ℕ) : Type 0 where
  pub long : n ≡ length (line i a)
  pub bounded : n ≤ longest_line
  pub put : after ≡ cond (leb n (length buffer)) (sets buffer 0 (line i a)) buffer

-- What running a part of a tape by a step, after count records and from the state s, gives: the state t and the records so far that the part comes to, how many bytes n its lines have, and the lines at the buffer's front where it has room for them all.
pub record PartRun {S : Type 0} (step : S → List ℕ → Answer × S) (s : S) (count : ℕ) (part buffer : List ℕ) (index n : ℕ) (t : S) (after : List ℕ) : Type 0 where
  pub comes_to : (index, t) ≡ (fed step s count part).1
  pub long : n ≡ length (fed step s count part).0
  pub bounded : n ≤ longest_line * length (records part)
  pub put : n ≤ length buffer → Written buffer 0 (fed step s count part).0 after n
