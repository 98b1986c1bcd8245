-- A lent block of words: the sitting that its first words hold, and the numbers that stand for answers.
use Rattle.std.specs.Prelude.{cond, List, ◌∷◌, ◌++◌, ℕ, ◌+◌, ◌*◌, Option, Some, None, length, get_or, take, drop, leb}
use Rattle.graph.specs.Graph.{role_count, privilege_count}
use Rattle.seats.specs.Bytes.{Filled, written, too_short}
use Rattle.seats.specs.Seats.{State, seat_count}
use Rattle.seats.specs.Calls.{Answer, refused}
use Rattle.seats.specs.Images.{Measured, measured, unmeasured}
use Rattle.seats.specs.Tape.{answer_number, answer_place}
use Rattle.seats.specs.Reading.{state_of}
use Rattle.sittings.specs.Sittings.{Sitting}
use Rattle.sittings.specs.Reading.{sitting_of, lent}
use Rattle.sittings.specs.declared.LentSitting.{LentSitting}

-- Where the tables of a sitting start: word 0 has the ordinary roles, and behind them stand the effective sets, the conflicts, the seats' roles, the pairs and the active roles.
abbrev pub sets_word : ℕ
sets_word = 1

abbrev pub conflicts_word : ℕ
conflicts_word = sets_word + role_count

abbrev pub seats_word : ℕ
seats_word = conflicts_word + privilege_count

abbrev pub pairs_word : ℕ
pairs_word = seats_word + seat_count

abbrev pub active_word : ℕ
active_word = pairs_word + role_count

-- How many words a sitting takes.
abbrev pub block_length : ℕ
block_length = active_word + seat_count

-- The table of n words that starts at word i.
abbrev pub table_at : List ℕ → ℕ → ℕ → List ℕ
table_at W i n = take n (drop i W)

-- The words of the effective sets, of the conflicts, of the seats, of the pairs and of the active roles.
abbrev pub sets_of : List ℕ → List ℕ
sets_of W = table_at W sets_word role_count

abbrev pub conflicts_of : List ℕ → List ℕ
conflicts_of W = table_at W conflicts_word privilege_count

abbrev pub seats_of : List ℕ → List ℕ
seats_of W = table_at W seats_word seat_count

abbrev pub pairs_of : List ℕ → List ℕ
pairs_of W = table_at W pairs_word role_count

abbrev pub active_of : List ℕ → List ℕ
active_of W = table_at W active_word seat_count

-- The state that a block's first words hold.
abbrev pub state_in : List ℕ → State
state_in W = state_of (get_or W 0 0) (sets_of W) (conflicts_of W) (seats_of W)

-- The sitting that they hold.
abbrev pub sitting_in : List ℕ → Sitting
sitting_in W = sitting_of (state_in W) (pairs_of W) (active_of W)

-- The sitting that is lent, if one is.
unfoldable pub read_held : Option LentSitting → Option Sitting
read_held (Some z) = Some (lent z)
read_held None = None

-- The words of a sitting.
unfoldable pub words_of : Sitting → List ℕ
words_of z =
    z.state.graph.roles
    ∷ (z.state.graph.sets ++ (z.state.graph.conflicts ++ (z.state.seats ++ (z.pairs ++ z.active))))

-- The block with a sitting in the place of the one that it held; the words behind it stay.
unfoldable pub holding : Sitting → List ℕ → List ℕ
holding z W = words_of z ++ drop block_length W

-- What f makes of the block's sitting, or other where the block has too few words for one.
unfoldable pub of_sitting : {A : Type 0} → List ℕ → (Sitting → A) → A → A
of_sitting W f other = cond (leb block_length (length W)) (f (sitting_in W)) other

-- What f makes of its state, likewise.
unfoldable pub of_state : {A : Type 0} → List ℕ → (State → A) → A → A
of_state W f other = cond (leb block_length (length W)) (f (state_in W)) other

-- An answer as one number: 256 times the number that the tape prints, and the place.
unfoldable pub code_of : Answer → ℕ
code_of a = 256 * answer_number a + answer_place a

-- The code of a block with too few words; no refusal has the number 255.
abbrev pub no_state : ℕ
no_state = 65535

-- What is added to the code of whatever hinders a save, so that it is no length.
abbrev pub not_saved : ℕ
not_saved = 65536

-- What a save answers as one number: the length written, or the refusal's code with not_saved added.
unfoldable pub save_code : Filled → ℕ
save_code (written n) = n
save_code (too_short n p) = not_saved + code_of (refused n p)

-- The length of an image as one number: the length, or the refusal's code with not_saved added.
unfoldable pub length_code : Measured → ℕ
length_code (measured n) = n
length_code (unmeasured n p) = not_saved + code_of (refused n p)
