-- The customer's three demands on sittings, over the promises that the contracts of the code cite: a field for each sentence, its meaning above it.
-- Bytes, records, tapes and buffers are any, and so is the sitting at hand, but where a sentence speaks of the sittings that a keeper reaches.
-- What concerns images alone, reading, measuring and saving them, stands in the demands of `seats`.
use Rattle.std.specs.Prelude.{◌≡◌, Bool, false, ◌↔◌, ℕ, suc, ◌+◌, ◌-◌, ◌^◌, ◌<◌, ◌≤◌, length, take, drop, T, Result}
use mathlib.Core.List.{List, [], ◌∷◌, ◌++◌, map, Memᴰ}
use Rattle.lists.specs.Runs.{unrefused, Each, Chain}
use Rattle.graph.specs.Graph.{role_count, effective}
use Rattle.graph.specs.Drawing.{redraw}
use Rattle.graph.specs.Editing.{Change, edit}
use Rattle.graph.specs.Refusing.{Check, Passes, First, refusal_order, no_earlier, no_privilege_number}
use Rattle.seats.specs.Bytes.{Bytes, written, too_short}
use Rattle.seats.specs.Calls.{change, accepted, answered, refused, no_seat_number}
use Rattle.seats.specs.Calls as base
use Rattle.seats.specs.Images.{least_image, far_at, restored}
use Rattle.seats.specs.Tape.{records, lines, PartAnswer, fills, uncounted, joined}
use Rattle.seats.specs.Promises.{SavePromise}
use Rattle.seats.specs.Demands.{One, refuses, OfCall, OfLoad, contents_in, load_order, load_checks, ChangedBy, Closes}
use Rattle.seats.specs.Demands as state-demands
use Rattle.seats.specs.Reading.{read_answer, read_asked, read_filled, read_part}
use Rattle.seats.specs.Replies.{Answer}
use Rattle.graph.specs.declared.Refusal.{Refusal}
use Rattle.sittings.specs.Sittings.{begun, excluded, is_active, may_use_active}
use Rattle.sittings.specs.Sittings as sittings
use Rattle.sittings.specs.Calls.{Call, call, checks, after, reply}
use Rattle.sittings.specs.Records.{Decoded, malformed, well_formed, decode}
use Rattle.sittings.specs.Lists.{answers, end, exclusion, activity}
use Rattle.sittings.specs.Promises.{StepPromise, LoadPromise, AskPromise, FeedPromise, KeeperStart, DemandThreeOnCode}
use Rattle.sittings.specs.Reading.{read_sitting, read_fed}
use Rattle.sittings.specs.declared.Sitting.{Sitting}
use Rattle.sittings.specs.declared.Fed.{Fed}

-- ---- what the demands are said with

-- An answer and a sitting, and what a part of a tape comes to, as the definitions have them.
abbrev pub read_outcome : Answer × Sitting → base.Answer × sittings.Sitting
read_outcome x = (read_answer x.0, read_sitting x.1)

abbrev pub read_part_left : Fed × List ℕ → (PartAnswer × List ℕ) × (ℕ × sittings.Sitting)
read_part_left x = read_fed x.0 x.1

-- The lines of a part of a tape, after so many records and from the sitting z.
abbrev pub part_lines : sittings.Sitting → ℕ → List ℕ → List ℕ
part_lines z count part = lines (suc count) (answers z (records part))

-- The part f is not done: the buffer, the records so far and the sitting are as they were.
abbrev pub Undone : Sitting → ℕ → List ℕ → Fed → List ℕ → Type 0
Undone z count buffer f left = (left ≡ buffer) × (f.count ≡ count) × (read_sitting f.sitting ≡ read_sitting z)

-- What a record decodes to is refused with number n at place p: with 1 at place 0 where nothing decodes, and else by the first check of the call that holds.
unfoldable pub RefusedWith : sittings.Sitting → Decoded → ℕ → ℕ → Type 0
RefusedWith z malformed n p = (n ≡ 1) × (p ≡ 0)
RefusedWith z (well_formed c) n p = First (checks z c (after z c)) n p

-- What a record decodes to is a call of which no check holds.
unfoldable pub Unrefused : sittings.Sitting → Decoded → Type 0
Unrefused z malformed = ⊥
Unrefused z (well_formed c) = Passes (checks z c (after z c))

-- What refuses the question of seat i for privilege p.
abbrev pub question_checks : ℕ → ℕ → List Check
question_checks i p = no_seat_number i ∷ no_privilege_number p ∷ []

-- A sitting that a keeper reaches: from a start, by a chain of the step's promises over records of any bytes.
pub record Reached (d : Sitting) : Type 0 where
  pub start : Sitting
  pub records : List (List ℕ)
  pub answers : List Answer
  pub starts : KeeperStart start
  pub bytes : Each Bytes records
  pub chain : Chain StepPromise start records answers d

-- What call c, accepted on z, says of the sitting y after it: which roles exclude each other, and which are active at a seat.
pub record Says (c : Call) (z y : sittings.Sitting) : Type 0 where
  pub excludes : (p q : ℕ) → excluded y p q ≡ exclusion p q c (excluded z p q)
  pub activates : (i r : ℕ) → is_active y i r ≡ activity i r c y.state (is_active z i r)

-- ---- demand 1: everything is answered, and a refusal has its number and place and changes nothing

pub record DemandOne : Type 0 where
  -- To every record on every sitting there is an answer and a sitting after it, and by the promise no other.
  pub call_answered : (z : Sitting) (l : List ℕ) → One read_outcome (λ x. StepPromise z l x.0 x.1)
  -- So there is to every load, whatever the bytes and the sitting at hand.
  pub load_answered : (z : Sitting) (l : List ℕ) → One read_outcome (λ x. LoadPromise z l x.0 x.1)
  -- So there is to every question, whatever the numbers.
  pub question_answered : (z : sittings.Sitting) (i p : ℕ) → One read_asked (AskPromise z i p)
  -- So there is to every part of a tape, with the buffer, the records so far and the sitting.
  pub part_answered : (z : Sitting) (count : ℕ) (part buffer : List ℕ) → One read_part_left (λ x. FeedPromise z count part buffer x.0 x.1)
  -- The records of a tape are all of it, and each has its answer.
  pub tape_answered : (z : sittings.Sitting) (tape : List ℕ) → (joined (records tape) ≡ tape) × (length (answers z (records tape)) ≡ length (records tape))
  -- A refused record has a number of the paper's for calls, the place of the check that refuses it, and leaves the sitting, pairs and active roles too.
  pub call_refused : (z y : Sitting) (l : List ℕ) (a : Answer) (n p : ℕ) → StepPromise z l a y → read_answer a ≡ refused n p
      → OfCall n × RefusedWith (read_sitting z) (decode l) n p × (read_sitting y ≡ read_sitting z)
  -- A refused load has number 6, 7 or 8 and place 0, and leaves the sitting at hand.
  pub load_refused : (z y : Sitting) (l : List ℕ) (a : Answer) (n p : ℕ) → LoadPromise z l a y → read_answer a ≡ refused n p
      → OfLoad n × (p ≡ 0) × (read_sitting y ≡ read_sitting z)
  -- A refused question has number 2.
  pub question_refused : (z : sittings.Sitting) (i k : ℕ) (a : Result Bool Refusal) (n p : ℕ) → AskPromise z i k a → read_asked a ≡ refused n p → n ≡ 2
  -- A refused part of a tape has number 9 and place 0 and is not done.
  pub part_refused : (z : Sitting) (count : ℕ) (part buffer left : List ℕ) (f : Fed) (n p : ℕ) → FeedPromise z count part buffer f left → read_part f.answer ≡ fills (too_short n p)
      → (n ≡ 9) × (p ≡ 0) × Undone z count buffer f left
  -- One whose records 64 bits do not count is not done either.
  pub part_uncounted : (z : Sitting) (count : ℕ) (part buffer left : List ℕ) (f : Fed) → FeedPromise z count part buffer f left → read_part f.answer ≡ uncounted
      → Undone z count buffer f left

-- ---- demand 2: exactly what the paper defines

pub record DemandTwo : Type 0 where
  -- A record is refused with a number and a place exactly where their condition is the first in the order that holds.
  pub call_refused_iff : (z y : Sitting) (l : List ℕ) (a : Answer) (n p : ℕ) → StepPromise z l a y
      → (read_answer a ≡ refused n p) ↔ RefusedWith (read_sitting z) (decode l) n p
  -- The order is that of the list of numbers: no check of the call that holds has an earlier one.
  pub first_in_order : (z y : Sitting) (l : List ℕ) (a : Answer) (n p : ℕ) (c : Call) → StepPromise z l a y → read_answer a ≡ refused n p → decode l ≡ well_formed c
      → (k : Check) → Memᴰ k (checks (read_sitting z) c (after (read_sitting z) c)) → T k.holds → T (no_earlier refusal_order n k.number)
  -- A record is accepted exactly where it carries a call of which no check holds.
  pub call_accepted_iff : (z y : Sitting) (l : List ℕ) (a : Answer) → StepPromise z l a y
      → (refuses a ≡ false) ↔ Unrefused (read_sitting z) (decode l)
  -- An accepted call has the answer of its kind and leaves the sitting after it, on any sitting.
  pub call_accepted : (z y : Sitting) (l : List ℕ) (a : Answer) (c : Call) → StepPromise z l a y → decode l ≡ well_formed c → refuses a ≡ false
      → (read_answer a ≡ reply (read_sitting z) c) × (read_sitting y ≡ after (read_sitting z) c)
  -- An accepted change leaves the drawn graph edited, closed and redrawn.
  pub change_accepted : (z y : Sitting) (l : List ℕ) (a : Answer) (c : Change) → StepPromise z l a y → decode l ≡ well_formed (call (change c)) → refuses a ≡ false
      → ChangedBy c (read_sitting z).state (read_sitting y).state
  -- Where a keeper reaches the sitting, the sets after it close the edited drawing, and no others do.
  pub change_closes : (z y : Sitting) (l : List ℕ) (a : Answer) (c : Change) → Reached z → Bytes l → StepPromise z l a y → decode l ≡ well_formed (call (change c)) → refuses a ≡ false
      → Closes (edit c (redraw (read_sitting z).state.graph)) (effective (read_sitting y).state.graph)
      × ((F : ℕ → ℕ) → Closes (edit c (redraw (read_sitting z).state.graph)) F → (r : ℕ) → r < role_count → effective (read_sitting y).state.graph r ≡ F r)
  -- Where a keeper reaches the sitting, what is present, declared and assigned after an accepted call of document 01 is what its sentence says.
  pub call_says : (z y : Sitting) (l : List ℕ) (a : Answer) (c : base.Call) → Reached z → StepPromise z l a y → decode l ≡ well_formed (call c) → refuses a ≡ false
      → state-demands.Says c (read_sitting z).state (read_sitting y).state
  -- So are the pairs and the active roles after any accepted call.
  pub choice_says : (z y : Sitting) (l : List ℕ) (a : Answer) (c : Call) → Reached z → StepPromise z l a y → decode l ≡ well_formed c → refuses a ≡ false
      → Says c (read_sitting z) (read_sitting y)
  -- A load is refused with a number and a place exactly where their condition is the first in the order that holds.
  pub load_refused_iff : (z y : Sitting) (l : List ℕ) (a : Answer) (n p : ℕ) → LoadPromise z l a y → (read_answer a ≡ refused n p) ↔ First (load_checks l) n p
  -- Here the order is 6, 7, 8.
  pub load_first_in_order : (z y : Sitting) (l : List ℕ) (a : Answer) (n p : ℕ) → LoadPromise z l a y → read_answer a ≡ refused n p
      → (k : Check) → Memᴰ k (load_checks l) → T k.holds → T (no_earlier load_order n k.number)
  -- It is accepted exactly where none holds, and gives the state that the image's entries describe, with no pair and nothing active.
  pub load_accepted_iff : (z y : Sitting) (l : List ℕ) (a : Answer) → LoadPromise z l a y → (read_answer a ≡ accepted) ↔ Passes (load_checks l)
  pub load_accepted : (z y : Sitting) (l : List ℕ) (a : Answer) → LoadPromise z l a y → read_answer a ≡ accepted → read_sitting y ≡ begun (restored (contents_in l))
  -- The question is refused with a number and a place exactly where the first of its numbers that is too high says so.
  pub question_refused_iff : (z : sittings.Sitting) (i k : ℕ) (a : Result Bool Refusal) (n p : ℕ) → AskPromise z i k a → (read_asked a ≡ refused n p) ↔ First (question_checks i k) n p
  -- Otherwise it says whether the seat's active roles reach a role that has the privilege.
  pub question_accepted : (z : sittings.Sitting) (i k : ℕ) (a : Result Bool Refusal) → AskPromise z i k a → Passes (question_checks i k) → read_asked a ≡ answered (may_use_active z i k)
  -- A part of a tape is refused exactly where its records are counted and the buffer has fewer bytes than its lines.
  pub part_refused_iff : (z : Sitting) (count : ℕ) (part buffer left : List ℕ) (f : Fed) (n p : ℕ) → FeedPromise z count part buffer f left
      → (read_part f.answer ≡ fills (too_short n p))
      ↔ ((n ≡ 9) × (p ≡ 0) × (count + length (records part) < 2 ^ 64) × (length buffer < length (part_lines (read_sitting z) count part)))
  -- It is left uncounted exactly where 64 bits do not hold the records so far.
  pub part_uncounted_iff : (z : Sitting) (count : ℕ) (part buffer left : List ℕ) (f : Fed) → FeedPromise z count part buffer f left
      → (read_part f.answer ≡ uncounted) ↔ (2 ^ 64 ≤ count + length (records part))
  -- Otherwise its lines stand at the buffer's front with nothing behind touched, its records are counted, and the sitting is the one that they leave.
  pub part_accepted : (z : Sitting) (count : ℕ) (part buffer left : List ℕ) (f : Fed) → FeedPromise z count part buffer f left
      → count + length (records part) < 2 ^ 64 → length (part_lines (read_sitting z) count part) ≤ length buffer
      → let text = part_lines (read_sitting z) count part in
      (read_part f.answer ≡ fills (written (length text))) × (left ≡ text ++ drop (length text) buffer)
      × (f.count ≡ count + length (records part)) × (read_sitting f.sitting ≡ end (read_sitting z) (records part))
  -- What a keeper reaches, its state saved into enough bytes and given to loading alone or behind any bytes, loads as that state, whatever is at hand, with no pair and nothing active.
  pub saved_loads : (z h y : Sitting) (buffer left before : List ℕ) (f : Result ℕ Refusal) (n : ℕ) (a : Answer) → Reached z
      → SavePromise (read_sitting z).state buffer f left → read_filled f ≡ written n → LoadPromise h (before ++ take n left) a y
      → (read_answer a ≡ accepted) × (read_sitting y ≡ begun (read_sitting z).state)
  -- Whatever bytes load, the state saved into enough bytes is the bytes of the image at their end.
  pub loaded_saves : (h y : Sitting) (l buffer left : List ℕ) (a : Answer) (f : Result ℕ Refusal) (n : ℕ) → Bytes l → LoadPromise h l a y → read_answer a ≡ accepted
      → SavePromise (read_sitting y).state buffer f left → read_filled f ≡ written n
      → (n ≡ far_at l (length l)) × (take n left ≡ drop (length l - n) l)
  -- What precedes the image is not read, refused or not, where the trailer's distance lies within the bytes.
  pub image_alone : (h y w : Sitting) (before l : List ℕ) (a b : Answer) → least_image ≤ length l → far_at l (length l) ≤ length l
      → LoadPromise h (before ++ l) a y → LoadPromise h l b w → (read_answer a ≡ read_answer b) × (read_sitting y ≡ read_sitting w)

-- ---- demand 3: the list theorem, and the shorter list on the keeper's side too

pub record DemandThreeWithShorter : Type 1 where
  -- Every chain of the step's promises, from every start, has the list theorem.
  pub every_chain : DemandThreeOnCode
  -- The list without the records that the keeper refused, taken from the same sitting, gives the others the answers they had and ends in the same sitting.
  pub shorter_chain : (c d e : Sitting) (l : List (List ℕ)) (m k : List Answer) → Chain StepPromise c l m d → Chain StepPromise c (unrefused refuses l m) k e
      → (map read_answer k ≡ map read_answer (unrefused refuses m m)) × (read_sitting e ≡ read_sitting d)

-- The three together.
pub record Demands : Type 1 where
  pub one : DemandOne
  pub two : DemandTwo
  pub three : DemandThreeWithShorter
