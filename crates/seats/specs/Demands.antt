-- The customer's three demands as statements over the promises that the contracts of the code cite: a field for each sentence, its meaning above it.
-- Bytes, records and buffers are any, and so is the state at hand, but where a sentence speaks of the states that a keeper reaches.
use Rattle.std.specs.Prelude.{◌≡◌, Bool, false, not, ◌↔◌, ◌⊎◌, ℕ, ◌-◌, ◌<◌, ◌≤◌, length, take, drop, T, eqb, ltb, Result}
use mathlib.Core.List.{List, [], ◌∷◌, ◌++◌, map, Memᴰ}
use Rattle.sets.specs.Sets.{union, gather}
use Rattle.lists.specs.Runs.{unrefused, Each, Chain}
use Rattle.graph.specs.Graph.{role_count, ordinary, effective}
use Rattle.graph.specs.Conflicts.{declared}
use Rattle.graph.specs.Drawing.{Drawing, redraw}
use Rattle.graph.specs.Closing.{counts, close}
use Rattle.graph.specs.Editing.{Change, edit}
use Rattle.graph.specs.declared.Refusal.{Refusal}
use Rattle.graph.specs.Refusing.{Check, refuse, refuse_lowest, verdict, Passes, First, refusal_order, listed, no_earlier, no_privilege_number, pair_of_one, closed_checks}
use Rattle.graph.specs.Refusing as refusing
use Rattle.seats.specs.Bytes.{Bytes, written, too_short}
use Rattle.seats.specs.Bytes as bytes
use Rattle.seats.specs.Seats.{seat_count, assigned, pair_seat}
use Rattle.seats.specs.Seats as seats
use Rattle.seats.specs.Calls.{Call, change, declare, assign, accepted, refused, seat_role_checks, checks, after, reply, is_refusal}
use Rattle.seats.specs.Calls as calls
use Rattle.seats.specs.Records.{Decoded, malformed, well_formed, decode}
use Rattle.seats.specs.Images.{least_image, Contents, distance, far_at, counts_at, contents, restored, image, entry_checks, content_checks, measured, unmeasured}
use Rattle.seats.specs.Lists.{end, presence, declaration, assignment}
use Rattle.seats.specs.ListTheorem.{Start}
use Rattle.seats.specs.Promises.{StepPromise, LoadPromise, ReadPromise, MeasurePromise, SavePromise, KeeperStart, DemandThreeOnCode}
use Rattle.seats.specs.Reading.{read_state, read_answer, read_filled, read_image, read_measured}
use Rattle.seats.specs.declared.State.{State}
use Rattle.seats.specs.Replies.{Answer}

-- ---- what the demands are said with

-- Some x keeps the promise, and whatever keeps it reads alike.
pub record One {X Y : Type 0} (read : X → Y) (Promise : X → Type 0) : Type 0 where
  pub some : X
  pub kept : Promise some
  pub alike : (x : X) → Promise x → read x ≡ read some

-- An answer and a state, and what filling a buffer answers with the buffer, as the definitions have them.
abbrev pub read_outcome : Answer × State → calls.Answer × seats.State
read_outcome z = (read_answer z.0, read_state z.1)

abbrev pub read_left : Result ℕ Refusal × List ℕ → bytes.Filled × List ℕ
read_left z = (read_filled z.0, z.1)

-- The keeper's answer is a refusal.
abbrev pub refuses : Answer → Bool
refuses a = is_refusal (read_answer a)

-- What a record decodes to is refused with number n at place p: with 1 at place 0 where nothing decodes, and else by the first check of the call that holds.
unfoldable pub RefusedWith : seats.State → Decoded → ℕ → ℕ → Type 0
RefusedWith s malformed n p = (n ≡ 1) × (p ≡ 0)
RefusedWith s (well_formed c) n p = First (checks s c (after s c)) n p

-- What a record decodes to is a call of which no check holds.
unfoldable pub Unrefused : seats.State → Decoded → Type 0
Unrefused s malformed = ⊥
Unrefused s (well_formed c) = Passes (checks s c (after s c))

-- The number of a refusal of a call: one of the order of refusals.
abbrev pub OfCall : ℕ → Type 0
OfCall n = T (listed refusal_order n)

-- The number of a refusal of a load: 6, 7 or 8.
abbrev pub OfLoad : ℕ → Type 0
OfLoad n = (n ≡ 6) ⊎ (n ≡ 7) ⊎ (n ≡ 8)

-- What the trailer of the bytes says lies before their end: the image's contents, read by its distance and counts.
abbrev pub contents_in : List ℕ → Contents
contents_in l = contents l (length l - far_at l (length l)) (counts_at l (length l))

-- The order of a load's refusals.
unfoldable pub load_order : List ℕ
load_order = 6 ∷ 7 ∷ 8 ∷ []

-- The refusals of a load in the paper's order: 6 by the bytes and the trailer, 7 by the entries, 8 by the state that they describe.
unfoldable pub load_checks : List ℕ → List Check
load_checks l =
    refuse 6 (ltb (length l) least_image) 0
    ∷ refuse 6 (not (eqb (far_at l (length l)) (distance (counts_at l (length l))))) 0
    ∷ refuse 6 (ltb (length l) (far_at l (length l))) 0
    ∷ (entry_checks (contents_in l) ++ content_checks (restored (contents_in l)))

-- A state that a keeper reaches: from a start, by a chain of the step's promises over records of any bytes.
pub record Reached (d : State) : Type 0 where
  pub start : State
  pub records : List (List ℕ)
  pub answers : List Answer
  pub starts : KeeperStart start
  pub bytes : Each Bytes records
  pub chain : Chain StepPromise start records answers d

-- The state t is s with its drawn graph edited by c and closed; what is drawn of it follows from the closed sets, and conflicts and seats stay.
pub record ChangedBy (c : Change) (s t : seats.State) : Type 0 where
  pub roles : t.graph.roles ≡ (edit c (redraw s.graph)).roles
  pub sets : t.graph.sets ≡ close (edit c (redraw s.graph))
  pub redrawn : let d = edit c (redraw s.graph) in redraw t.graph ≡ redraw (record { roles = d.roles; sets = close d; conflicts = [] })
  pub conflicts : t.graph.conflicts ≡ s.graph.conflicts
  pub seats : t.seats ≡ s.seats

-- The sets F close the drawing: each role's is its direct privileges joined with the sets of those that count as its juniors.
abbrev pub Closes : Drawing → (ℕ → ℕ) → Type 0
Closes d F = (r : ℕ) → r < role_count → F r ≡ union (d.directs r) (gather role_count (λ t. counts d t r) F)

-- What call c, accepted on s, says of the state t after it: which roles are present, which conflicts are declared, which roles a seat has, and that only kinds 1 to 7 change roles and sets.
pub record Says (c : Call) (s t : seats.State) : Type 0 where
  pub present : (r : ℕ) → ordinary t.graph r ≡ presence r c (ordinary s.graph r)
  pub declares : (p q : ℕ) → declared t.graph.conflicts p q ≡ declaration p q c (declared s.graph.conflicts p q)
  pub assigns : (i r : ℕ) → assigned t i r ≡ assignment i r c (assigned s i r)
  pub draws_nothing : ((k : Change) → c ≡ change k → ⊥) → (t.graph.roles ≡ s.graph.roles) × (t.graph.sets ≡ s.graph.sets)

-- Refusals 27 to 30 of a state as it is: those after closing, but for 26, which is kind 7's.
abbrev pub closing_checks : seats.State → List Check
closing_checks h = closed_checks h.graph ++ (refuse_lowest 30 seat_count (pair_seat h) ∷ [])

-- Kinds 8 and 10 judged by every check after closing, on the graph as it is with the pair offered or the role added.
unfoldable pub whole_declare : seats.State → ℕ → ℕ → List Check
whole_declare s a b =
    no_privilege_number a
    ∷ no_privilege_number b
    ∷ pair_of_one a b
    ∷ refuse 22 (declared s.graph.conflicts a b) a
    ∷ closing_checks (after s (declare a b))

unfoldable pub whole_assign : seats.State → ℕ → ℕ → List Check
whole_assign s a b = seat_role_checks s.graph a b ++ (refuse 22 (assigned s a b) a ∷ closing_checks (after s (assign a b)))

-- ---- demand 1: everything is answered, and a refusal has its number and place and changes nothing

pub record DemandOne : Type 0 where
  -- To every record on every state there is an answer and a state after it, and by the promise no other.
  pub call_answered : (s : State) (l : List ℕ) → One read_outcome (λ z. StepPromise s l z.0 z.1)
  -- So there is to every load, whatever the bytes and the state at hand.
  pub load_answered : (s : State) (l : List ℕ) → One read_outcome (λ z. LoadPromise s l z.0 z.1)
  -- So there is to every reading of an image without a state at hand, and to every measuring of one.
  pub read_answered : (l : List ℕ) → One read_image (ReadPromise l)
  pub measure_answered : (l : List ℕ) → One read_measured (MeasurePromise l)
  -- So there is to every save, with the buffer as it leaves it.
  pub save_answered : (s : seats.State) (buffer : List ℕ) → One read_left (λ z. SavePromise s buffer z.0 z.1)
  -- A refused record has a number of the paper's for calls, the place of the check that refuses it, and leaves the state.
  pub call_refused : (s t : State) (l : List ℕ) (a : Answer) (n p : ℕ) → StepPromise s l a t → read_answer a ≡ refused n p
      → OfCall n × RefusedWith (read_state s) (decode l) n p × (read_state t ≡ read_state s)
  -- A refused load has number 6, 7 or 8 and place 0, and leaves the state at hand.
  pub load_refused : (s t : State) (l : List ℕ) (a : Answer) (n p : ℕ) → LoadPromise s l a t → read_answer a ≡ refused n p
      → OfLoad n × (p ≡ 0) × (read_state t ≡ read_state s)
  -- A refused save has number 9 and place 0, and leaves every byte of the buffer.
  pub save_refused : (s : seats.State) (buffer left : List ℕ) (f : Result ℕ Refusal) (n p : ℕ) → SavePromise s buffer f left → read_filled f ≡ too_short n p
      → (n ≡ 9) × (p ≡ 0) × (left ≡ buffer)

-- ---- demand 2: exactly what the paper defines

pub record DemandTwo : Type 0 where
  -- A record is refused with a number and a place exactly where their condition is the first in the order that holds.
  pub call_refused_iff : (s t : State) (l : List ℕ) (a : Answer) (n p : ℕ) → StepPromise s l a t
      → (read_answer a ≡ refused n p) ↔ RefusedWith (read_state s) (decode l) n p
  -- The order is that of the list of numbers: no check of the call that holds has an earlier one.
  pub first_in_order : (s t : State) (l : List ℕ) (a : Answer) (n p : ℕ) (c : Call) → StepPromise s l a t → read_answer a ≡ refused n p → decode l ≡ well_formed c
      → (k : Check) → Memᴰ k (checks (read_state s) c (after (read_state s) c)) → T k.holds → T (no_earlier refusal_order n k.number)
  -- A record is accepted exactly where it carries a call of which no check holds.
  pub call_accepted_iff : (s t : State) (l : List ℕ) (a : Answer) → StepPromise s l a t
      → (refuses a ≡ false) ↔ Unrefused (read_state s) (decode l)
  -- An accepted call has the answer of its kind and leaves the state after it, on any state.
  pub call_accepted : (s t : State) (l : List ℕ) (a : Answer) (c : Call) → StepPromise s l a t → decode l ≡ well_formed c → refuses a ≡ false
      → (read_answer a ≡ reply (read_state s) c) × (read_state t ≡ after (read_state s) c)
  -- An accepted change leaves the drawn graph edited, closed and redrawn.
  pub change_accepted : (s t : State) (l : List ℕ) (a : Answer) (c : Change) → StepPromise s l a t → decode l ≡ well_formed (change c) → refuses a ≡ false
      → ChangedBy c (read_state s) (read_state t)
  -- Where a keeper reaches the state, the sets after it close the edited drawing, and no others do.
  pub change_closes : (s t : State) (l : List ℕ) (a : Answer) (c : Change) → Reached s → Bytes l → StepPromise s l a t → decode l ≡ well_formed (change c) → refuses a ≡ false
      → Closes (edit c (redraw (read_state s).graph)) (effective (read_state t).graph)
      × ((F : ℕ → ℕ) → Closes (edit c (redraw (read_state s).graph)) F → (r : ℕ) → r < role_count → effective (read_state t).graph r ≡ F r)
  -- Where a keeper reaches the state, what is present, declared and assigned after an accepted call is what its sentence says.
  pub call_says : (s t : State) (l : List ℕ) (a : Answer) (c : Call) → Reached s → StepPromise s l a t → decode l ≡ well_formed c → refuses a ≡ false
      → Says c (read_state s) (read_state t)
  -- On every state that a list leaves, kind 8 and kind 10 come to what every check after closing makes of them.
  pub declare_whole : (start : seats.State) → Start start → (l : List (List ℕ)) → Each Bytes l → (a b : ℕ)
      → let s = end start l in verdict (whole_declare s a b) ≡ verdict (checks s (declare a b) (after s (declare a b)))
  pub assign_whole : (start : seats.State) → Start start → (l : List (List ℕ)) → Each Bytes l → (a b : ℕ)
      → let s = end start l in verdict (whole_assign s a b) ≡ verdict (checks s (assign a b) (after s (assign a b)))
  -- A load is refused with a number and a place exactly where their condition is the first in the order that holds.
  pub load_refused_iff : (s t : State) (l : List ℕ) (a : Answer) (n p : ℕ) → LoadPromise s l a t → (read_answer a ≡ refused n p) ↔ First (load_checks l) n p
  -- Here the order is 6, 7, 8.
  pub load_first_in_order : (s t : State) (l : List ℕ) (a : Answer) (n p : ℕ) → LoadPromise s l a t → read_answer a ≡ refused n p
      → (k : Check) → Memᴰ k (load_checks l) → T k.holds → T (no_earlier load_order n k.number)
  -- It is accepted exactly where none holds, and gives the state that the image's entries describe.
  pub load_accepted_iff : (s t : State) (l : List ℕ) (a : Answer) → LoadPromise s l a t → (read_answer a ≡ accepted) ↔ Passes (load_checks l)
  pub load_accepted : (s t : State) (l : List ℕ) (a : Answer) → LoadPromise s l a t → read_answer a ≡ accepted → read_state t ≡ restored (contents_in l)
  -- Reading an image without a state at hand is refused exactly where loading is, and otherwise gives the state that loading gives.
  pub read_refused_iff : (l : List ℕ) (r : Result State Refusal) (n p : ℕ) → ReadPromise l r → ((read_image r).0 ≡ refusing.refused n p) ↔ First (load_checks l) n p
  pub read_accepted : (l : List ℕ) (r : Result State Refusal) → ReadPromise l r → Passes (load_checks l) → read_image r ≡ (refusing.passed, restored (contents_in l))
  -- Measuring is refused with a number and a place exactly where loading is.
  pub measure_refused_iff : (l : List ℕ) (m : Result ℕ Refusal) (n p : ℕ) → MeasurePromise l m → (read_measured m ≡ unmeasured n p) ↔ First (load_checks l) n p
  -- Otherwise the image is as long as its trailer says.
  pub measure_accepted : (l : List ℕ) (m : Result ℕ Refusal) → Bytes l → MeasurePromise l m → Passes (load_checks l) → read_measured m ≡ measured (far_at l (length l))
  -- A save is refused exactly where the buffer has fewer bytes than the image.
  pub save_refused_iff : (s : seats.State) (buffer left : List ℕ) (f : Result ℕ Refusal) (n p : ℕ) → SavePromise s buffer f left
      → (read_filled f ≡ too_short n p) ↔ ((n ≡ 9) × (p ≡ 0) × (length buffer < length (image s)))
  -- A save into enough bytes answers with the image's length, fills the front with it and touches nothing behind.
  pub save_accepted : (s : seats.State) (buffer left : List ℕ) (f : Result ℕ Refusal) → SavePromise s buffer f left → length (image s) ≤ length buffer
      → (read_filled f ≡ written (length (image s))) × (take (length (image s)) left ≡ image s) × (drop (length (image s)) left ≡ drop (length (image s)) buffer)
  -- What a keeper reaches, saved into enough bytes and given to loading alone or behind any bytes, loads as that state, whatever is at hand.
  pub saved_loads : (s h t : State) (buffer left before : List ℕ) (f : Result ℕ Refusal) (n : ℕ) (a : Answer) → Reached s
      → SavePromise (read_state s) buffer f left → read_filled f ≡ written n → LoadPromise h (before ++ take n left) a t
      → (read_answer a ≡ accepted) × (read_state t ≡ read_state s)
  -- Whatever bytes load, the state saved into enough bytes is the bytes of the image at their end.
  pub loaded_saves : (h s : State) (l buffer left : List ℕ) (a : Answer) (f : Result ℕ Refusal) (n : ℕ) → Bytes l → LoadPromise h l a s → read_answer a ≡ accepted
      → SavePromise (read_state s) buffer f left → read_filled f ≡ written n
      → (n ≡ far_at l (length l)) × (take n left ≡ drop (length l - n) l)
  -- What precedes the image is not read, refused or not, where the trailer's distance lies within the bytes.
  pub image_alone : (h t u : State) (before l : List ℕ) (a b : Answer) → least_image ≤ length l → far_at l (length l) ≤ length l
      → LoadPromise h (before ++ l) a t → LoadPromise h l b u → (read_answer a ≡ read_answer b) × (read_state t ≡ read_state u)

-- ---- demand 3: the list theorem, and the shorter list on the keeper's side too

pub record DemandThreeWithShorter : Type 1 where
  -- Every chain of the step's promises, from every start, has the list theorem.
  pub every_chain : DemandThreeOnCode
  -- The list without the records that the keeper refused, taken from the same state, gives the others the answers they had and ends in the same state.
  pub shorter_chain : (c d e : State) (l : List (List ℕ)) (m k : List Answer) → Chain StepPromise c l m d → Chain StepPromise c (unrefused refuses l m) k e
      → (map read_answer k ≡ map read_answer (unrefused refuses m m)) × (read_state e ≡ read_state d)

-- The three together.
pub record Demands : Type 1 where
  pub one : DemandOne
  pub two : DemandTwo
  pub three : DemandThreeWithShorter
