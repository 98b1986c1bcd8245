-- Document 01, "The saved image": the bytes of a state, and what loading makes of any bytes.
use Rattle.std.specs.Prelude.{Bool, cond, not, false, ◌&&◌, ◌||◌, List, [], ◌∷◌, ◌++◌, ℕ, zero, suc, ◌+◌, ◌-◌, ◌*◌, ◌/◌, ◌%◌, length, get_or, set, replicate, eqb, leb, ltb}
use Rattle.sets.specs.Counting.{any}
use Rattle.sets.specs.Sets.{empty, single, union, included}
use Rattle.graph.specs.Tables.{at, put}
use Rattle.graph.specs.Graph.{Graph, role_count, privilege_count, max_role, is_end, ordinary, effective}
use Rattle.graph.specs.Conflicts.{conflict}
use Rattle.graph.specs.Refusing.{Check, refuse, Verdict, passed, verdict, empty_role, twin_role, pair_role}
use Rattle.graph.specs.Refusing as refusing
use Rattle.seats.specs.Bytes.{bytes_of, number_at}
use Rattle.seats.specs.Seats.{State, seat_count, fresh, pair_seat}
use Rattle.seats.specs.Calls.{Answer, accepted, refused}

-- ---- entries

-- An entry of an image: a role or a seat with its set, or the lower privilege of a conflict with the higher.
pub record Entry : Type 0 where
  pub key : ℕ
  pub value : ℕ

-- The entries at those of n places, from i on, that have one.
unfoldable pub listed_from : ℕ → ℕ → (ℕ → Bool) → (ℕ → Entry) → List Entry
listed_from i zero has entry = []
listed_from i (suc n) has entry = cond (has i) (entry i ∷ listed_from (suc i) n has entry) (listed_from (suc i) n has entry)

-- Each ordinary role, ascending, with its effective set.
unfoldable pub role_entries : Graph → List Entry
role_entries g = listed_from 0 role_count (ordinary g) (λ r. record { key = r; value = effective g r })

-- Each conflict, ascending by lower, then higher privilege; a conflict's place is privilege-count times the lower plus the higher.
unfoldable pub conflict_entries : Graph → List Entry
conflict_entries g =
    listed_from 0 (privilege_count * privilege_count) (λ k. conflict g.conflicts (k / privilege_count) (k % privilege_count))
    (λ k. record { key = k / privilege_count; value = k % privilege_count })

-- Each seat with roles, ascending, with the set of its roles.
unfoldable pub seat_entries : State → List Entry
seat_entries s = listed_from 0 seat_count (λ i. not (eqb (at s.seats i) empty)) (λ i. record { key = i; value = at s.seats i })

-- What an image holds: MaxRole's set, and the entries of the roles, the conflicts and the seats.
pub record Contents : Type 0 where
  pub top : ℕ
  pub roles : List Entry
  pub conflicts : List Entry
  pub seats : List Entry

-- What the image of a state holds.
abbrev pub contents_of : State → Contents
contents_of s = record {
  top = effective s.graph max_role;
  roles = role_entries s.graph;
  conflicts = conflict_entries s.graph;
  seats = seat_entries s;
}

-- ---- the bytes

-- How many bytes the value of an entry takes: a set of privileges 8, a set of roles 8, a privilege 1.
abbrev pub set_bytes : ℕ
set_bytes = 8

abbrev pub role_set_bytes : ℕ
role_set_bytes = 8

abbrev pub privilege_bytes : ℕ
privilege_bytes = 1

-- How many bytes an entry takes, of a role, a conflict or a seat: one for its key, and its value's.
abbrev pub role_width : ℕ
role_width = 1 + set_bytes

abbrev pub conflict_width : ℕ
conflict_width = 1 + privilege_bytes

abbrev pub seat_width : ℕ
seat_width = 1 + role_set_bytes

-- The bytes of entries whose values take n bytes each.
unfoldable pub entry_bytes : ℕ → List Entry → List ℕ
entry_bytes n [] = []
entry_bytes n (e ∷ l) = (e.key ∷ bytes_of n e.value) ++ entry_bytes n l

-- How many bytes the trailer takes.
abbrev pub trailer_length : ℕ
trailer_length = 8

-- The bytes of an image without a role, a seat or a conflict: none is shorter.
abbrev pub least_image : ℕ
least_image = set_bytes + trailer_length

-- How many roles, seats and conflicts an image has.
pub record Counts : Type 0 where
  pub roles : ℕ
  pub seats : ℕ
  pub conflicts : ℕ

-- How many of each the contents are.
abbrev pub counts_of : Contents → Counts
counts_of c = record { roles = length c.roles; seats = length c.seats; conflicts = length c.conflicts }

-- The distance from an image's end back to its start.
unfoldable pub distance : Counts → ℕ
distance n = least_image + role_width * n.roles + seat_width * n.seats + conflict_width * n.conflicts

-- The trailer: distance, roles, seats, conflicts.
unfoldable pub trailer : Counts → List ℕ
trailer n = bytes_of 4 (distance n) ++ (bytes_of 1 n.roles ++ (bytes_of 1 n.seats ++ bytes_of 2 n.conflicts))

-- The parts of an image in order: MaxRole's set, roles, conflicts, seats, trailer.
unfoldable pub parts : Contents → List ℕ
parts c =
    bytes_of set_bytes c.top
    ++ (entry_bytes set_bytes c.roles
    ++ (entry_bytes privilege_bytes c.conflicts
    ++ (entry_bytes role_set_bytes c.seats ++ trailer (counts_of c))))

-- The image of a state.
unfoldable pub image : State → List ℕ
image s = parts (contents_of s)

-- ---- reading

-- The count entries at place i whose values take n bytes each.
unfoldable pub entries_at : ℕ → ℕ → ℕ → List ℕ → List Entry
entries_at n i zero l = []
entries_at n i (suc count) l = record { key = get_or l i 0; value = number_at n (suc i) l } ∷ entries_at n (suc i + n) count l

-- The distance that the trailer before place `end` has.
unfoldable pub far_at : List ℕ → ℕ → ℕ
far_at l end = number_at 4 (end - trailer_length) l

-- The counts that it has.
unfoldable pub counts_at : List ℕ → ℕ → Counts
counts_at l end = record { roles = number_at 1 (end - 4) l; seats = number_at 1 (end - 3) l; conflicts = number_at 2 (end - 2) l }

-- The contents at place i of the bytes, so many, read before anything is judged.
unfoldable pub contents : List ℕ → ℕ → Counts → Contents
contents l i n = record {
  top = number_at set_bytes i l;
  roles = entries_at set_bytes (i + set_bytes) n.roles l;
  conflicts = entries_at privilege_bytes (i + set_bytes + role_width * n.roles) n.conflicts l;
  seats = entries_at role_set_bytes (i + set_bytes + role_width * n.roles + conflict_width * n.conflicts) n.seats l;
}

-- The keys of the entries as a set.
unfoldable pub keys : List Entry → ℕ
keys [] = empty
keys (e ∷ l) = union (single e.key) (keys l)

-- The entries' values stored at their keys.
unfoldable pub stored : List Entry → List ℕ → List ℕ
stored [] t = t
stored (e ∷ l) t = stored l (set t e.key e.value)

-- The entries' values put as members into the entries at their keys.
unfoldable pub stored_pairs : List Entry → List ℕ → List ℕ
stored_pairs [] t = t
stored_pairs (e ∷ l) t = stored_pairs l (put t e.key e.value)

-- A table of sets with that of MaxRole, and nothing else.
abbrev pub end_sets : ℕ → List ℕ
end_sets top = set (replicate role_count empty) max_role top

-- The state that the contents describe.
unfoldable pub restored : Contents → State
restored c = record {
  graph = record {
    roles = keys c.roles;
    sets = stored c.roles (end_sets c.top);
    conflicts = stored_pairs c.conflicts (replicate privilege_count empty);
  };
  seats = stored c.seats (replicate seat_count empty);
}

-- ---- refusals 6, 7 and 8, each with the conditions in the paper's order

-- Some entry of the list passes.
unfoldable pub some : (Entry → Bool) → List Entry → Bool
some f [] = false
some f (e ∷ l) = f e || some f l

-- Some entry's place is not above that of the entry before it.
unfoldable pub unordered : (Entry → ℕ) → List Entry → Bool
unordered place [] = false
unordered place (e ∷ []) = false
unordered place (e ∷ (f ∷ l)) = leb (place f) (place e) || unordered place (f ∷ l)

-- A conflict's place among all pairs, by its lower, then its higher privilege.
unfoldable pub pair_place : Entry → ℕ
pair_place e = 256 * e.key + e.value

-- The number is not that of an ordinary role.
unfoldable pub no_ordinary_number : Entry → Bool
no_ordinary_number e = is_end e.key || leb role_count e.key

-- Refusal 7, by the entries alone.
unfoldable pub entry_checks : Contents → List Check
entry_checks c =
    refuse 7 (some no_ordinary_number c.roles) 0
    ∷ refuse 7 (some (λ e. leb privilege_count e.key || leb privilege_count e.value) c.conflicts) 0
    ∷ refuse 7 (some (λ e. leb seat_count e.key) c.seats) 0
    ∷ refuse 7 (unordered Entry.key c.roles) 0
    ∷ refuse 7 (unordered pair_place c.conflicts) 0
    ∷ refuse 7 (unordered Entry.key c.seats) 0
    ∷ refuse 7 (some (λ e. leb e.value e.key) c.conflicts) 0
    ∷ refuse 7 (some (λ e. eqb e.value empty) c.seats) 0
    ∷ refuse 7 (some (λ e. not (included e.value (keys c.roles))) c.seats) 0
    ∷ []

-- Refusal 8, by the state that the entries describe.
unfoldable pub content_checks : State → List Check
content_checks s =
    refuse 8 (any role_count (empty_role s.graph)) 0
    ∷ refuse 8 (any role_count (twin_role s.graph)) 0
    ∷ refuse 8 (any role_count (pair_role s.graph)) 0
    ∷ refuse 8 (any seat_count (pair_seat s)) 0
    ∷ refuse 8 (any role_count (λ r. ordinary s.graph r && not (included (effective s.graph r) (effective s.graph max_role)))) 0
    ∷ []

-- ---- loading

-- What loading gives: a state, or a refusal with its number and place.
pub data Loaded : Type 0 where
  loaded : State → Loaded
  not_loaded : ℕ → ℕ → Loaded

-- The state, unless it is refused.
unfoldable pub unless_refused : Verdict → State → Loaded
unless_refused passed s = loaded s
unless_refused (refusing.refused n p) s = not_loaded n p

-- Refusals 7 and 8 of the contents.
unfoldable pub load_contents : Contents → Loaded
load_contents c =
    let s = restored c in
    unless_refused (verdict (entry_checks c ++ content_checks s)) s

-- The image that ends the bytes, by the distance and the counts in its trailer.
unfoldable pub load_trailer : List ℕ → ℕ → Counts → Loaded
load_trailer l far n =
    cond (eqb far (distance n) && leb far (length l))
    (load_contents (contents l (length l - far) n))
    (not_loaded 6 0)

-- Loading from any bytes.
unfoldable pub load : List ℕ → Loaded
load l =
    let end = length l in
    cond (ltb end least_image) (not_loaded 6 0) (load_trailer l (far_at l end) (counts_at l end))

-- The verdict on what is loaded, and the state; a refused image has a fresh one.
unfoldable pub image_verdict : Loaded → Verdict × State
image_verdict (loaded s) = (passed, s)
image_verdict (not_loaded n p) = (refusing.refused n p, fresh)

-- How long the image of what was loaded is, or the refusal.
pub data Measured : Type 0 where
  measured : ℕ → Measured
  unmeasured : ℕ → ℕ → Measured

unfoldable pub measure_loaded : Loaded → Measured
measure_loaded (loaded s) = measured (length (image s))
measure_loaded (not_loaded n p) = unmeasured n p

-- How long the image is that ends any bytes.
unfoldable pub measure : List ℕ → Measured
measure l = measure_loaded (load l)

-- The answer to a load and the state it leaves; a refused load keeps the state at hand.
unfoldable pub settle_load : State → Loaded → Answer × State
settle_load s (loaded h) = (accepted, h)
settle_load s (not_loaded n p) = (refused n p, s)

-- Loading with a state at hand.
unfoldable pub load_over : State → List ℕ → Answer × State
load_over s l = settle_load s (load l)
