-- What the functions that save and load images promise each other: the entries of a set's members, and entries read and tested.
use Rattle.std.specs.Prelude.{◌≡◌, Bool, true, false, not, ◌&&◌, List, [], ◌∷◌, ℕ, suc, ◌+◌, ◌<◌, eqb, leb, ltb, Option, Some, None}
use Rattle.sets.specs.Sets.{empty, member, included}
use Rattle.graph.specs.Tables.{at}
use Rattle.graph.specs.Graph.{privilege_count}
use Rattle.graph.specs.Refusing.{passed, refused, verdict}
use Rattle.graph.specs.Reading.{sets_in}
use Rattle.seats.specs.Seats.{State, seat_count}
use Rattle.seats.specs.Images.{Entry, listed_from, conflict_entries, set_bytes, role_set_bytes, privilege_bytes, Contents, Counts, keys, stored, stored_pairs, restored, pair_place, no_ordinary_number, entry_checks}

-- The entries of a set's members below w, ascending.
unfoldable pub member_entries : ℕ → ℕ → (ℕ → Entry) → List Entry
member_entries w s entry = listed_from 0 w (λ n. member n s) entry

-- A lower privilege with each of the higher ones.
abbrev pub row_entries : ℕ → ℕ → List Entry
row_entries lower row = member_entries privilege_count row (λ n. record { key = lower; value = n })

-- The conflicts that a table declares.
abbrev pub pair_entries : List ℕ → List Entry
pair_entries C = conflict_entries (record { roles = empty; sets = []; conflicts = C })

-- Counts that the trailer's bytes hold.
abbrev pub Small : Counts → Type 0
Small n = (n.roles < 256) × (n.seats < 256) × (n.conflicts < 65536)

-- ---- the parts

-- A part of an image that is entries.
pub data Part : Type 0 where
  Roles : Part
  Conflicts : Part
  Seats : Part

-- How many bytes the value of a part's entry takes.
abbrev pub value_bytes : Part → ℕ
value_bytes Roles = set_bytes
value_bytes Conflicts = privilege_bytes
value_bytes Seats = role_set_bytes

-- How many bytes its entry takes.
abbrev pub part_width : Part → ℕ
part_width p = 1 + value_bytes p

-- The place of an entry in the order of its part.
abbrev pub entry_place : Part → Entry → ℕ
entry_place Roles e = e.key
entry_place Conflicts e = pair_place e
entry_place Seats e = e.key

-- An entry passes: an ordinary role's, a conflict with the lower privilege first, a seat's with some of the roles present.
abbrev pub entry_passes : Part → ℕ → Entry → Bool
entry_passes Roles present e = not (no_ordinary_number e)
entry_passes Conflicts present e = ltb e.key e.value && ltb e.value privilege_count
entry_passes Seats present e = ltb e.key seat_count && (not (eqb e.value empty) && included e.value present)

-- The sets that the words of a part's table hold: of roles for the seats, otherwise of privileges.
abbrev pub table_in : Part → List ℕ → List ℕ
table_in Roles words = sets_in words
table_in Conflicts words = sets_in words
table_in Seats words = words

-- How many numbers a set in one word has a place for.
abbrev pub word_width : ℕ
word_width = 64

-- What number n has in a part's table; a conflict's value is the privilege itself.
abbrev pub value_of : Part → List ℕ → ℕ → ℕ
value_of Roles words n = at (sets_in words) n
value_of Conflicts words n = n
value_of Seats words n = at words n

-- Each of the keys with its entry of a table.
abbrev pub table_entries : ℕ → List ℕ → List Entry
table_entries keys t = member_entries word_width keys (λ k. record { key = k; value = at t k })

-- Each of the keys with what it has in a part's table.
abbrev pub part_entries : Part → ℕ → List ℕ → List Entry
part_entries part keys words = member_entries word_width keys (λ k. record { key = k; value = value_of part words k })

-- What entries of a part make of a table.
abbrev pub store_entries : Part → List Entry → List ℕ → List ℕ
store_entries Roles l t = stored l t
store_entries Conflicts l t = stored_pairs l t
store_entries Seats l t = stored l t

-- ---- entries read and tested

-- The entry of a key and a value.
abbrev pub entry_of : ℕ → ℕ → Entry
entry_of key value = record { key = key; value = value }

-- The entries' places ascend strictly from low on, and each entry passes.
unfoldable pub ascends : (Entry → ℕ) → (Entry → Bool) → ℕ → List Entry → Bool
ascends place good low [] = true
ascends place good low (e ∷ l) = (leb low (place e) && good e) && ascends place good (suc (place e)) l

-- Entries that are stored: their places ascend strictly, each passes, `held` is the set of their keys, and the table has what they make of it.
pub record EntriesStored (part : Part) (present : ℕ) (l : List Entry) (before after : List ℕ) (held : ℕ) : Type 0 where
  pub tested : ascends (entry_place part) (entry_passes part present) 0 l ≡ true
  pub keyed : held ≡ keys l
  pub filled : after ≡ store_entries part l before

-- What entries read one after the other leave: they are stored, or one of them is refused.
abbrev pub EntriesRead : Part → ℕ → List Entry → List ℕ → List ℕ → Option ℕ → Type 0
EntriesRead part present l before after (Some held) = EntriesStored part present l before after held
EntriesRead part present l before after None = ascends (entry_place part) (entry_passes part present) 0 l ≡ false

-- The state, by its roles, that contents describe, or that an entry of theirs is refused.
abbrev pub ContentsRead : Contents → (ℕ → State) → Option ℕ → Type 0
ContentsRead c s (Some roles) = (verdict (entry_checks c) ≡ passed) × (s roles ≡ restored c)
ContentsRead c s None = verdict (entry_checks c) ≡ refused 7 0
