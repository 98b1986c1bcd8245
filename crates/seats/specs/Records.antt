-- Document 01, "The twelve calls" and refusal 1: a record of 32 bytes and the call that it carries.
use Rattle.std.specs.Prelude.{Bool, true, cond, ◌&&◌, List, [], ◌∷◌, ◌++◌, ℕ, get_or, length, drop, leb, eqb}
use Rattle.sets.specs.Sets.{empty}
use Rattle.graph.specs.Editing.{add_by_place, add_by_privileges, remove_role, grant, withdraw, add_edge, remove_edge}
use Rattle.seats.specs.Bytes.{bytes_of, number_at}
use Rattle.seats.specs.Seats.{State}
use Rattle.seats.specs.Calls.{Call, change, declare, lift, assign, unassign, ask, Answer, refused, perform}

-- How many bytes a record has.
abbrev pub record_length : ℕ
record_length = 32

-- What a record decodes to.
pub data Decoded : Type 0 where
  malformed : Decoded
  well_formed : Call → Decoded

-- The fields of a record beside its kind: a, b, and the sets at 8, 16 and 24.
pub record Fields : Type 0 where
  pub a : ℕ
  pub b : ℕ
  pub x : ℕ
  pub y : ℕ
  pub z : ℕ

unfoldable pub fields : List ℕ → Fields
fields l = record { a = get_or l 1 0; b = get_or l 2 0; x = number_at 8 8 l; y = number_at 8 16 l; z = number_at 8 24 l }

-- The bytes of the record of a kind with these fields.
unfoldable pub record_of : ℕ → Fields → List ℕ
record_of k f = k ∷ f.a ∷ f.b ∷ (bytes_of 5 0 ++ (bytes_of 8 f.x ++ (bytes_of 8 f.y ++ bytes_of 8 f.z)))

-- Every set of the list is empty.
unfoldable pub all_empty : List ℕ → Bool
all_empty [] = true
all_empty (x ∷ l) = eqb x empty && all_empty l

-- The sets after the first n are empty.
unfoldable pub unused : ℕ → Fields → Bool
unused n f = all_empty (drop n (f.x ∷ f.y ∷ f.z ∷ []))

-- A kind: the most that b may be, 0 where the kind does not name b; how many of the three sets it names; its call.
unfoldable pub kind : Fields → ℕ → ℕ → Call → Decoded
kind f most sets c = cond (leb f.b most && unused sets f) (well_formed c) malformed

-- The table of kinds, 1 to 12.
unfoldable pub kinds : Fields → List Decoded
kinds f =
    kind f 0 3 (change (add_by_place f.a f.x f.y f.z))
    ∷ kind f 0 1 (change (add_by_privileges f.a f.x))
    ∷ kind f 1 0 (change (remove_role f.a f.b))
    ∷ kind f 255 0 (change (grant f.a f.b))
    ∷ kind f 255 0 (change (withdraw f.a f.b))
    ∷ kind f 255 0 (change (add_edge f.a f.b))
    ∷ kind f 255 0 (change (remove_edge f.a f.b))
    ∷ kind f 255 0 (declare f.a f.b)
    ∷ kind f 255 0 (lift f.a f.b)
    ∷ kind f 255 0 (assign f.a f.b)
    ∷ kind f 255 0 (unassign f.a f.b)
    ∷ kind f 255 0 (ask f.a f.b)
    ∷ []

-- A record has its length, zeros in bytes 3 to 7, and a known kind whose unused fields are zero.
unfoldable pub decode : List ℕ → Decoded
decode l =
    cond (eqb (length l) record_length && eqb (number_at 5 3 l) 0)
    (get_or (malformed ∷ kinds (fields l)) (get_or l 0 0) malformed)
    malformed

-- Refusal 1 at place 0 where nothing decodes; otherwise the call.
unfoldable pub perform_decoded : State → Decoded → Answer × State
perform_decoded s malformed = (refused 1 0, s)
perform_decoded s (well_formed c) = perform s c

-- The step: from a state and any bytes to an answer and a state.
unfoldable pub step : State → List ℕ → Answer × State
step s l = perform_decoded s (decode l)
