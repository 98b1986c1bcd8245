-- The tape of a sheet: a record for each row, which decodes to the row's call, so that playing the tape is performing the calls.
-- Assumes nothing.
use mathlib.Core.Bool.{Bool}
use mathlib.Core.List.{List, [], ◌∷◌, map}
use mathlib.Core.Path.{◌≡◌, refl, ap, ap₂, ◌∙◌}
use Prim.Native.Nat.{ℕ, ◌*◌, ◌^◌, ◌<◌}
use native.Mathlib.Omega.{arith}
use lib.ListN.{length, length-append}
use lib.Pow.{pow_pos}
use Rattle.sets.specs.Sets.{single, when}
use Rattle.sets.proofs.Laws.{union-lt, when-lt, single-lt}
use Rattle.lists.specs.Runs.{run, Each}
use Rattle.graph.specs.Graph.{privilege_count}
use Rattle.seats.specs.Bytes.{Bytes}
use Rattle.seats.specs.Calls.{Answer}
use Rattle.seats.specs.Records.{Decoded, record_length, well_formed, decode}
use Rattle.seats.specs.Tape.{records, joined}
use Rattle.seats.proofs.RecordBytes.{length_record, record_bytes, add_decodes}
use Rattle.seats.proofs.TapeRecords.{joined-records}
use Rattle.sittings.specs.Sittings.{Sitting}
use Rattle.sittings.specs.Calls.{call, perform}
use Rattle.sittings.specs.Records.{decoded, perform_decoded, step}
use Rattle.sittings.specs.Records as sittings
use Rattle.sheets.specs.Sheets.{Row, Sheet, GoodRow, Good, set_of, row_call, row_record, calls_of, tape_of}

abbrev Columns : List ℕ → Type 0
Columns = Each (λ (c : ℕ). c < privilege_count)

-- ---- a row
-- The set of marked columns has no member but privileges.
set_lt : (cs : List ℕ) (m : List Bool) → Columns cs → set_of cs m < 2 ^ privilege_count
unfolding set_of Each
set_lt [] m h = pow_pos privilege_count
set_lt (c ∷ cs) [] h = pow_pos privilege_count
set_lt (c ∷ cs) (b ∷ m) h =
    union-lt privilege_count (when b (single c)) (set_of cs m) (when-lt privilege_count b (single c) (single-lt privilege_count c h.0)) (set_lt cs m h.1)

row_decodes : (cs : List ℕ) → Columns cs → (r : Row) → decode (row_record cs r) ≡ well_formed (row_call cs r)
unfolding row_record row_call
row_decodes cs h r = add_decodes r.role (set_of cs r.marks) (set_lt cs r.marks h)

row-length : (cs : List ℕ) (r : Row) → length (row_record cs r) ≡ record_length
unfolding row_record
row-length cs r = length_record 2 (record { a = r.role; b = 0; x = set_of cs r.marks; y = 0; z = 0 })

-- ---- the records
rows_whole : (cs : List ℕ) (l : List Row) → Each (λ r. length r ≡ record_length) (map (row_record cs) l)
unfolding Each
rows_whole cs [] = tt
rows_whole cs (r ∷ l) = (row-length cs r, rows_whole cs l)

pub tape_records : (s : Sheet) → records (tape_of s) ≡ map (row_record s.columns) s.rows
unfolding tape_of
tape_records s = joined-records (map (row_record s.columns) s.rows) (rows_whole s.columns s.rows)

pub tape_length : (s : Sheet) → length (tape_of s) ≡ record_length * length s.rows
unfolding tape_of joined
tape_length s = go s.rows
  where
    go : (l : List Row) → length (joined (map (row_record s.columns) l)) ≡ record_length * length l
    go [] = refl
    go (r ∷ l) = let a = row-length s.columns r in let b = go l in length-append (row_record s.columns r) (joined (map (row_record s.columns) l)) ∙ omega arith

rows_bytes : (k : ℕ) (cs : List ℕ) (l : List Row) → Each (GoodRow k) l → Each Bytes (map (row_record cs) l)
unfolding Each row_record
rows_bytes k cs [] g = tt
rows_bytes k cs (r ∷ l) g = let h = g.0.role_below in (record_bytes 2 (record { a = r.role; b = 0; x = set_of cs r.marks; y = 0; z = 0 }) (omega arith) (omega arith) (omega arith), rows_bytes k cs l g.1)

pub tape_bytes : (s : Sheet) → Good s → Each Bytes (records (tape_of s))
tape_bytes s g = rw (tape_records s) (rows_bytes (length s.columns) s.columns s.rows g.good_rows)

-- ---- the calls
rows-decode : (cs : List ℕ) → Columns cs → (l : List Row) → map decode (map (row_record cs) l) ≡ map well_formed (map (row_call cs) l)
rows-decode cs h [] = refl
rows-decode cs h (r ∷ l) = ap₂ ◌∷◌ (row_decodes cs h r) (rows-decode cs h l)

pub tape_decodes : (s : Sheet) → Good s → map decode (records (tape_of s)) ≡ map well_formed (calls_of s)
unfolding calls_of
tape_decodes s g = ap (map decode) (tape_records s) ∙ rows-decode s.columns g.columns_below s.rows

rows-run : (cs : List ℕ) → Columns cs → (t : Sitting) (l : List Row) → run step t (map (row_record cs) l) ≡ run perform t (map call (map (row_call cs) l))
unfolding run step sittings.decode decoded perform_decoded
rows-run cs h t [] = refl
rows-run cs h t (r ∷ l) =
    ap (λ (z : Answer × Sitting). (z.0 ∷ (run step z.1 (map (row_record cs) l)).0, (run step z.1 (map (row_record cs) l)).1)) one-row
    ∙ ap (λ (z : List Answer × Sitting). ((perform t (call (row_call cs r))).0 ∷ z.0, z.1)) (rows-run cs h (perform t (call (row_call cs r))).1 l)
  where
    one-row : step t (row_record cs r) ≡ perform t (call (row_call cs r))
    one-row = ap (λ (d : Decoded). perform_decoded t (decoded d (row_record cs r))) (row_decodes cs h r)

-- Playing a sheet's tape is performing the calls of its rows.
pub tape_played : (s : Sheet) → Good s → (t : Sitting) → run step t (records (tape_of s)) ≡ run perform t (map call (calls_of s))
unfolding calls_of
tape_played s g t = ap (run step t) (tape_records s) ∙ rows-run s.columns g.columns_below t s.rows
