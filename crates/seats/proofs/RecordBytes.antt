-- The bytes of a record: how many there are, that its fields are read back, how those of kind 2 are written, and what these decode to.
-- Assumes nothing.
use mathlib.Core.List.{List, [], ◌∷◌, ◌++◌}
use mathlib.Core.Path.{◌≡◌, refl, ap}
use Prim.Native.Nat.{ℕ, zero, suc, ◌/◌, ◌^◌, ◌<◌}
use native.Mathlib.Omega.{arith}
use lib.ListN.{length, length-append}
use Rattle.graph.specs.Editing.{add_by_privileges}
use Rattle.seats.specs.Bytes.{bytes_of, number_at, Bytes}
use Rattle.seats.specs.Calls.{change}
use Rattle.seats.specs.Records.{record_length, Fields, well_formed, fields, record_of, all_empty, unused, kind, kinds, decode}
use Rattle.seats.specs.Working.{fields_of}
use Rattle.seats.proofs.Numbers.{length-bytes_of, number_behind}

-- A record has its length.
pub length_record : (k : ℕ) (f : Fields) → length (record_of k f) ≡ record_length
unfolding record_of
length_record k f =
    let x = bytes_of 8 f.x in
    let y = bytes_of 8 f.y in
    let z = bytes_of 8 f.z in
    let a = length-append (bytes_of 5 0) (x ++ (y ++ z)) in
    let b = length-append x (y ++ z) in
    let c = length-append y z in
    let d = length-bytes_of 5 0 in
    let p = length-bytes_of 8 f.x in
    let q = length-bytes_of 8 f.y in
    let r = length-bytes_of 8 f.z in
    omega arith

-- Its bytes are bytes.
bytes_are : (n x : ℕ) → Bytes (bytes_of n x)
unfolding bytes_of Bytes
bytes_are zero x = tt
bytes_are (suc n) x = (omega arith, bytes_are n (x / 256))

bytes_append : (l m : List ℕ) → Bytes l → Bytes m → Bytes (l ++ m)
unfolding Bytes
bytes_append [] m b c = c
bytes_append (x ∷ l) m b c = (b.0, bytes_append l m b.1 c)

pub record_bytes : (k : ℕ) (f : Fields) → k < 256 → f.a < 256 → f.b < 256 → Bytes (record_of k f)
unfolding record_of Bytes
record_bytes k f h i j =
    (h, (i, (j, bytes_append (bytes_of 5 0) _ (bytes_are 5 0) (bytes_append (bytes_of 8 f.x) _ (bytes_are 8 f.x) (bytes_append (bytes_of 8 f.y) _ (bytes_are 8 f.y) (bytes_are 8 f.z))))))

-- Its fields are read back.
pub record_fields : (k : ℕ) (f : Fields) → f.x < 2 ^ 64 → f.y < 2 ^ 64 → f.z < 2 ^ 64 → fields (record_of k f) ≡ f
unfolding record_of bytes_of fields
record_fields k f x y z =
    let front = k ∷ f.a ∷ f.b ∷ bytes_of 5 0 in
    let p = number_behind 8 f.x 8 front (bytes_of 8 f.y ++ bytes_of 8 f.z) refl (omega arith) in
    let q = number_behind 8 f.y 16 (front ++ bytes_of 8 f.x) (bytes_of 8 f.z) refl (omega arith) in
    let r = number_behind 8 f.z 24 (front ++ (bytes_of 8 f.x ++ bytes_of 8 f.y)) [] refl (omega arith) in
    λ i. record { a = f.a; b = f.b; x = p i; y = q i; z = r i }

-- A record of kind 2: the kind, the role, six zeros, the set, sixteen zeros.
pub add_bytes : (role own : ℕ) → (2 ∷ []) ++ ((role ∷ []) ++ (bytes_of 6 0 ++ (bytes_of 8 own ++ (bytes_of 8 0 ++ bytes_of 8 0)))) ≡ record_of 2 (fields_of role 0 own 0 0)
unfolding record_of bytes_of
add_bytes role own = refl

-- It carries the call of kind 2.
pub add_decodes : (role own : ℕ) → own < 2 ^ 64 → decode (record_of 2 (fields_of role 0 own 0 0)) ≡ well_formed (change (add_by_privileges role own))
unfolding record_of decode kinds kind fields unused all_empty number_at bytes_of
add_decodes role own h =
    ap (λ (x : ℕ). well_formed (change (add_by_privileges role x)))
    (number_behind 8 own 8 (2 ∷ role ∷ 0 ∷ bytes_of 5 0) (bytes_of 16 0) refl (omega arith))
