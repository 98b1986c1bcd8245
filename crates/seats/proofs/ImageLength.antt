-- How long an image is, at most how long, and which keys its entries have.
-- Assumes nothing.
use mathlib.Core.Path.{◌≡◌, refl, ap, ◌∙◌}
use mathlib.Core.Bool.{Bool, not}
use mathlib.Core.Logic.{inl, inr}
use Prim.Native.Nat.{ℕ, zero, suc, ◌+◌, ◌/◌, ◌%◌, ◌<◌, ◌≤◌, ◌*◌}
use native.Mathlib.Nat.{zero-add, add-zero}
use native.Mathlib.Omega.{arith}
use lib.ListN.{length, length-append}
use lib.Dec.{ltb, ltb→lt}
use Rattle.sets.specs.Counting.{count}
use Rattle.sets.specs.Sets.{member}
use Rattle.sets.proofs.Tests.{both, passes, fails, decide}
use Rattle.sets.proofs.Counting.{count-le, count_bound}
use Rattle.graph.specs.Tables.{at}
use Rattle.graph.specs.Graph.{Graph, role_count, is_end, ordinary, effective, privilege_count}
use Rattle.graph.specs.Conflicts.{conflict}
use Rattle.graph.proofs.Order.{ordinary_parts}
use Rattle.seats.specs.Bytes.{bytes_of}
use Rattle.seats.specs.Seats.{State, seat_count}
use Rattle.seats.specs.Images.{Entry, listed_from, role_entries, conflict_entries, seat_entries, Contents, contents_of, set_bytes, role_set_bytes, privilege_bytes, Counts, counts_of, trailer_length, distance, trailer, parts, image}
use Rattle.seats.proofs.Numbers.{length-bytes_of}
use Rattle.seats.proofs.EntryBytes.{Each, length-entry_bytes}
use Rattle.seats.proofs.AscendingEntries.{valued, each_listed}
use Rattle.seats.proofs.StoredEntries.{filled}

pub length-trailer : (n : Counts) → length (trailer n) ≡ trailer_length
unfolding trailer bytes_of
length-trailer n = refl

pub length-parts : (c : Contents) → length (parts c) ≡ distance (counts_of c)
unfolding parts distance
length-parts c =
    let t = length-bytes_of set_bytes c.top in
    let r = length-entry_bytes set_bytes c.roles in
    let p = length-entry_bytes privilege_bytes c.conflicts in
    let s = length-entry_bytes role_set_bytes c.seats in
    let e = length-trailer (counts_of c) in
    simp length-append (omega arith)

pub image_length : (s : State) → length (image s) ≡ distance (counts_of (contents_of s))
unfolding image
image_length s = length-parts (contents_of s)

-- ---- at most how long
-- The entries listed from i on and the places before i that have one are the places that have one.
counted_from : (has : ℕ → Bool) (entry : ℕ → Entry) (i n : ℕ) → length (listed_from i n has entry) + count i has ≡ count (i + n) has
unfolding listed_from count
counted_from has entry i zero = rw (add-zero, zero-add)
counted_from has entry i (suc n) =
    let e : i + suc n ≡ suc i + n = omega arith in
    let r = counted_from has entry (suc i) n in
    rw e (elim (decide (has i)) [
      | inl t ↦ rw (passes (has i) t) (omega (arith, rw (passes (has i) t) at r))
      | inr f ↦ rw (fails (has i) f) (omega (arith, rw (fails (has i) f) at r))
    ])

-- As many entries are listed as places have one.
pub length-listed : (has : ℕ → Bool) (entry : ℕ → Entry) (n : ℕ) → length (listed_from 0 n has entry) ≡ count n has
unfolding count
length-listed has entry n = omega (arith, counted_from has entry 0 n ∙ ap (λ (k : ℕ). count k has) (zero-add n))

pub roles_bound : (g : Graph) → length (role_entries g) ≤ 62
unfolding role_entries ordinary is_end count
roles_bound g =
    let most : count role_count (λ r. not (is_end r)) ≡ 62 = refl in
    let le = count-le role_count (ordinary g) (λ r. not (is_end r)) (λ r l t. (both (not (is_end r)) (member r g.roles) t).0) in
    omega (arith, length-listed (ordinary g) (valued (effective g)) role_count)

pub seats_bound : (s : State) → length (seat_entries s) ≤ seat_count
unfolding seat_entries
seats_bound s =
    omega (arith, length-listed (filled s.seats) (valued (at s.seats)) seat_count, count_bound seat_count (filled s.seats))

ordered_pairs : count (privilege_count * privilege_count) (λ k. ltb (k / privilege_count) (k % privilege_count)) ≡ 2016
unfolding count
ordered_pairs = refl

pub conflicts_bound : (g : Graph) → length (conflict_entries g) ≤ 2016
unfolding conflict_entries conflict
conflicts_bound g =
    let has : ℕ → Bool = λ k. conflict g.conflicts (k / privilege_count) (k % privilege_count) in
    let most = ordered_pairs in
    let le = count-le (privilege_count * privilege_count) has (λ k. ltb (k / privilege_count) (k % privilege_count)) (λ k l t. (both (ltb (k / privilege_count) (k % privilege_count)) (member (k % privilege_count) (at g.conflicts (k / privilege_count))) t).0) in
    omega (arith, length-listed has (λ k. record { key = k / privilege_count; value = k % privilege_count }) (privilege_count * privilege_count))

pub image_bound : (s : State) → length (image s) ≤ 5182
unfolding distance
image_bound s = omega (arith, image_length s, roles_bound s.graph, seats_bound s, conflicts_bound s.graph)

-- ---- keys
-- The number of a role entry is that of an ordinary role.
pub role_keys : (g : Graph) → Each (λ e. (2 ≤ e.key) × (e.key < role_count)) (role_entries g)
unfolding role_entries
role_keys g =
    each_listed (ordinary g) (valued (effective g)) (λ e. (2 ≤ e.key) × (e.key < role_count)) 0 role_count (λ k l t. ((ordinary_parts g k t).0, omega arith))

pub conflict_pairs : (g : Graph) → Each (λ e. (e.key < e.value) × (e.value < privilege_count)) (conflict_entries g)
unfolding conflict_entries conflict
conflict_pairs g =
    each_listed (λ k. conflict g.conflicts (k / privilege_count) (k % privilege_count)) (λ k. record { key = k / privilege_count; value = k % privilege_count }) (λ e. (e.key < e.value) × (e.value < privilege_count)) 0 (privilege_count * privilege_count)
    (λ k l t. (ltb→lt (k / privilege_count) (k % privilege_count) (both (ltb (k / privilege_count) (k % privilege_count)) (member (k % privilege_count) (at g.conflicts (k / privilege_count))) t).0, omega arith))
