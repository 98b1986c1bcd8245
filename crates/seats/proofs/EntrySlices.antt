-- Entries in a slice of their own: the first chunk is the first entry, and a part's slice has the part's entries.
-- Assumes nothing.
use mathlib.Core.List.{List, [], ◌∷◌, ◌++◌}
use mathlib.Core.Path.{◌≡◌, refl, sym, ap, ◌∙◌}
use Prim.Native.Nat.{ℕ, zero, suc, ◌+◌, ◌-◌, ◌*◌, ◌/◌, ◌≤◌, ◌<◌}
use native.Mathlib.Nat.{div-eq_of_lt, add-div_left, mul-suc, mul-div_cancel_left}
use native.Mathlib.Omega.{arith}
use lib.ListN.{length, get_or, take, drop, length-append, length-drop}
use lib.Seq.{drop_at, length-take-le}
use Rattle.std.proofs.lemmas.List.{take-append-drop, get_or_append_left}
use Rattle.seats.specs.Bytes.{number_at}
use Rattle.seats.specs.Images.{Counts, distance, entries_at, contents}
use Rattle.seats.specs.ImageWork.{entry_of}
use Rattle.seats.proofs.Numbers.{number_append, number_taken}
use Rattle.seats.proofs.EntryBytes.{entries_drop}

entries_append : (n i c : ℕ) (a b : List ℕ) → i + (1 + n) * c ≤ length a → entries_at n i c (a ++ b) ≡ entries_at n i c a
unfolding entries_at
entries_append n i zero a b h = refl
entries_append n i (suc c) a b h =
    let e = mul-suc (1 + n) c in
    let k = get_or_append_left a b 0 i (omega arith) in
    let v = number_append n (suc i) a b (omega arith) in
    let r = entries_append n (suc i + n) c a b (omega arith) in
    λ d. record { key = k d; value = v d } ∷ r d

-- The entries of a slice: the first chunk has the first, and what is left has the others.
pub slice_first : (n : ℕ) (x rest : List ℕ) → length x ≡ 1 + n
    → entries_at n 0 (length (x ++ rest) / (1 + n)) (x ++ rest) ≡ entry_of (get_or x 0 0) (number_at n 1 x) ∷ entries_at n 0 (length rest / (1 + n)) rest
unfolding entries_at
slice_first n x rest e =
    let z : 0 < 1 + n = omega arith in
    let c : length (x ++ rest) / (1 + n) ≡ suc (length rest / (1 + n)) = ap (λ (k : ℕ). k / (1 + n)) (length-append x rest ∙ ap (λ (k : ℕ). k + length rest) e) ∙ add-div_left (length rest) {k = 1 + n} z ∙ omega arith in
    let k = get_or_append_left x rest 0 0 (omega arith) in
    let v = number_append n 1 x rest (omega arith) in
    let a : 1 + n ≡ (1 + n) + 0 = omega arith in
    let r : entries_at n (1 + n) (length rest / (1 + n)) (x ++ rest) ≡ entries_at n 0 (length rest / (1 + n)) rest =
    ap (λ (j : ℕ). entries_at n j (length rest / (1 + n)) (x ++ rest)) a
    ∙ sym (entries_drop n (1 + n) 0 (length rest / (1 + n)) (x ++ rest)) ∙ ap (entries_at n 0 (length rest / (1 + n))) (drop_at x rest (1 + n) e) in
    rw c (λ d. record { key = k d; value = v d } ∷ r d)

-- What is shorter than an entry has none.
pub slice_none : (n : ℕ) (rest : List ℕ) → length rest < 1 + n → entries_at n 0 (length rest / (1 + n)) rest ≡ []
unfolding entries_at
slice_none n rest h = rw (div-eq_of_lt h)

-- The slice of so many entries at a place has those entries.
pub slice_entries : (n i c m : ℕ) (l : List ℕ) → m ≡ (1 + n) * c → i + m ≤ length l → entries_at n 0 (length (take m (drop i l)) / (1 + n)) (take m (drop i l)) ≡ entries_at n i c l
slice_entries n i c m l e h =
    let f = length-drop i l in
    let b : length (take m (drop i l)) ≡ m = length-take-le m (drop i l) (omega arith) in
    let z : 0 < 1 + n = omega arith in
    let q : length (take m (drop i l)) / (1 + n) ≡ c = ap (λ (k : ℕ). k / (1 + n)) (b ∙ e) ∙ mul-div_cancel_left c {n = 1 + n} z in
    let j : i ≡ i + 0 = omega arith in
    ap (λ (k : ℕ). entries_at n 0 k (take m (drop i l))) q
    ∙ sym (entries_append n 0 c (take m (drop i l)) (drop m (drop i l)) (omega arith))
    ∙ ap (entries_at n 0 c) (take-append-drop m (drop i l))
    ∙ entries_drop n i 0 c l ∙ ap (λ (k : ℕ). entries_at n k c l) (sym j)

-- The slices of the parts, one behind the other, have the set and the entries of the contents.
module _ (l : List ℕ) (n : Counts) (h : distance n ≤ length l) where
  pub top_sliced : number_at 8 0 (take 8 l) ≡ (contents l 0 n).top
  unfolding contents distance
  top_sliced = number_taken 8 0 l (omega arith)

  pub roles_sliced : (
      let s = take ((8 + 9 * n.roles) - 8) (drop 8 l) in
      entries_at 8 0 (length s / 9) s ≡ (contents l 0 n).roles)
  unfolding contents distance
  roles_sliced = slice_entries 8 8 n.roles _ l (omega arith) (omega arith)

  pub conflicts_sliced : (
      let a = 8 + 9 * n.roles in
      let s = take ((a + 2 * n.conflicts) - a) (drop a l) in
      entries_at 1 0 (length s / 2) s ≡ (contents l 0 n).conflicts)
  unfolding contents distance
  conflicts_sliced = slice_entries 1 (8 + 9 * n.roles) n.conflicts _ l (omega arith) (omega arith)

  pub seats_sliced : (
      let a = 8 + 9 * n.roles + 2 * n.conflicts in
      let s = take ((a + 9 * n.seats) - a) (drop a l) in
      entries_at 8 0 (length s / 9) s ≡ (contents l 0 n).seats)
  unfolding contents distance
  seats_sliced = slice_entries 8 (8 + 9 * n.roles + 2 * n.conflicts) n.seats _ l (omega arith) (omega arith)
