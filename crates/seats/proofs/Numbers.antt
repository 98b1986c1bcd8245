-- Little-endian numbers: what is written as bytes is read back, bytes that are read are written back, and a slice has the number at its place.
-- Assumes nothing.
use mathlib.Core.Path.{◌≡◌, refl, sym, ap, ap₂, ◌∙◌}
use mathlib.Core.List.{List, [], ◌∷◌, ◌++◌}
use Prim.Native.Nat.{ℕ, zero, suc, ◌+◌, ◌*◌, ◌/◌, ◌%◌, ◌^◌, ◌<◌, ◌≤◌}
use native.Mathlib.Nat.{pow-suc, add-zero, add-suc, not-suc-le-zero, zero-lt-suc}
use native.Mathlib.Omega.{arith}
use lib.ListN.{length, get_or, take, drop, length-drop}
use lib.Seq.{get_or-drop, drop_at, length-take-le}
use Rattle.std.proofs.lemmas.List.{take-append-drop, get_or_append_left}
use Rattle.seats.specs.Bytes.{bytes_of, number_at, Bytes}

-- ---- lists of bytes
pub bytes_drop : (n : ℕ) (l : List ℕ) → Bytes l → Bytes (drop n l)
unfolding Bytes
bytes_drop zero l h = h
bytes_drop (suc n) [] h = h
bytes_drop (suc n) (x ∷ l) h = bytes_drop n l h.1

pub byte_at : (i : ℕ) (l : List ℕ) → Bytes l → get_or l i 0 < 256
unfolding Bytes
byte_at i [] h = zero-lt-suc 255
byte_at zero (x ∷ l) h = h.0
byte_at (suc i) (x ∷ l) h = byte_at i l h.1

pub length-bytes_of : (n x : ℕ) → length (bytes_of n x) ≡ n
unfolding bytes_of
length-bytes_of zero x = refl
length-bytes_of (suc n) x = ap suc (length-bytes_of n (x / 256))

-- ---- reading at a place
pub number_drop : (n i j : ℕ) (l : List ℕ) → number_at n j (drop i l) ≡ number_at n (i + j) l
unfolding number_at
number_drop zero i j l = refl
number_drop (suc n) i j l =
    ap₂ (λ (x y : ℕ). x + 256 * y) (get_or-drop i l j 0) (number_drop n i (suc j) l ∙ ap (λ (k : ℕ). number_at n k l) (add-suc i j))

-- A number at place i is the first of what is left there.
pub number_from : (n i : ℕ) (l : List ℕ) → number_at n i l ≡ number_at n 0 (drop i l)
number_from n i l = sym (number_drop n i 0 l ∙ ap (λ (k : ℕ). number_at n k l) (add-zero i))

pub number_cons : (n x : ℕ) (l : List ℕ) → number_at (suc n) 0 (x ∷ l) ≡ x + 256 * number_at n 0 l
unfolding number_at
number_cons n x l = ap (λ (y : ℕ). x + 256 * y) (number_from n 1 (x ∷ l))

-- Bytes behind a number change nothing of it.
pub number_append : (n i : ℕ) (a b : List ℕ) → i + n ≤ length a → number_at n i (a ++ b) ≡ number_at n i a
unfolding number_at
number_append zero i a b h = refl
number_append (suc n) i a b h =
    ap₂ (λ (x y : ℕ). x + 256 * y) (get_or_append_left a b 0 i (omega arith)) (number_append n (suc i) a b (omega arith))

-- The slice of n bytes at place i has the number there.
module _ (n i : ℕ) (l : List ℕ) (h : i + n ≤ length l) where
  pub length_sliced : length (take n (drop i l)) ≡ n
  length_sliced = let f = length-drop i l in length-take-le n (drop i l) (omega arith)

  pub number_taken : number_at n 0 (take n (drop i l)) ≡ number_at n i l
  number_taken =
      let e = length_sliced in
      sym (number_append n 0 (take n (drop i l)) (drop n (drop i l)) (omega arith)) ∙ ap (number_at n 0) (take-append-drop n (drop i l)) ∙ sym (number_from n i l)

  pub number_sliced : {m : ℕ} → m ≡ n → (let s = take m (drop i l) in number_at (length s) 0 s ≡ number_at n i l)
  number_sliced e = rw (e, length_sliced) number_taken

pub number_lt : (n i : ℕ) (l : List ℕ) → Bytes l → number_at n i l < 256 ^ n
unfolding number_at
number_lt zero i l h = omega arith
number_lt (suc n) i l h = omega (arith, pow-suc 256 n, byte_at i l h, number_lt n (suc i) l h)

-- ---- round trips
number_front : (n x : ℕ) (r : List ℕ) → x < 256 ^ n → number_at n 0 (bytes_of n x ++ r) ≡ x
unfolding bytes_of number_at
number_front zero x r h = omega arith
number_front (suc n) x r h =
    let p = pow-suc 256 n in
    let e = number_front n (x / 256) r (omega arith) in
    number_cons n (x % 256) (bytes_of n (x / 256) ++ r) ∙ omega arith

-- A number written behind other bytes is read at its place.
pub number_behind : (n x i : ℕ) (p r : List ℕ) → length p ≡ i → x < 256 ^ n → number_at n i (p ++ (bytes_of n x ++ r)) ≡ x
number_behind n x i p r e h = number_from n i _ ∙ ap (number_at n 0) (drop_at p _ i e) ∙ number_front n x r h

bytes_front : (n : ℕ) (l : List ℕ) → Bytes l → n ≤ length l → bytes_of n (number_at n 0 l) ≡ take n l
unfolding bytes_of Bytes
bytes_front zero l h k = refl
bytes_front (suc n) [] h k = absurd (not-suc-le-zero k)
bytes_front (suc n) (x ∷ l) h k =
    let s : x < 256 = h.0 in
    let e = number_cons n x l in
    let p : number_at (suc n) 0 (x ∷ l) % 256 ≡ x = omega arith in
    let q : number_at (suc n) 0 (x ∷ l) / 256 ≡ number_at n 0 l = omega arith in
    ap₂ (λ (y : ℕ) (m : List ℕ). y ∷ m) p (ap (bytes_of n) q ∙ bytes_front n l h.1 (omega arith))

-- The bytes of a number that was read are the bytes at its place.
pub bytes_of_number : (n i : ℕ) (l : List ℕ) → Bytes l → i + n ≤ length l → bytes_of n (number_at n i l) ≡ take n (drop i l)
bytes_of_number n i l h k =
    ap (bytes_of n) (number_from n i l) ∙ bytes_front n (drop i l) (bytes_drop i l h) (omega (arith, length-drop i l))

-- A list whose every place has a byte is a list of bytes.
pub places_bytes : (l : List ℕ) → ((i : ℕ) → get_or l i 0 < 256) → Bytes l
unfolding Bytes
places_bytes [] h = tt
places_bytes (x ∷ l) h = (h 0, places_bytes l (λ i. h (suc i)))
