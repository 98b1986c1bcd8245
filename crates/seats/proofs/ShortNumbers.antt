-- Numbers of at most eight bytes, by the bytes of a word: those that are written are the first of the word's, and those that are read make the word with zeros behind them.
-- Assumes nothing.
use mathlib.Core.List.{List, [], ◌∷◌, ◌++◌}
use mathlib.Core.Path.{◌≡◌, refl, sym, ap, ap₂, ◌∙◌}
use Prim.Native.Nat.{ℕ, zero, suc, ◌+◌, ◌*◌, ◌/◌, ◌%◌, ◌^◌, ◌≤◌}
use native.Mathlib.Nat.{pow-suc, div-one, div-div-eq-div-mul}
use native.Mathlib.Omega.{arith}
use lib.ListN.{length, get_or, take, drop, replicate}
use Rattle.std.specs.Int.{w64, byte_at, bytes_low_first, to_le_bytes, from_le_bytes}
use Rattle.seats.specs.Bytes.{bytes_of, number_at}
use Rattle.seats.proofs.Numbers.{number_cons}

pub one_byte : (i : ℕ) (l : List ℕ) → get_or l i 0 ≡ number_at 1 i l
unfolding number_at
one_byte i l = omega arith

-- ---- written
byte : (k x : ℕ) → byte_at k x ≡ x / 256 ^ k % 256
byte zero x = ap (λ (y : ℕ). y % 256) (sym (div-one x))
byte (suc k) x = refl

bytes_from : (n m k x : ℕ) → n ≤ m → take n (bytes_low_first k m x) ≡ bytes_of n (x / 256 ^ k)
unfolding bytes_of
bytes_from zero m k x h = refl
bytes_from (suc n) zero k x h = absurd (omega arith)
bytes_from (suc n) (suc m) k x h =
    let e : x / 256 ^ suc k ≡ x / 256 ^ k / 256 = ap (λ (p : ℕ). x / p) (pow-suc 256 k) ∙ sym (div-div-eq-div-mul x (256 ^ k) 256) in
    ap₂ (λ (y : ℕ) (l : List ℕ). y ∷ l) (byte k x) (bytes_from n m (suc k) x (omega arith) ∙ ap (bytes_of n) e)

-- The first bytes of a word are those of its number.
pub bytes_taken : (n x : ℕ) → n ≤ 8 → take n (to_le_bytes w64 x) ≡ bytes_of n x
bytes_taken n x h = bytes_from n 8 0 x h ∙ ap (bytes_of n) (div-one x)

-- ---- read
zeros : (n i : ℕ) (l : List ℕ) → ((j : ℕ) → get_or l j 0 ≡ 0) → number_at n i l ≡ 0
unfolding number_at
zeros zero i l z = refl
zeros (suc n) i l z = let a = z i in let b = zeros n (suc i) l z in omega arith

front : (m : ℕ) (l z : List ℕ) → length l ≤ m → ((j : ℕ) → get_or z j 0 ≡ 0) → number_at m 0 (l ++ z) ≡ number_at (length l) 0 l
unfolding number_at
front m [] z h e = zeros m 0 z e
front zero (x ∷ l) z h e = absurd (omega arith)
front (suc m) (x ∷ l) z h e =
    number_cons m x (l ++ z) ∙ ap (λ (y : ℕ). x + 256 * y) (front m l z (omega arith) e) ∙ sym (number_cons (length l) x l)

-- Eight bytes make a word.
word : (l : List ℕ) → from_le_bytes w64 l ≡ number_at 8 0 l
unfolding number_at
word l = omega arith

none : (n j k : ℕ) → ◌≡◌ {A = ℕ} (get_or (drop n (replicate k 0)) j 0) 0
none zero j zero = refl
none zero zero (suc k) = refl
none zero (suc j) (suc k) = none zero j k
none (suc n) j zero = refl
none (suc n) j (suc k) = none n j k

-- At most eight bytes, with zeros for the others, make the word of their number.
pub number_padded : (l : List ℕ) → length l ≤ 8 → from_le_bytes w64 (l ++ drop (length l) (replicate 8 0)) ≡ number_at (length l) 0 l
number_padded l h =
    let z = drop (length l) (replicate 8 0) in
    word (l ++ z) ∙ front 8 l z h (λ j. none (length l) j 8)
