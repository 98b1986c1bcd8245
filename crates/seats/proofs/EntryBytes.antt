-- Entries and their bytes: what is written is read back, and bytes that are read are written back.
-- Assumes nothing.
use mathlib.Core.Path.{◌≡◌, refl, sym, ap, ap₂, ◌∙◌}
use mathlib.Core.List.{List, [], ◌∷◌, ◌++◌, append_assoc}
use Prim.Native.Nat.{ℕ, zero, suc, ◌+◌, ◌*◌, ◌^◌, ◌<◌, ◌≤◌}
use native.Mathlib.Nat.{add-zero, add-suc, suc-mul}
use native.Mathlib.Numerals.{one-add}
use native.Mathlib.Omega.{arith}
use lib.ListN.{length, take, drop, length-append, length-drop}
use lib.Seq.{get_or-drop, drop_at, take-add}
use Rattle.seats.specs.Bytes.{bytes_of, number_at, Bytes}
use Rattle.seats.specs.Images.{Entry, entry_bytes, entries_at}
use Rattle.seats.proofs.Numbers.{bytes_drop, length-bytes_of, number_drop, number_from, number_lt, number_behind, bytes_of_number}

-- Every entry of the list has P.
abbrev pub Each : (Entry → Type 0) → List Entry → Type 0
Each P [] = Unit {0}
Each P (e ∷ l) = P e × Each P l

pub each_map : {P Q : Entry → Type 0} (l : List Entry) → ((e : Entry) → P e → Q e) → Each P l → Each Q l
each_map [] f h = tt
each_map (e ∷ l) f h = (f e h.0, each_map l f h.1)

pub each_zip : {P Q R : Entry → Type 0} (l : List Entry) → ((e : Entry) → P e → Q e → R e) → Each P l → Each Q l → Each R l
each_zip [] f p q = tt
each_zip (e ∷ l) f p q = (f e p.0 q.0, each_zip l f p.1 q.1)

pub length-entry_bytes : (n : ℕ) (l : List Entry) → length (entry_bytes n l) ≡ length l * suc n
unfolding entry_bytes
length-entry_bytes n [] = sym (omega arith)
length-entry_bytes n (e ∷ l) =
    let a = length-append (bytes_of n e.value) (entry_bytes n l) in
    omega (arith, length-bytes_of n e.value, length-entry_bytes n l, suc-mul (length l) (suc n))

-- ---- reading at a place
pub length-entries_at : (n i c : ℕ) (l : List ℕ) → length (entries_at n i c l) ≡ c
unfolding entries_at
length-entries_at n i zero l = refl
length-entries_at n i (suc c) l = ap suc (length-entries_at n (suc i + n) c l)

pub entries_lt : (n i c : ℕ) (l : List ℕ) → Bytes l → Each (λ e. e.value < 256 ^ n) (entries_at n i c l)
unfolding entries_at
entries_lt n i zero l h = tt
entries_lt n i (suc c) l h = (number_lt n (suc i) l h, entries_lt n (suc i + n) c l h)

pub entries_drop : (n i j c : ℕ) (l : List ℕ) → entries_at n j c (drop i l) ≡ entries_at n (i + j) c l
unfolding entries_at
entries_drop n i j zero l = refl
entries_drop n i j (suc c) l =
    let v = number_drop n i (suc j) l ∙ ap (λ (k : ℕ). number_at n k l) (add-suc i j) in
    let q : i + (suc j + n) ≡ suc (i + j) + n = omega arith in
    let r = entries_drop n i (suc j + n) c l ∙ ap (λ (k : ℕ). entries_at n k c l) q in
    λ d. record { key = get_or-drop i l j 0 d; value = v d } ∷ r d

-- The entries at place i are the first of what is left there.
entries_from : (n i c : ℕ) (l : List ℕ) → entries_at n i c l ≡ entries_at n 0 c (drop i l)
entries_from n i c l = sym (entries_drop n i 0 c l ∙ ap (λ (k : ℕ). entries_at n k c l) (add-zero i))

entries_cons : (n x c : ℕ) (l : List ℕ) → entries_at n 0 (suc c) (x ∷ l) ≡ record { key = x; value = number_at n 0 l } ∷ entries_at n 0 c (drop n l)
unfolding entries_at
entries_cons n x c l =
    let r = ap (λ (k : ℕ). entries_at n k c (x ∷ l)) (one-add n) ∙ entries_from n (suc n) c (x ∷ l) in
    λ d. record { key = x; value = number_from n 1 (x ∷ l) d } ∷ r d

-- ---- round trips
entries_front : (n : ℕ) (l : List Entry) (r : List ℕ) → Each (λ e. e.value < 256 ^ n) l → entries_at n 0 (length l) (entry_bytes n l ++ r) ≡ l
unfolding entries_at entry_bytes
entries_front n [] r h = refl
entries_front n (e ∷ l) r h =
    let b = bytes_of n e.value in
    let s = append_assoc b (entry_bytes n l) r in
    let v = ap (number_at n 0) s ∙ number_behind n e.value 0 [] (entry_bytes n l ++ r) refl h.0 in
    let d = ap (drop n) s ∙ drop_at b (entry_bytes n l ++ r) n (length-bytes_of n e.value) in
    let t = ap (entries_at n 0 (length l)) d ∙ entries_front n l r h.1 in
    entries_cons n e.key (length l) ((b ++ entry_bytes n l) ++ r) ∙ (λ i. record { key = e.key; value = v i } ∷ t i)

-- Entries written behind other bytes are read at their place.
pub entries_behind : (n i : ℕ) (p : List ℕ) (l : List Entry) (r : List ℕ) → length p ≡ i → Each (λ e. e.value < 256 ^ n) l → entries_at n i (length l) (p ++ (entry_bytes n l ++ r)) ≡ l
entries_behind n i p l r e h =
    entries_from n i (length l) _ ∙ ap (entries_at n 0 (length l)) (drop_at p _ i e) ∙ entries_front n l r h

bytes_front : (n c : ℕ) (l : List ℕ) → Bytes l → c * suc n ≤ length l → entry_bytes n (entries_at n 0 c l) ≡ take (c * suc n) l
unfolding entries_at entry_bytes Bytes
bytes_front n zero l h k = let z : zero * suc n ≡ 0 = omega arith in rw z
bytes_front n (suc c) [] h k = let m = suc-mul c (suc n) in absurd (omega arith)
bytes_front n (suc c) (x ∷ l) h k =
    let m = suc-mul c (suc n) in
    let e : suc c * suc n ≡ suc (n + c * suc n) = omega arith in
    let f = length-drop n l in
    let a = bytes_of_number n 0 l h.1 (omega arith) in
    let b = bytes_front n c (drop n l) (bytes_drop n l h.1) (omega arith) in
    ap (entry_bytes n) (entries_cons n x c l)
    ∙ rw e (ap (λ (y : List ℕ). x ∷ y) (ap₂ (λ (y z : List ℕ). y ++ z) a b ∙ sym (take-add n (c * suc n) l)))

-- The bytes of entries that were read are the bytes at their place.
pub entry_bytes-at : (n i c : ℕ) (l : List ℕ) → Bytes l → i + c * suc n ≤ length l → entry_bytes n (entries_at n i c l) ≡ take (c * suc n) (drop i l)
entry_bytes-at n i c l h k =
    ap (entry_bytes n) (entries_from n i c l) ∙ bytes_front n c (drop i l) (bytes_drop i l h) (omega (arith, length-drop i l))
