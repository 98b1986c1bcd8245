-- Numbers in base ten: the last digit stands behind those of the tenth, how many digits follows from the power of ten below, and a word has at most 20, a byte 3.
-- Assumes nothing.
use mathlib.Core.Bool.{Bool, true, false}
use mathlib.Core.List.{List, [], ◌∷◌, ◌++◌, append_assoc}
use mathlib.Core.Logic.{◌⊎◌, inl, inr}
use mathlib.Core.Path.{◌≡◌, refl, sym, ap, ◌∙◌}
use Prim.Native.Nat.{ℕ, zero, suc, ◌+◌, ◌*◌, ◌/◌, ◌%◌, ◌^◌, ◌<◌, ◌≤◌}
use native.Mathlib.Nat.{pow-suc, one-le-pow, not-suc-le-zero}
use native.Mathlib.Omega.{arith}
use lib.Dec.{ltb}
use lib.ListN.{length, length-append}
use borrow.Author.Tests.{lt-ltb, le-ltb, ltb-true, ltb-false}
use Rattle.seats.specs.Tape.{digits_upto, digits}

-- ---- one step
below_ten : (x : ℕ) → (x < 10) ⊎ (10 ≤ x)
below_ten x = go (ltb x 10) refl
  where
    go : (t : Bool) → ltb x 10 ≡ t → (x < 10) ⊎ (10 ≤ x)
    go true e = inl (ltb-true x 10 e)
    go false e = inr (ltb-false x 10 e)

module _ (n x : ℕ) (rest : List ℕ) where
  upto_small : x < 10 → digits_upto (suc n) x rest ≡ (48 + x) ∷ rest
  unfolding digits_upto
  upto_small h = rw (lt-ltb x 10 h)

  upto_large : 10 ≤ x → digits_upto (suc n) x rest ≡ digits_upto n (x / 10) ((48 + x % 10) ∷ rest)
  unfolding digits_upto
  upto_large h = rw (le-ltb x 10 h)

-- The text that follows only follows.
upto_append : (n x : ℕ) (rest : List ℕ) → digits_upto n x rest ≡ digits_upto n x [] ++ rest
unfolding digits_upto
upto_append zero x rest = refl
upto_append (suc n) x rest = elim (below_ten x) [
  | inl h ↦ upto_small n x rest h ∙ sym (ap (λ (l : List ℕ). l ++ rest) (upto_small n x [] h))
  | inr h ↦
      let d = 48 + x % 10 in
      upto_large n x rest h
      ∙ upto_append n (x / 10) (d ∷ rest)
      ∙ sym (ap (λ (l : List ℕ). l ++ rest) (upto_large n x [] h ∙ upto_append n (x / 10) (d ∷ []))
      ∙ append_assoc (digits_upto n (x / 10) []) (d ∷ []) rest)
]

-- More digits than the number has change nothing.
upto_enough : (n m x : ℕ) (rest : List ℕ) → x < n → x < m → digits_upto n x rest ≡ digits_upto m x rest
upto_enough zero m x rest h k = absurd (not-suc-le-zero h)
upto_enough (suc n) zero x rest h k = absurd (not-suc-le-zero k)
upto_enough (suc n) (suc m) x rest h k = elim (below_ten x) [
  | inl s ↦ upto_small n x rest s ∙ sym (upto_small m x rest s)
  | inr s ↦
      upto_large n x rest s
      ∙ upto_enough n m (x / 10) ((48 + x % 10) ∷ rest) (omega arith) (omega arith)
      ∙ sym (upto_large m x rest s)
]

-- ---- the digits of a number
pub digits_small : (x : ℕ) → x < 10 → digits x ≡ (48 + x) ∷ []
unfolding digits
digits_small x = upto_small x x []

pub digits_large : (x : ℕ) → 10 ≤ x → digits x ≡ digits (x / 10) ++ ((48 + x % 10) ∷ [])
unfolding digits
digits_large x h =
    let d = 48 + x % 10 in
    upto_large x x [] h
    ∙ upto_append x (x / 10) (d ∷ [])
    ∙ ap (λ (l : List ℕ). l ++ (d ∷ [])) (upto_enough x (suc (x / 10)) (x / 10) [] (omega arith) (omega arith))

-- ---- how many there are
pub width_small : (x : ℕ) → x < 10 → length (digits x) ≡ 1
width_small x h = ap length (digits_small x h)

pub width_large : (x : ℕ) → 10 ≤ x → length (digits x) ≡ length (digits (x / 10)) + 1
width_large x h = ap length (digits_large x h) ∙ length-append (digits (x / 10)) ((48 + x % 10) ∷ [])

width_upto : (k x : ℕ) → x < 10 ^ suc k → length (digits x) ≤ suc k
width_upto zero x h = omega (arith, width_small x h)
width_upto (suc k) x h = elim (below_ten x) [
  | inl s ↦ omega (arith, width_small x s)
  | inr s ↦
      let p = pow-suc 10 (suc k) in
      omega (arith, width_large x s, width_upto k (x / 10) (omega arith))
]

-- A number from 10 ^ k on that is below ten times that has one digit more than k.
pub width_power : (k x : ℕ) → 10 ^ k ≤ x → x < 10 * 10 ^ k → length (digits x) ≡ k + 1
width_power zero x l h = width_small x (omega arith)
width_power (suc k) x l h =
    let p = pow-suc 10 k in
    let o = one-le-pow k 10 (omega arith) in
    let s : 10 ≤ x = omega arith in
    omega (arith, width_large x s, width_power k (x / 10) (omega arith) (omega arith))

pub width_word : (x : ℕ) → x < 2 ^ 64 → length (digits x) ≤ 20
width_word x h = width_upto 19 x (omega arith)

pub width_byte : (x : ℕ) → x < 256 → length (digits x) ≤ 3
width_byte x h = width_upto 2 x (omega arith)
