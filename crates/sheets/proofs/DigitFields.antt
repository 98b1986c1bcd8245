-- Fields whose content is digits: such a field is the digits, plain or between quotes.
-- Assumes nothing.
use mathlib.Core.List.{List, [], ◌∷◌, ◌++◌}
use mathlib.Core.Logic.{◌⊎◌, inl, inr}
use mathlib.Core.Path.{◌≡◌, refl, sym, ap, ◌∙◌, subst}
use Prim.Native.Nat.{ℕ, zero, suc, ◌+◌, ◌*◌, ◌/◌, ◌%◌, ◌<◌, ◌≤◌}
use native.Mathlib.Decide.{dec_lt}
use native.Mathlib.Nat.{not-suc-le-zero}
use native.Mathlib.Omega.{arith}
use lib.ListN.{length, length-append}
use Rattle.lists.specs.Runs.{Each}
use Rattle.seats.specs.Tape.{digits}
use Rattle.seats.proofs.Digits.{digits_small, digits_large}
use Rattle.sheets.specs.Rfc.{quote, TextData, behind_comma, NonEscaped, no_text, one_text, Escaped, no_more, more_text, more_comma, more_return, more_feed, two_quotes, Field, non_escaped, escaped}
use Rattle.sheets.specs.Parsing.{head}

-- ---- digits
-- Digits alone.
abbrev pub Digits : List ℕ → Type 0
Digits = Each (λ (x : ℕ). (48 ≤ x) × (x ≤ 57))

pub no_digits : Digits []
unfolding Each
no_digits = tt

one-more : (l : List ℕ) (d : ℕ) → d < 10 → Digits l → Digits (l ++ ((48 + d) ∷ []))
unfolding Each
one-more [] d h p = ((omega arith, omega arith), tt)
one-more (x ∷ l) d h p = (p.0, one-more l d h p.1)

-- The digits of a number, by whatever holds of those of a number below ten and passes from those of the tenth.
by_digits : (P : ℕ → List ℕ → Type 0) → ((n : ℕ) → n < 10 → P n ((48 + n) ∷ [])) → ((n : ℕ) → 10 ≤ n → P (n / 10) (digits (n / 10)) → P n (digits (n / 10) ++ ((48 + n % 10) ∷ [])))
    → (k n : ℕ) → n < k → P n (digits n)
by_digits P small large zero n h = absurd (not-suc-le-zero h)
by_digits P small large (suc k) n h = elim (dec_lt n 10) [
  | yes s ↦ subst (P n) (sym (digits_small n s)) (small n s)
  | no d ↦ (let s : 10 ≤ n = omega (arith, d) in subst (P n) (sym (digits_large n s)) (large n s (by_digits P small large k (n / 10) (omega arith))))
]

pub digits_are : (n : ℕ) → Digits (digits n)
unfolding Each
digits_are n = by_digits (λ m l. Digits l) (λ m s. ((omega arith, omega arith), tt)) (λ m s p. one-more (digits (m / 10)) (m % 10) (omega arith) p) (suc n) n (omega arith)

-- One at least.
pub digits-some : (n : ℕ) → 0 < length (digits n)
digits-some n = by_digits (λ m l. 0 < length l) (λ m s. omega arith) (λ m s p. omega (arith, length-append (digits (m / 10)) ((48 + m % 10) ∷ []))) (suc n) n (omega arith)

-- A text that begins with digits begins with one.
first_digit : (l t : List ℕ) → 0 < length l → Digits l → 48 ≤ head (l ++ t)
unfolding Each
first_digit [] t h p = absurd (omega arith)
first_digit (x ∷ l) t h p = p.0.0

pub digits_first : (n : ℕ) (t : List ℕ) → 48 ≤ head (digits n ++ t)
digits_first n t = first_digit (digits n) t (digits-some n) (digits_are n)

-- One digit more.
pub digits-more : (v d : ℕ) → 0 < v → d < 10 → digits (10 * v + d) ≡ digits v ++ ((48 + d) ∷ [])
digits-more v d h k =
    let q : (10 * v + d) / 10 ≡ v = omega arith in
    let r : (10 * v + d) % 10 ≡ d = omega arith in
    digits_large (10 * v + d) (omega arith) ∙ rw (q, r)

-- ---- what RFC 4180 makes of them
digit_text : {x : ℕ} → 48 ≤ x → x ≤ 57 → TextData x
digit_text h k = behind_comma (omega arith) (omega arith)

plain-digits : (l : List ℕ) → Digits l → NonEscaped l
unfolding Each
plain-digits [] p = no_text
plain-digits (x ∷ l) p = one_text (digit_text p.0.0 p.0.1) (plain-digits l p.1)

quoted_digits : (l : List ℕ) → Digits l → Escaped l l
unfolding Each
quoted_digits [] p = no_more
quoted_digits (x ∷ l) p = more_text (digit_text p.0.0 p.0.1) (quoted_digits l p.1)

-- Between quotes digits stand for themselves.
digits_between : {w t : List ℕ} → Digits w → Escaped w t → t ≡ w
unfolding Each
digits_between p no_more = refl
digits_between p (more_text {x = x} h e) = ap (λ (l : List ℕ). x ∷ l) (digits_between p.1 e)
digits_between p (more_comma e) = absurd (let q = p.0.0 in omega arith)
digits_between p (more_return e) = absurd (let q = p.0.0 in omega arith)
digits_between p (more_feed e) = absurd (let q = p.0.0 in omega arith)
digits_between p (two_quotes e) = absurd (let q = p.0.0 in omega arith)

pub plain-field : (l : List ℕ) → Digits l → Field l l
plain-field l p = non_escaped (plain-digits l p)

pub quoted_field : (l : List ℕ) → Digits l → Field l (quote ∷ (l ++ (quote ∷ [])))
quoted_field l p = escaped (quoted_digits l p)

-- A field of digits is plain or between quotes.
pub either_field : {f w : List ℕ} → Digits f → Field f w → (w ≡ f) ⊎ (w ≡ quote ∷ (f ++ (quote ∷ [])))
either_field p (non_escaped e) = inl refl
either_field p (escaped e) = inr (ap (λ (l : List ℕ). quote ∷ (l ++ (quote ∷ []))) (digits_between p e))
