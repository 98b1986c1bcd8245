-- The numbers that are read are the fields of numbers, in both directions.
-- Assumes nothing.
use mathlib.Core.Bool.{Bool, true, false, cond}
use mathlib.Core.List.{List, [], ◌∷◌, ◌++◌, append_assoc}
use mathlib.Core.Logic.{◌⊎◌, inl, inr}
use mathlib.Core.Path.{◌≡◌, refl, sym, ap, ap₂, ◌∙◌, subst}
use Prim.Native.Nat.{ℕ, zero, suc, ◌+◌, ◌*◌, ◌/◌, ◌%◌, ◌≤◌, ◌<◌}
use native.Mathlib.Decide.{dec_lt}
use native.Mathlib.Nat.{not-suc-le-zero}
use native.Mathlib.Omega.{arith}
use lib.ListN.{drop}
use lib.Dec.{eqb, leb, ltb}
use borrow.Author.Tests.{lt-ltb, le-leb, ne_eqb, ltb-true, leb-true, eqb-true, eqb-false}
use Rattle.seats.specs.Tape.{digits}
use Rattle.seats.proofs.Digits.{digits_small, digits_large}
use Rattle.sheets.specs.Rfc.{comma, quote, carriage_return, Field}
use Rattle.sheets.specs.Parsing.{Read, got, bad, and_then, head, value, longer, begun, plain, binary, closed, quotable, field}
use Rattle.sheets.proofs.ReadResults.{passed, by_test, in_steps, begins_with}
use Rattle.sheets.proofs.DigitFields.{digits_are, digits_first, digits-more, plain-field, quoted_field, either_field}

-- ---- digits
pub value-digit : (a : ℕ) → a < 10 → value (48 + a) ≡ a
unfolding value
value-digit a h = rw (le-leb 48 (48 + a) (omega arith), le-leb (48 + a) 57 (omega arith)) (omega arith)

digit-value : (x : ℕ) → value x < 10 → x ≡ 48 + value x
unfolding value
digit-value x h = go (leb 48 x) refl (leb x 57) refl
  where
    go : (b : Bool) → leb 48 x ≡ b → (d : Bool) → leb x 57 ≡ d → x ≡ 48 + value x
    go true p true q = rw (p, q) (let u = leb-true 48 x p in omega arith)
    go true p false q = absurd (let z : value x ≡ 10 = rw (p, q) in omega arith)
    go false p d q = absurd (let z : value x ≡ 10 = rw p in omega arith)

-- Bytes that are no digits.
no_digit_quote : value quote ≡ 10
unfolding value
no_digit_quote = refl

pub no_digit_comma : value comma ≡ 10
unfolding value
no_digit_comma = refl

pub no_digit_end : value 0 ≡ 10
unfolding value
no_digit_end = refl

pub no_digit_return : value carriage_return ≡ 10
unfolding value
no_digit_return = refl

-- ---- a number: what is read is spelt
longer_sound : (limit v : ℕ) (l : List ℕ) {n : ℕ} {t : List ℕ} → 0 < v → v < limit → longer limit v l ≡ got n t → (n < limit) × (digits v ++ l ≡ digits n ++ t)
unfolding longer
longer_sound limit v [] {n} {t} h k e =
    let a : v ≡ n = cc in
    let b : [] ≡ t = cc in
    (omega arith, ap₂ (λ (x : ℕ) (m : List ℕ). digits x ++ m) a b)
longer_sound limit v (x ∷ l) {n} {t} h k e = by (longer_sound limit (10 * v + value x) l) (by_test (ltb (value x) 10) e)
  where
    w : ℕ
    w = 10 * v + value x

    by : (0 < w → w < limit → longer limit w l ≡ got n t → (n < limit) × (digits w ++ l ≡ digits n ++ t))
        → ((ltb (value x) 10 ≡ true) × (cond (ltb w limit) (longer limit w l) bad ≡ got n t)) ⊎ ((ltb (value x) 10 ≡ false) × (got v (x ∷ l) ≡ got n t))
        → (n < limit) × (digits v ++ (x ∷ l) ≡ digits n ++ t)
    by again (inl g) =
        let d = ltb-true (value x) 10 g.0 in
        let p = passed (ltb w limit) g.1 in
        let q = again (omega arith) (ltb-true w limit p.0) p.1 in
        let s : digits v ++ (x ∷ l) ≡ digits w ++ l =
        ap (λ (y : ℕ). digits v ++ (y ∷ l)) (digit-value x d)
        ∙ sym (append_assoc (digits v) ((48 + value x) ∷ []) l)
        ∙ ap (λ (m : List ℕ). m ++ l) (sym (digits-more v (value x) h d)) in
        (q.0, s ∙ q.1)
    by again (inr g) =
        let f = g.1 in
        let a : v ≡ n = cc in
        let b : x ∷ l ≡ t = cc in
        (omega arith, ap₂ (λ (y : ℕ) (m : List ℕ). digits y ++ m) a b)

plain_sound : (limit : ℕ) (l : List ℕ) {n : ℕ} {t : List ℕ} → plain limit l ≡ got n t → (n < limit) × (l ≡ digits n ++ t)
unfolding plain begun
plain_sound limit l {n} {t} e = by_first (passed (ltb a 10) e)
  where
    a : ℕ
    a = value (head l)

    front : a < 10 → l ≡ digits a ++ drop 1 l
    front h =
        let d = digit-value (head l) h in
        begins_with l d (omega arith) ∙ ap (λ (m : List ℕ). m ++ drop 1 l) (sym (digits_small a h))

    by_zero : a < 10 → a < limit → ((eqb a 0 ≡ true) × (got 0 (drop 1 l) ≡ got n t)) ⊎ ((eqb a 0 ≡ false) × (longer limit a (drop 1 l) ≡ got n t)) → (n < limit) × (l ≡ digits n ++ t)
    by_zero h k (inl g) =
        let z = eqb-true a 0 g.0 in
        let f = g.1 in
        let x : ◌≡◌ {A = ℕ} 0 n = cc in
        let y : drop 1 l ≡ t = cc in
        (omega arith, front h ∙ ap₂ (λ (u : ℕ) (m : List ℕ). digits u ++ m) (z ∙ x) y)
    by_zero h k (inr g) =
        let z = eqb-false a 0 g.0 in
        let s = longer_sound limit a (drop 1 l) (omega arith) k g.1 in
        (s.0, front h ∙ s.1)

    by_limit : a < 10 → (ltb a limit ≡ true) × (cond (eqb a 0) (got 0 (drop 1 l)) (longer limit a (drop 1 l)) ≡ got n t) → (n < limit) × (l ≡ digits n ++ t)
    by_limit h g = by_zero h (ltb-true a limit g.0) (by_test (eqb a 0) g.1)

    by_first : (ltb a 10 ≡ true) × (cond (ltb a limit) (cond (eqb a 0) (got 0 (drop 1 l)) (longer limit a (drop 1 l))) bad ≡ got n t) → (n < limit) × (l ≡ digits n ++ t)
    by_first g = by_limit (ltb-true a 10 g.0) (passed (ltb a limit) g.1)

-- ---- a number: what is spelt is read, where no digit follows
read_digits : (k limit n : ℕ) (u : List ℕ) → n < k → 0 < n → n < limit → plain limit (digits n ++ u) ≡ longer limit n u
unfolding plain begun longer
read_digits zero limit n u b h i = absurd (not-suc-le-zero b)
read_digits (suc k) limit n u b h i = elim (dec_lt n 10) [
  | yes s ↦ rw (digits_small n s, value-digit n s, lt-ltb n 10 s, lt-ltb n limit i, ne_eqb n 0 (λ z. omega arith))
  | no d ↦
      (let s : 10 ≤ n = omega (arith, d) in
      let r : n % 10 < 10 = omega arith in
      let v : 10 * (n / 10) + n % 10 ≡ n = omega arith in
      ap (λ (m : List ℕ). plain limit (m ++ u)) (digits_large n s)
      ∙ ap (plain limit) (append_assoc (digits (n / 10)) ((48 + n % 10) ∷ []) u)
      ∙ read_digits k limit (n / 10) ((48 + n % 10) ∷ u) (omega arith) (omega arith) (omega arith)
      ∙ rw (value-digit (n % 10) r, lt-ltb (n % 10) 10 r, v, lt-ltb n limit i))
]

longer_ends : (limit n : ℕ) (t : List ℕ) → value (head t) ≡ 10 → longer limit n t ≡ got n t
unfolding longer
longer_ends limit n [] e = refl
longer_ends limit n (x ∷ t) e = rw e

plain_complete : (limit n : ℕ) (t : List ℕ) → n < limit → value (head t) ≡ 10 → plain limit (digits n ++ t) ≡ got n t
unfolding plain begun
plain_complete limit zero t h e = rw (digits_small 0 (omega arith), value-digit 0 (omega arith), lt-ltb 0 limit h)
plain_complete limit (suc n) t h e = read_digits (suc (suc n)) limit (suc n) t (omega arith) (omega arith) h ∙ longer_ends limit (suc n) t e

-- ---- a mark
pub binary_sound : (l : List ℕ) (n : ℕ) (t : List ℕ) → binary l ≡ got n t → (n < 2) × (l ≡ digits n ++ t)
unfolding binary
binary_sound l n t e =
    let p = passed (ltb (value (head l)) 2) e in
    let f = p.1 in
    let a = ltb-true (value (head l)) 2 p.0 in
    let x : value (head l) ≡ n = cc in
    let y : drop 1 l ≡ t = cc in
    let d = digit-value (head l) (omega arith) in
    (omega arith, begins_with l d (omega arith) ∙ rw (digits_small n (omega arith)) (ap₂ (λ (v : ℕ) (m : List ℕ). (48 + v) ∷ m) x y))

pub binary_complete : (n : ℕ) (t : List ℕ) → n < 2 → binary (digits n ++ t) ≡ got n t
unfolding binary
binary_complete n t h = rw (digits_small n (omega arith), value-digit n (omega arith), lt-ltb n 2 h)

-- ---- a field, whatever reads its content
pub quotable_sound : (P : ℕ → Type 0) (f : List ℕ → Read ℕ) → ((l : List ℕ) (n : ℕ) (t : List ℕ) → f l ≡ got n t → P n × (l ≡ digits n ++ t))
    → (l : List ℕ) {n : ℕ} {t : List ℕ} → quotable f l ≡ got n t → (w : List ℕ) × Field (digits n) w × P n × (l ≡ w ++ t)
unfolding quotable closed
quotable_sound P f sound l {n} {t} e = by (by_test (eqb (head l) quote) e)
  where
    by : ((eqb (head l) quote ≡ true) × (and_then (f (drop 1 l)) closed ≡ got n t)) ⊎ ((eqb (head l) quote ≡ false) × (f l ≡ got n t)) → (w : List ℕ) × Field (digits n) w × P n × (l ≡ w ++ t)
    by (inl g) =
        let (x, u, p, q) = in_steps (f (drop 1 l)) closed g.1 in
        let k = passed (eqb (head u) quote) q in
        let m = sound (drop 1 l) x u p in
        let i : x ≡ n = let z = k.1 in cc in
        let j : drop 1 u ≡ t = let z = k.1 in cc in
        let b : u ≡ quote ∷ t = begins_with u (eqb-true (head u) quote k.0) (omega arith) ∙ ap (λ (v : List ℕ). quote ∷ v) j in (
          quote ∷ (digits n ++ (quote ∷ [])),
          quoted_field (digits n) (digits_are n),
          subst P i m.0,
          begins_with l (eqb-true (head l) quote g.0) (omega arith) ∙ ap (λ (v : List ℕ). quote ∷ v) (m.1 ∙ ap₂ (λ (y : ℕ) (v : List ℕ). digits y ++ v) i b ∙ sym (append_assoc (digits n) (quote ∷ []) t)),
        )
    by (inr g) = let m = sound l n t g.1 in (digits n, plain-field (digits n) (digits_are n), m.0, m.1)

pub quotable_complete : (f : List ℕ → Read ℕ) (n : ℕ) → ((t : List ℕ) → value (head t) ≡ 10 → f (digits n ++ t) ≡ got n t)
    → {w : List ℕ} (t : List ℕ) → Field (digits n) w → value (head t) ≡ 10 → quotable f (w ++ t) ≡ got n t
unfolding quotable and_then closed
quotable_complete f n complete {w} t g e = elim (either_field (digits_are n) g) [
  | inl p ↦ rw p (let k = digits_first n t in rw (ne_eqb (head (digits n ++ t)) quote (λ z. omega arith)) (complete t e))
  | inr p ↦ rw (p, append_assoc (digits n) (quote ∷ []) t) (inside (complete (quote ∷ t) no_digit_quote))
]
  where
    inside : f (digits n ++ (quote ∷ t)) ≡ got n (quote ∷ t) → and_then (f (digits n ++ (quote ∷ t))) closed ≡ got n t
    inside p = rw p

-- ---- the field of a number
pub field_sound : (limit : ℕ) (l : List ℕ) {n : ℕ} {t : List ℕ} → field limit l ≡ got n t → (w : List ℕ) × Field (digits n) w × (n < limit) × (l ≡ w ++ t)
field_sound limit l e = quotable_sound (λ (n : ℕ). n < limit) (plain limit) (λ l n t e. plain_sound limit l e) l e

pub field_complete : (limit : ℕ) {n : ℕ} {w : List ℕ} (t : List ℕ) → n < limit → Field (digits n) w → value (head t) ≡ 10 → field limit (w ++ t) ≡ got n t
field_complete limit {n} t h f e = quotable_complete (plain limit) n (λ u d. plain_complete limit n u h d) t f e
