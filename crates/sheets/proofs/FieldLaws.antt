-- Fields at a text's front: one law for each way out of a function.
-- Assumes nothing.
use mathlib.Core.Bool.{Bool, true, false, cond, ◌&&◌}
use mathlib.Core.List.{List, [], ◌∷◌}
use mathlib.Core.Logic.{◌⊎◌, inl, inr}
use mathlib.Core.Path.{◌≡◌, refl, sym, ap}
use Prim.Native.Nat.{ℕ, ◌+◌, ◌*◌, ◌≤◌, ◌<◌}
use native.Mathlib.Omega.{arith}
use lib.ListN.{length, take, drop}
use lib.Dec.{eqb, ltb}
use lib.Pointwise.{pointwise}
use borrow.Author.Tests.{lt-ltb, le-ltb, le-leb, lt-leb, eq-eqb, ne_eqb}
use Rattle.std.specs.Prelude.{Option, Some, None, MatchOption, nat_eq, unwrap_or}
use Rattle.std.specs.Borrow.{Bor}
use Rattle.seats.specs.Tape.{line_feed}
use Rattle.sheets.specs.Rfc.{comma, quote, carriage_return}
use Rattle.sheets.specs.Parsing.{Read, got, bad, and_then, head, value, longer, begun, plain, binary, closed, quotable, further, opened, ended}
use Rattle.sheets.specs.Working.{read_end}
use Rattle.sheets.proofs.NumberReading.{value-digit}

-- ---- the word at a text's front
and_true : (b : Bool) → b && true ≡ b
and_true true = refl
and_true false = refl

-- The text begins with a byte, or with two.
abbrev pub begins : ℕ → List ℕ → Bool
begins a l = pointwise nat_eq (take 1 l) (a ∷ [])

abbrev pub begins_two : ℕ → ℕ → List ℕ → Bool
begins_two a b l = pointwise nat_eq (take 2 l) (a ∷ b ∷ [])

pub begins-head : (a : ℕ) (l : List ℕ) → 0 < a → begins a l ≡ eqb (head l) a
begins-head a [] h = sym (ne_eqb 0 a (λ e. omega arith))
begins-head a (x ∷ l) h = and_true (eqb x a)

begins_two-heads : (a b : ℕ) (l : List ℕ) → 0 < a → 0 < b → begins_two a b l ≡ eqb (head l) a && eqb (head (drop 1 l)) b
begins_two-heads a b [] h k = rw (ne_eqb 0 a (λ e. omega arith))
begins_two-heads a b (x ∷ []) h k = rw (ne_eqb 0 b (λ e. omega arith))
begins_two-heads a b (x ∷ y ∷ l) h k = ap (λ (t : Bool). eqb x a && t) (and_true (eqb y b))

-- ---- a digit
pub no_digit_in : (l : List ℕ) → length l ≡ 0 → value (head l) ≡ 10
unfolding value
no_digit_in [] e = refl
no_digit_in (x ∷ l) e = absurd (omega arith)

pub no_digit_first : {x : ℕ} {l t : List ℕ} → l ≡ x ∷ t → (x < 48) ⊎ (57 < x) → value (head l) ≡ 10
unfolding value
no_digit_first {x} e (inl h) = rw (e, lt-leb 48 x h)
no_digit_first {x} e (inr h) = rw (e, le-leb 48 x (omega arith), lt-leb x 57 h)

-- ---- a number
module _ (limit v : ℕ) (l : List ℕ) where
  pub longer_done : value (head l) ≡ 10 → got v l ≡ longer limit v l
  unfolding longer
  longer_done = by l
    where
      by : (l : List ℕ) → value (head l) ≡ 10 → got v l ≡ longer limit v l
      by [] e = refl
      by (x ∷ l) e = rw e

  module _ {d : ℕ} {t : List ℕ} (h : d < 10) (e : l ≡ (48 + d) ∷ t) where
    by_digit : longer limit v l ≡ cond (ltb (10 * v + d) limit) (longer limit (10 * v + d) t) bad
    unfolding longer
    by_digit = rw (e, value-digit d h, lt-ltb d 10 h)

    pub longer_high : limit ≤ 10 * v + d → bad ≡ longer limit v l
    longer_high k = rw (by_digit, le-ltb (10 * v + d) limit k)

    pub longer_next : {n : ℕ} → 10 * v + d ≡ n → n < limit → longer limit v l ≡ longer limit n t
    longer_next {n} p k = rw (by_digit, p, lt-ltb n limit k)

module _ (limit : ℕ) (l : List ℕ) where
  pub plain_no : value (head l) ≡ 10 → bad ≡ plain limit l
  unfolding plain begun
  plain_no e = rw e

  module _ {a : ℕ} {t : List ℕ} (h : a < 10) (e : l ≡ (48 + a) ∷ t) where
    by_first : plain limit l ≡ cond (ltb a limit) (cond (eqb a 0) (got 0 t) (longer limit a t)) bad
    unfolding plain begun
    by_first = rw (e, value-digit a h, lt-ltb a 10 h)

    pub plain_high : limit ≤ a → bad ≡ plain limit l
    plain_high k = rw (by_first, le-ltb a limit k)

    pub plain_zero : a < limit → a ≡ 0 → got 0 t ≡ plain limit l
    plain_zero k z = rw (by_first, lt-ltb a limit k, eq-eqb a 0 z)

    pub plain_longer : a < limit → (a ≡ 0 → ⊥) → longer limit a t ≡ plain limit l
    plain_longer k z = rw (by_first, lt-ltb a limit k, ne_eqb a 0 z)

-- ---- a mark
module _ (l : List ℕ) where
  pub binary_no : value (head l) ≡ 10 → bad ≡ binary l
  unfolding binary
  binary_no e = rw e

  module _ {d : ℕ} {t : List ℕ} (h : d < 10) (e : l ≡ (48 + d) ∷ t) where
    pub binary_high : 1 < d → bad ≡ binary l
    unfolding binary
    binary_high k = rw (e, value-digit d h, le-ltb d 2 k)

    pub binary_read : d ≤ 1 → got d t ≡ binary l
    unfolding binary
    binary_read k = rw (e, value-digit d h, lt-ltb d 2 (omega arith))

-- ---- a field
module _ (f : List ℕ → Read ℕ) (l : List ℕ) where
  pub quotable_plain : begins quote l ≡ false → f l ≡ quotable f l
  unfolding quotable
  quotable_plain e = rw (sym (begins-head quote l (omega arith)), e)

  module _ {t : List ℕ} (e : begins quote l ≡ true) (i : t ≡ drop 1 l) where
    quoted : quotable f l ≡ and_then (f t) closed
    unfolding quotable
    quoted = rw (sym (begins-head quote l (omega arith)), e, i)

    pub quotable_no : bad ≡ f t → bad ≡ quotable f l
    unfolding and_then
    quotable_no p = rw (quoted, sym p)

    module _ {n : ℕ} {u : List ℕ} (p : got n u ≡ f t) where
      pub quotable_open : begins quote u ≡ false → bad ≡ quotable f l
      unfolding and_then closed
      quotable_open k = rw (quoted, sym p, sym (begins-head quote u (omega arith)), k)

      pub quotable_closed : {v : List ℕ} → begins quote u ≡ true → v ≡ drop 1 u → got n v ≡ quotable f l
      unfolding and_then closed
      quotable_closed k j = rw (quoted, sym p, sym (begins-head quote u (omega arith)), k, j)

-- ---- a mark behind a comma
module _ (l : List ℕ) where
  pub further_no : begins comma l ≡ false → bad ≡ further l
  unfolding further
  further_no e = rw (sym (begins-head comma l (omega arith)), e)

  pub further_read : {t : List ℕ} → begins comma l ≡ true → t ≡ drop 1 l → quotable binary t ≡ further l
  unfolding further
  further_read e i = rw (sym (begins-head comma l (omega arith)), e, i)

-- ---- the end of a line
pub ended_out : (l : List ℕ) → true ≡ eqb (length l) 0 → got tt l ≡ ended l
unfolding ended
ended_out l e = rw (sym e)

pub ended_line : (l : List ℕ) (r : Option (Bor (List ℕ))) → false ≡ eqb (length l) 0
    → MatchOption r (begins_two carriage_return line_feed l ≡ false) (λ t. (begins_two carriage_return line_feed l ≡ true) × (t.now ≡ drop 2 l) × (length t.now + 2 ≡ length l))
    → read_end r ≡ ended l
unfolding ended read_end
ended_line l None e h = rw (sym e, sym (begins_two-heads carriage_return line_feed l (omega arith) (omega arith)), h)
ended_line l (Some t) e h = rw (sym e, sym (begins_two-heads carriage_return line_feed l (omega arith) (omega arith)), h.0, h.1)

-- ---- the first field
pub opened_word : (l : Bor (List ℕ)) (r : Option (Bor (List ℕ)))
    → MatchOption r (begins_two quote quote l.now ≡ false) (λ t. (begins_two quote quote l.now ≡ true) × (t.now ≡ drop 2 l.now) × (length t.now + 2 ≡ length l.now))
    → (unwrap_or r l).now ≡ opened l.now
unfolding opened
opened_word l None h = rw (sym (begins_two-heads quote quote l.now (omega arith) (omega arith)), h)
opened_word l (Some t) h = rw (sym (begins_two-heads quote quote l.now (omega arith) (omega arith)), h.0) h.1
