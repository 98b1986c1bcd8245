-- `sets::Set::above` meets its contract: taking out a number and those below it leaves the members above it.
-- Assumes nothing.
use borrow.Author.Rules.{rules}
use borrow.Author.Tests.{eq-eqb, ne_eqb, lt-ltb, le-ltb}
use mathlib.Core.Path.{◌≡◌, sym, ap, ap₂, ◌∙◌}
use mathlib.Core.Bool.{Bool, not, ◌&&◌, ◌||◌, and_comm}
use Prim.Native.Nat.{ℕ, zero, suc, ◌-◌, ◌^◌, ◌/◌, ◌%◌, ◌<◌, ◌≤◌}
use native.Mathlib.Nat.{pow-suc}
use native.Mathlib.Decide.{ℕ_discrete, dec_lt}
use native.Mathlib.Omega.{arith}
use lib.Dec.{eqb, ltb, leb-suc-suc}
use lib.Pow.{pow_pos}
use Rattle.sets.specs.Sets.{member, single, union, difference, above}
use Rattle.sets.proofs.Laws.{member-empty, member-zero, member-suc, member-single, member-union, member-difference, member-collect, extensional, collect-lt, difference-lt, shifted_single}
use Rattle.sets.proofs.Set.above.Goals as goal

-- The members of 2 ^ k - 1 are the numbers below k.
member-below : (n k : ℕ) → member n (2 ^ k - 1) ≡ ltb n k
member-below n zero = member-empty n ∙ sym (le-ltb n 0 (omega arith))
member-below zero (suc k) =
    let p = pow-suc 2 k in
    let q = pow_pos k in
    let e : (2 ^ suc k - 1) % 2 ≡ 1 = omega arith in
    member-zero (2 ^ suc k - 1) ∙ rw (e, lt-ltb 0 (suc k) (omega arith))
member-below (suc n) (suc k) =
    let p = pow-suc 2 k in
    let q = pow_pos k in
    let e : (2 ^ suc k - 1) / 2 ≡ 2 ^ k - 1 = omega arith in
    member-suc n (2 ^ suc k - 1) ∙ ap (member n) e ∙ member-below n k ∙ sym (leb-suc-suc (suc n) k)

-- n is neither k nor below it where it is above k.
above_test : (n k : ℕ) → not (eqb n k || ltb n k) ≡ ltb k n
above_test n k =
    elim (dec_lt k n) [
      | yes h ↦ rw (ne_eqb n k (λ q. omega arith), le-ltb n k (omega arith), lt-ltb k n h)
      | no d ↦
          elim (ℕ_discrete n k) [
            | yes q ↦ rw (eq-eqb n k q, le-ltb k n (omega arith))
            | no u ↦ rw (ne_eqb n k u, lt-ltb n k (omega arith), le-ltb k n (omega arith))
          ]
    ]

-- A set of a word whose members are those of s above k.
module _ (s k : ℕ) where
  same : (r : ℕ) → r < 2 ^ 64 → ((n : ℕ) → n < 64 → member n r ≡ ltb k n && member n s) → r ≡ above 64 k s
  unfolding above
  same r h e =
      extensional 64 r _ h (collect-lt 64 (λ n. ltb k n && member n s))
      (λ n l. e n l ∙ sym (member-collect n 64 (λ n. ltb k n && member n s) ∙ ap (λ (b : Bool). b && (ltb k n && member n s)) (lt-ltb n 64 l)))

  higher : (r : ℕ) → r < 2 ^ 64 → r ≡ difference s (union (single k) (single k - 1)) → r ≡ above 64 k s
  unfolding single
  higher r h e =
      same r h (λ n l.
      let low : member n (union (2 ^ k) (2 ^ k - 1)) ≡ eqb n k || ltb n k = member-union n (2 ^ k) (2 ^ k - 1) ∙ ap₂ ◌||◌ (member-single n k) (member-below n k) in
      ap (member n) e
      ∙ member-difference n s (union (2 ^ k) (2 ^ k - 1))
      ∙ ap (λ (b : Bool). member n s && b) (ap not low ∙ above_test n k)
      ∙ and_comm (member n s) (ltb k n))

  none : 64 ≤ k → 0 ≡ above 64 k s
  none h = same 0 (pow_pos 64) (λ n l. member-empty n ∙ ap (λ (b : Bool). b && member n s) (sym (le-ltb k n (omega arith))))

pub returns-then-i-lt64 : goal.returns-then-i-lt64
unfolding difference union
returns-then-i-lt64 g c =
    c.of.ensures
    ∙ higher c.word-s.result c.number-i.result _ (difference-lt 64 c.word-s.result _ (search rules)) (rw (shifted_single c.number-i.result c.if-i-lt64.true))
    ∙ ap₂ (above 64) c.number-i.ensures c.word-s.ensures

pub returns : goal.returns
returns g c = c.empty.ensures ∙ none c.word-s.result c.number-i.result c.if-i-lt64.false ∙ ap₂ (above 64) c.number-i.ensures c.word-s.ensures
