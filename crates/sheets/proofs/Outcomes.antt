-- What importing comes to: the text fails at a row, or the buffer has no room for its sheet's tape, or it has and holds it; and no text and buffer come to two things.
-- Assumes nothing.
use mathlib.Core.List.{List, ◌++◌}
use mathlib.Core.Path.{◌≡◌, refl, sym, ap, ◌∙◌}
use Prim.Native.Nat.{ℕ, ◌+◌, ◌*◌, ◌<◌, ◌≤◌}
use native.Mathlib.Decide.{dec_lt}
use native.Mathlib.Omega.{arith}
use lib.ListN.{length, drop}
use borrow.Author.Tests.{le-leb}
use Rattle.seats.specs.Bytes.{Filled, written, fill}
use Rattle.seats.proofs.Written.{unfilled}
use Rattle.sheets.specs.Sheets.{Sheet, Spells, tape_of}
use Rattle.sheets.specs.Importing.{Fails, Imported, imported, refused, filled, Imports, fails, spelt}
use Rattle.sheets.proofs.Spelling.{one_spelt, one-row, row_bound}

-- ---- answers
pub no_imported : {k n p : ℕ} → imported k ≡ refused n p → ⊥
no_imported e = let z : ◌≡◌ {A = ℕ} 0 1 = cc in omega arith

pub same_refusal : {m k n p : ℕ} → refused m k ≡ refused n p → (m ≡ n) × (k ≡ p)
same_refusal e = (cc, cc)

pub same_length : {m n : ℕ} → imported m ≡ imported n → m ≡ n
same_length e = cc

-- ---- the three outcomes
pub data Outcome (text buffer left : List ℕ) (a : Imported) : Type 0 where
  bad_text : (row : ℕ) → Fails text row → a ≡ refused 32 row → left ≡ buffer → Outcome text buffer left a
  no_room : (s : Sheet) → Spells text s → length buffer < length (tape_of s) → a ≡ refused 33 0 → left ≡ buffer → Outcome text buffer left a
  has_room : (s : Sheet) → Spells text s → length (tape_of s) ≤ length buffer → a ≡ imported (length (tape_of s)) → left ≡ tape_of s ++ drop (length (tape_of s)) buffer → Outcome text buffer left a

pub outcome : {text buffer left : List ℕ} {a : Imported} → Imports text buffer a left → Outcome text buffer left a
unfolding filled fill
outcome (fails {row = row} p) = bad_text row p refl refl
outcome {buffer = buffer} (spelt {s = s} {a = a} {left = left} p e) = elim (dec_lt (length buffer) (length (tape_of s))) [
  | yes l ↦ (let q = e ∙ sym (unfilled 33 buffer (tape_of s) l) in no_room s p l (ap (λ (z : Filled × List ℕ). filled z.0) q) (ap (λ (z : Filled × List ℕ). z.1) q))
  | no d ↦
      (let k : length (tape_of s) ≤ length buffer = omega (arith, d) in
      let q : ◌≡◌ {A = Filled × List ℕ} (a, left) (written (length (tape_of s)), tape_of s ++ drop (length (tape_of s)) buffer) = e ∙ rw (le-leb (length (tape_of s)) (length buffer) k) in
      has_room s p k (ap (λ (z : Filled × List ℕ). filled z.0) q) (ap (λ (z : Filled × List ℕ). z.1) q))
]

-- ---- no other
pub one_outcome : {text buffer x y : List ℕ} {a b : Imported} → Imports text buffer a x → Imports text buffer b y → ◌≡◌ {A = Imported × List ℕ} (a, x) (b, y)
one_outcome {buffer = buffer} (fails p) (fails q) = ap (λ (n : ℕ). (refused 32 n, buffer)) (one-row p q)
one_outcome (fails p) (spelt {s = s} q e) = absurd (p.unspelt s q)
one_outcome (spelt {s = s} p e) (fails q) = absurd (q.unspelt s p)
one_outcome {buffer = buffer} (spelt p e) (spelt q f) =
    ap (λ (z : Filled × List ℕ). (filled z.0, z.1)) (e ∙ ap (λ (s : Sheet). fill 33 (tape_of s) buffer) (one_spelt p q) ∙ sym f)

-- ---- bounds
-- The place of a refusal is at most one more than half the text's bytes.
pub place_bound : {text buffer left : List ℕ} {a : Imported} {n p : ℕ} → Imports text buffer a left → a ≡ refused n p → 2 * p ≤ length text + 2
place_bound i e = elim (outcome i) [
  | bad_text row f q _ ↦ (let b = (row_bound f).1 in let s = (same_refusal (sym e ∙ q)).1 in omega arith)
  | no_room _ _ _ q _ ↦ (let s = (same_refusal (sym e ∙ q)).1 in omega arith)
  | has_room _ _ _ q _ ↦ absurd (no_imported (sym q ∙ e))
]
