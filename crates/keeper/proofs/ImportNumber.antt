-- The demands hold of the exported importer: its number tells the answer.
-- Assumes nothing.
use mathlib.Core.List.{List, ◌++◌}
use mathlib.Core.Path.{◌≡◌, sym, ap, ◌∙◌}
use Prim.Native.Nat.{ℕ, ◌+◌, ◌<◌, ◌≤◌}
use native.Mathlib.Omega.{arith}
use lib.ListN.{length, drop}
use Rattle.sheets.specs.Sheets.{Sheet, Spells, tape_of}
use Rattle.sheets.specs.Importing.{Imported, Fails}
use Rattle.sheets.proofs.Spelling.{one_spelt, one-row, row_bound}
use Rattle.sheets.proofs.Outcomes.{bad_text, no_room, has_room, outcome, one_outcome}
use Rattle.keeper.specs.Imports.{not_imported, import_code, ImportPromise, DemandsOnImports}

one_answer : (text buffer left leaves : List ℕ) (r q : ℕ) → ImportPromise text buffer r left → ImportPromise text buffer q leaves → (r ≡ q) × (left ≡ leaves)
one_answer text buffer left leaves r q p s =
    let e = one_outcome p.imports s.imports in
    (p.code ∙ ap (λ (z : Imported × List ℕ). import_code z.0) e ∙ sym s.code, ap (λ (z : Imported × List ℕ). z.1) e)

-- ---- the three outcomes by their numbers
-- Where the buffer is shorter than not-imported, the number tells which it is.
data Numbered (text buffer left : List ℕ) (r : ℕ) : Type 0 where
  a_row : (row : ℕ) → Fails text row → 0 < row → r ≡ not_imported + row → left ≡ buffer → Numbered text buffer left r
  short : (s : Sheet) → Spells text s → length buffer < length (tape_of s) → r ≡ not_imported → left ≡ buffer → Numbered text buffer left r
  whole : (s : Sheet) → Spells text s → r ≡ length (tape_of s) → r ≤ length buffer → left ≡ tape_of s ++ drop r buffer → Numbered text buffer left r

numbered : (text buffer left : List ℕ) (r : ℕ) → ImportPromise text buffer r left → Numbered text buffer left r
unfolding import_code
numbered text buffer left r p = elim (outcome p.imports) [
  | bad_text row f q k ↦ a_row row f (row_bound f).0 (p.code ∙ ap import_code q) k
  | no_room s t l q k ↦ short s t l (p.code ∙ ap import_code q ∙ omega arith) k
  | has_room s t l q k ↦ (let e : r ≡ length (tape_of s) = p.code ∙ ap import_code q in whole s t e (omega arith) (k ∙ ap (λ (n : ℕ). tape_of s ++ drop n buffer) (sym e)))
]

module _ (text buffer left : List ℕ) (r : ℕ) (room : length buffer < not_imported) (p : ImportPromise text buffer r left) where
  refused_leaves : not_imported ≤ r → left ≡ buffer
  refused_leaves h = elim (numbered text buffer left r p) [
    | a_row _ _ _ _ k ↦ k
    | short _ _ _ _ k ↦ k
    | whole _ _ _ l _ ↦ absurd (omega arith)
  ]

  module _ (row : ℕ) (some : 0 < row) where
    bad_row : r ≡ not_imported + row → Fails text row
    bad_row e = elim (numbered text buffer left r p) [
      | a_row n f _ q _ ↦ (let s : row ≡ n = omega arith in rw s f)
      | short _ _ _ q _ ↦ absurd (omega arith)
      | whole _ _ _ l _ ↦ absurd (omega arith)
    ]

    fails_there : Fails text row → r ≡ not_imported + row
    fails_there f = elim (numbered text buffer left r p) [
      | a_row n g _ q _ ↦ q ∙ ap (λ (k : ℕ). not_imported + k) (one-row g f)
      | short s t _ _ _ ↦ absurd (f.unspelt s t)
      | whole s t _ _ _ ↦ absurd (f.unspelt s t)
    ]

  short_tape : r ≡ not_imported → (s : Sheet) × Spells text s × (length buffer < length (tape_of s))
  short_tape e = elim (numbered text buffer left r p) [
    | a_row n f z q _ ↦ absurd (omega arith)
    | short s t l _ _ ↦ (s, t, l)
    | whole _ _ _ l _ ↦ absurd (omega arith)
  ]

  too_short : (s : Sheet) × Spells text s × (length buffer < length (tape_of s)) → r ≡ not_imported
  too_short (s, t, l) = elim (numbered text buffer left r p) [
    | a_row n f _ _ _ ↦ absurd (f.unspelt s t)
    | short _ _ _ q _ ↦ q
    | whole u v q k _ ↦ absurd (let e = ap (λ (x : Sheet). length (tape_of x)) (one_spelt t v) in omega arith)
  ]

  a_length : r < not_imported → (s : Sheet) × Spells text s × (r ≡ length (tape_of s)) × (r ≤ length buffer) × (left ≡ tape_of s ++ drop r buffer)
  a_length h = elim (numbered text buffer left r p) [
    | a_row n f _ q _ ↦ absurd (omega arith)
    | short _ _ _ q _ ↦ absurd (omega arith)
    | whole s t q l k ↦ (s, t, q, l, k)
  ]

pub demands_on_imports : DemandsOnImports
demands_on_imports = record {
  one_answer = one_answer;
  refused_leaves = refused_leaves;
  bad_row_iff = λ text buffer left r row room some p. (bad_row text buffer left r room p row some, fails_there text buffer left r room p row some);
  short_tape_iff = λ text buffer left r room p. (short_tape text buffer left r room p, too_short text buffer left r room p);
  length_iff = λ text buffer left r room p. (a_length text buffer left r room p, λ (s, t, q, l, k). omega arith);
}
