-- The three demands hold of the importer.
-- Assumes nothing.
use mathlib.Core.List.{List, ◌++◌, map}
use mathlib.Core.Logic.{◌⊎◌, inl, inr}
use mathlib.Core.Path.{◌≡◌, sym, ap, ◌∙◌}
use Prim.Native.Nat.{ℕ, ◌<◌, ◌≤◌}
use native.Mathlib.Decide.{dec_lt}
use native.Mathlib.Omega.{arith}
use lib.ListN.{length, take, drop}
use borrow.Author.Tests.{le-leb}
use lib.Seq.{take-append_seam, drop-append_seam}
use Rattle.std.specs.Prelude.{Result, Ok, Err}
use Rattle.lists.specs.Runs.{Chain, run}
use Rattle.lists.proofs.Runs.{chain_runs}
use Rattle.seats.specs.Tape.{records}
use Rattle.seats.specs.Demands.{One}
use Rattle.seats.specs.Reading.{read_answer}
use Rattle.seats.specs.Replies.{Answer}
use Rattle.seats.specs.Bytes.{written, fill}
use Rattle.seats.proofs.Written.{unfilled}
use Rattle.sittings.specs.Records.{step}
use Rattle.sittings.specs.Promises.{StepPromise}
use Rattle.sittings.specs.Reading.{read_sitting}
use Rattle.sittings.specs.declared.Sitting.{Sitting}
use Rattle.sittings.proofs.KeeperTheorem.{keeper_theorem}
use Rattle.sheets.specs.Sheets.{Sheet, Spells, tape_of}
use Rattle.sheets.specs.Importing.{imported, refused, Fails, Imports, filled, fails, spelt}
use Rattle.sheets.specs.Importing as importing
use Rattle.sheets.specs.Reading.{read_imported}
use Rattle.sheets.specs.Promises.{ImportPromise}
use Rattle.sheets.specs.Demands.{read_left, DemandOne, DemandTwo, DemandThree, Demands}
use Rattle.sheets.specs.declared.ImportError.{ImportError}
use Rattle.sheets.specs.declared.ImportError.TheVariants.{BadRow, NoRoom}
use Rattle.sheets.proofs.Spelling.{one_spelt, spelt_or_fails, one-row, rows_bound}
use Rattle.sheets.proofs.Outcomes.{no_imported, same_refusal, same_length, bad_text, no_room, has_room, outcome, one_outcome}
use Rattle.sheets.proofs.TapeMeaning.{tape_length, tape_bytes, tape_decodes, tape_played}

-- ---- an answer there is
abbrev Answered : List ℕ → List ℕ → Type 0
Answered text buffer = (r : Result ℕ ImportError) × (left : List ℕ) × ImportPromise text buffer r left

some_outcome : (text buffer : List ℕ) → Answered text buffer
unfolding read_imported filled fill
some_outcome text buffer = elim (spelt_or_fails text) [
  | inl p ↦ elim (dec_lt (length buffer) (length (tape_of p.0))) [
    | yes l ↦ (Err NoRoom, buffer, spelt p.1 (unfilled 33 buffer (tape_of p.0) l))
    | no d ↦
        (let k : length (tape_of p.0) ≤ length buffer = omega (arith, d) in
        (Ok (length (tape_of p.0)), tape_of p.0 ++ drop (length (tape_of p.0)) buffer, spelt {a = written (length (tape_of p.0))} p.1 (rw (le-leb (length (tape_of p.0)) (length buffer) k))))
  ]
  | inr p ↦ (Err (BadRow p.0), buffer, fails p.1)
]

answered : (text buffer : List ℕ) → One read_left (λ z. ImportPromise text buffer z.0 z.1)
answered text buffer =
    let (r, left, i) = some_outcome text buffer in
    record {
      some = (r, left);
      kept = i;
      alike = λ z p. one_outcome p i;
    }

-- ---- demand 1
refusal : (text buffer left : List ℕ) (r : Result ℕ ImportError) (n p : ℕ) → ImportPromise text buffer r left → read_imported r ≡ refused n p → (((n ≡ 32) × Fails text p) ⊎ ((n ≡ 33) × (p ≡ 0))) × (left ≡ buffer)
refusal text buffer left r n p i e = elim (outcome i) [
  | bad_text row f q k ↦ (let s = same_refusal (sym q ∙ e) in (inl (sym s.0, rw (sym s.1) f), k))
  | no_room _ _ _ q k ↦ (let s = same_refusal (sym q ∙ e) in (inr (sym s.0, sym s.1), k))
  | has_room _ _ _ q _ ↦ absurd (no_imported (sym q ∙ e))
]

pub demand_one : DemandOne
demand_one = record {
  spelt_or_fails = spelt_or_fails;
  not_both = λ text s row p f. f.unspelt s p;
  one_sheet = λ text s t p q. one_spelt p q;
  one-row = λ text m n f g. one-row f g;
  import_answered = answered;
  import_refused = refusal;
}

-- ---- demand 2
differ : {p q : ℕ} → refused 32 p ≡ refused 33 q → ⊥
differ e = let z = (same_refusal e).0 in omega arith

text_refused : (text buffer left : List ℕ) (r : Result ℕ ImportError) (row : ℕ) → ImportPromise text buffer r left → read_imported r ≡ refused 32 row → Fails text row
text_refused text buffer left r row i e = elim (outcome i) [
  | bad_text n f q _ ↦ rw (same_refusal (sym e ∙ q)).1 f
  | no_room _ _ _ q _ ↦ absurd (differ (sym e ∙ q))
  | has_room _ _ _ q _ ↦ absurd (no_imported (sym q ∙ e))
]

tape_refused : (text buffer left : List ℕ) (r : Result ℕ ImportError) (p : ℕ) → ImportPromise text buffer r left → read_imported r ≡ refused 33 p → (p ≡ 0) × (s : Sheet) × Spells text s × (length buffer < length (tape_of s))
tape_refused text buffer left r p i e = elim (outcome i) [
  | bad_text _ _ q _ ↦ absurd (differ (sym q ∙ e))
  | no_room s t l q _ ↦ ((same_refusal (sym e ∙ q)).1, s, t, l)
  | has_room _ _ _ q _ ↦ absurd (no_imported (sym q ∙ e))
]

same_answer : {text buffer x y : List ℕ} {a b : importing.Imported} → Imports text buffer a x → Imports text buffer b y → a ≡ b
same_answer i j = ap (λ (z : importing.Imported × List ℕ). z.0) (one_outcome i j)

refuses_tape : (text buffer left : List ℕ) (r : Result ℕ ImportError) (p : ℕ) → ImportPromise text buffer r left → (p ≡ 0) × (s : Sheet) × Spells text s × (length buffer < length (tape_of s)) → read_imported r ≡ refused 33 p
unfolding filled
refuses_tape text buffer left r p i (z, s, t, l) = same_answer i (spelt t (unfilled 33 buffer (tape_of s) l)) ∙ ap (refused 33) (sym z)

accepted : (text buffer left : List ℕ) (r : Result ℕ ImportError) (s : Sheet) → ImportPromise text buffer r left → Spells text s → length (tape_of s) ≤ length buffer
    → (read_imported r ≡ imported (length (tape_of s))) × (take (length (tape_of s)) left ≡ tape_of s) × (drop (length (tape_of s)) left ≡ drop (length (tape_of s)) buffer)
accepted text buffer left r s i t h = elim (outcome i) [
  | bad_text _ f _ _ ↦ absurd (f.unspelt s t)
  | no_room u p l _ _ ↦ absurd (let e = ap (λ (x : Sheet). length (tape_of x)) (one_spelt t p) in omega arith)
  | has_room u p _ q m ↦
      (let e = one_spelt p t in
      let k = m ∙ ap (λ (x : Sheet). tape_of x ++ drop (length (tape_of x)) buffer) e in
      (q ∙ ap (λ (x : Sheet). imported (length (tape_of x))) e, ap (take (length (tape_of s))) k ∙ take-append_seam (tape_of s) _, ap (drop (length (tape_of s))) k ∙ drop-append_seam (tape_of s) _))
]

spelling : (text buffer left : List ℕ) (r : Result ℕ ImportError) (n : ℕ) → ImportPromise text buffer r left → read_imported r ≡ imported n → (s : Sheet) × Spells text s × (n ≡ length (tape_of s)) × (n ≤ length buffer)
spelling text buffer left r n i e = elim (outcome i) [
  | bad_text _ _ q _ ↦ absurd (no_imported (sym e ∙ q))
  | no_room _ _ _ q _ ↦ absurd (no_imported (sym e ∙ q))
  | has_room s p h q _ ↦ (let k = same_length (sym e ∙ q) in (s, p, k, omega arith))
]

pub demand_two : DemandTwo
demand_two = record {
  text_refused_iff = λ text buffer left r row i. (text_refused text buffer left r row i, λ f. same_answer i (fails f));
  tape_refused_iff = λ text buffer left r p i. (tape_refused text buffer left r p i, refuses_tape text buffer left r p i);
  import_accepted = accepted;
  import_spelt = spelling;
  rows-decode = λ text s p. tape_decodes s p.good;
  room_enough = λ text s p. let a = rows_bound p in let b = tape_length s in omega arith;
}

-- ---- demand 3
chained : (s : Sheet) (c d : Sitting) (m : List Answer) → Chain StepPromise c (records (tape_of s)) m d → (map read_answer m, read_sitting d) ≡ run step (read_sitting c) (records (tape_of s))
chained s c d m chain = sym (chain_runs step read_sitting read_answer StepPromise (λ s r a t p. sym p) chain)

pub demand_three : DemandThree
demand_three = record {
  played = λ text s c d m p chain. chained s c d m chain ∙ tape_played s p.good (read_sitting c);
  every_tape = λ text s c d m p start chain. keeper_theorem c d (records (tape_of s)) m start (tape_bytes s p.good) chain;
}

pub demands : Demands
demands = record { one = demand_one; two = demand_two; three = demand_three }
