-- The laws of the places of a tape: the part of a tape that is the record at a place, the records from a place on, and that reading on from 0 gives the records of the tape.
-- Assumes nothing.
use mathlib.Core.Path.{◌≡◌, refl, sym, ap, ◌∙◌}
use mathlib.Core.Bool.{Bool, true, false, cond}
use mathlib.Core.List.{List, [], ◌∷◌, ◌++◌}
use Prim.Native.Nat.{ℕ, zero, suc, ◌+◌, ◌-◌, ◌≤◌, ◌<◌, min}
use native.Mathlib.Numerals.{add-one}
use native.Mathlib.Omega.{arith}
use lib.Dec.{leb}
use lib.ListN.{length, take, drop, length-drop, drop_of_length-le}
use lib.Seq.{take_all, take-nil, drop-drop}
use borrow.Author.Tests.{leb-true, leb-false}
use Rattle.lists.specs.Runs.{run}
use Rattle.seats.specs.Calls.{Answer}
use Rattle.seats.specs.Records.{record_length}
use Rattle.seats.specs.Tape.{records, line, lines, fed}
use Rattle.seats.proofs.TapeRecords.{records_first, records_none}
use Rattle.seats.specs.Places.{is_end, record_at, record_end, records_from}

-- What is taken ends at the list's end.
take-min : (n : ℕ) (l : List ℕ) → take (min n (length l)) l ≡ take n l
take-min n l = go (leb n (length l)) refl
  where
    go : (b : Bool) → leb n (length l) ≡ b → take (min n (length l)) l ≡ take n l
    go true e =
        let h : n ≤ length l = leb-true n (length l) e in
        let s : min n (length l) ≡ n = omega arith in
        ap (λ (m : ℕ). take m l) s
    go false e =
        let h : length l < n = leb-false n (length l) e in
        take_all (min n (length l)) l (omega arith) ∙ sym (take_all n l (omega arith))

-- What is dropped ends at the list's end.
drop-min : (n : ℕ) (l : List ℕ) → drop (min n (length l)) l ≡ drop n l
drop-min n l = go (leb n (length l)) refl
  where
    go : (b : Bool) → leb n (length l) ≡ b → drop (min n (length l)) l ≡ drop n l
    go true e =
        let h : n ≤ length l = leb-true n (length l) e in
        let s : min n (length l) ≡ n = omega arith in
        ap (λ (m : ℕ). drop m l) s
    go false e =
        let h : length l < n = leb-false n (length l) e in
        drop_of_length-le l {i = min n (length l)} (omega arith) ∙ sym (drop_of_length-le l {i = n} (omega arith))

-- The part of a tape from a place to where the record there ends is that record.
pub part_is : (tape : List ℕ) (at e : ℕ) → e ≡ record_end tape at → at ≤ e → take (e - at) (drop at tape) ≡ record_at tape at
part_is tape at e p h =
    let w : e - at ≡ min record_length (length (drop at tape)) = rw length-drop (omega arith) in
    ap (λ (n : ℕ). take n (drop at tape)) w ∙ take-min record_length (drop at tape)

-- Beyond the end the record is empty.
pub part_none : (tape : List ℕ) (at e : ℕ) → e ≡ record_end tape at → e < at → take (e - e) (drop e tape) ≡ record_at tape at
part_none tape at e p h =
    let z : e - e ≡ 0 = omega arith in
    let out : length tape ≤ at = omega arith in
    ap (λ (n : ℕ). take n (drop e tape)) z ∙ sym (ap (take record_length) (drop_of_length-le tape {i = at} out) ∙ take-nil record_length)

-- No record is left at the end.
pub records-ended : (tape : List ℕ) (at : ℕ) → length tape ≤ at → records (drop at tape) ≡ []
records-ended tape at h = records_none (drop at tape) (rw length-drop (omega arith))

-- Before the end the record there is left, and those from where it ends.
module _ (tape : List ℕ) (at : ℕ) (h : at < length tape) where
  pub records_more : records (drop at tape) ≡ record_at tape at ∷ records (drop (record_end tape at) tape)
  records_more =
      records_first (drop at tape) (rw length-drop (omega arith))
      ∙ ap (λ (l : List ℕ). record_at tape at ∷ records l) (drop-drop record_length at tape ∙ sym (drop-min (at + record_length) tape))

  -- What is left comes to the line of the record there, and what comes after it.
  pub fed_more : {S : Type 0} (step : S → List ℕ → Answer × S) (s : S) (index : ℕ)
      → let (a, t) = step s (record_at tape at) in
      fed step s index (drop at tape) ≡ (line (index + 1) a ++ (fed step t (index + 1) (drop (record_end tape at) tape)).0, (fed step t (index + 1) (drop (record_end tape at) tape)).1)
  unfolding fed run lines
  fed_more step s index =
      let (a, t) = step s (record_at tape at) in
      let l = records (drop (record_end tape at) tape) in
      let (b, u) = run step t l in
      let n : index + suc (length l) ≡ suc index + length l = omega arith in
      ap (λ (l : List (List ℕ)). (lines (suc index) (run step s l).0, (index + length l, (run step s l).1))) records_more
      ∙ ap (λ (n : ℕ). (line (suc index) a ++ lines (suc (suc index)) b, (n, u))) n
      ∙ ap (λ (i : ℕ). (line i a ++ lines (suc i) b, (i + length l, u))) (sym (add-one index))

-- Reading on from a place gives the records that are left.
pub reads_left : (n : ℕ) (tape : List ℕ) (at : ℕ) → length tape - at ≤ n → records_from n tape at ≡ records (drop at tape)
unfolding records_from
reads_left zero tape at h = sym (records-ended tape at (omega arith))
reads_left (suc n) tape at h = go (is_end tape at) refl (λ k. reads_left n tape (record_end tape at) (omega arith))
  where
    go : (b : Bool) → is_end tape at ≡ b → (at < length tape → records_from n tape (record_end tape at) ≡ records (drop (record_end tape at) tape))
        → cond b [] (record_at tape at ∷ records_from n tape (record_end tape at)) ≡ records (drop at tape)
    go true e later = sym (records-ended tape at (leb-true (length tape) at e))
    go false e later =
        let k = leb-false (length tape) at e in
        ap (λ (l : List (List ℕ)). record_at tape at ∷ l) (later k) ∙ sym (records_more tape at k)

-- Reading on from 0 gives the records of the tape.
pub reads_records : (tape : List ℕ) → records_from (length tape) tape 0 ≡ records tape
reads_records tape = reads_left (length tape) tape 0 (omega arith)
