-- The records of a tape: the first and those of the rest, how many there are, and that feeding a tape in parts is feeding it whole.
-- Assumes nothing.
use mathlib.Core.List.{List, [], ◌∷◌, ◌++◌, append_assoc, append-nil}
use mathlib.Core.Path.{◌≡◌, refl, sym, ap, ap₂, ◌∙◌}
use Prim.Native.Nat.{ℕ, zero, suc, ◌+◌, ◌%◌, ◌≤◌, ◌<◌}
use native.Mathlib.Nat.{not-suc-le-zero, add-zero}
use native.Mathlib.Omega.{arith}
use lib.ListN.{length, take, drop, length-append, length-drop}
use lib.Seq.{take-append-le, drop-append-le, take_at, drop_at}
use Rattle.lists.specs.Runs.{run, Each}
use Rattle.lists.proofs.Runs.{run_append, answers_length}
use Rattle.seats.specs.Calls.{Answer}
use Rattle.seats.specs.Records.{record_length}
use Rattle.seats.specs.Working.{record_count}
use Rattle.seats.specs.Tape.{records_upto, records, line, lines, fed, Parts, joined, fed_parts}

-- ---- one record after another
-- More records than a tape has bytes change nothing.
upto_enough : (n m : ℕ) (l : List ℕ) → length l ≤ n → length l ≤ m → records_upto n l ≡ records_upto m l
unfolding records_upto
upto_enough zero zero l h k = refl
upto_enough zero (suc m) [] h k = refl
upto_enough zero (suc m) (x ∷ l) h k = absurd (not-suc-le-zero h)
upto_enough (suc n) zero [] h k = refl
upto_enough (suc n) zero (x ∷ l) h k = absurd (not-suc-le-zero k)
upto_enough (suc n) (suc m) [] h k = refl
upto_enough (suc n) (suc m) (x ∷ l) h k =
    let e = length-drop record_length (x ∷ l) in
    ap (λ (r : List (List ℕ)). take record_length (x ∷ l) ∷ r) (upto_enough n m (drop record_length (x ∷ l)) (omega arith) (omega arith))

-- The first record, and those of the rest.
pub records_first : (l : List ℕ) → 0 < length l → records l ≡ take record_length l ∷ records (drop record_length l)
unfolding records records_upto
records_first [] h = absurd (not-suc-le-zero h)
records_first (x ∷ l) h =
    let e = length-drop record_length (x ∷ l) in
    ap (λ (r : List (List ℕ)). take record_length (x ∷ l) ∷ r)
    (upto_enough (length l) (length (drop record_length (x ∷ l))) (drop record_length (x ∷ l)) (omega arith) (omega arith))

-- A tape without bytes has no record.
pub records_none : (l : List ℕ) → length l ≡ 0 → records l ≡ []
unfolding records records_upto
records_none [] e = refl
records_none (x ∷ l) e = absurd (omega arith)

-- What holds of a tape where it holds of the tape behind its first record holds of every tape.
by_records : (P : List ℕ → Type 0) → ((l : List ℕ) → length l ≡ 0 → P l) → ((l : List ℕ) → 0 < length l → P (drop record_length l) → P l)
    → (n : ℕ) (l : List ℕ) → length l ≤ n → P l
by_records P none more zero [] h = none [] refl
by_records P none more (suc n) [] h = none [] refl
by_records P none more zero (x ∷ l) h = absurd (not-suc-le-zero h)
by_records P none more (suc n) (x ∷ l) h =
    let e = length-drop record_length (x ∷ l) in
    more (x ∷ l) (omega arith) (by_records P none more n (drop record_length (x ∷ l)) (omega arith))

-- How many records a tape has.
pub count-records : (l : List ℕ) → length (records l) ≡ record_count (length l)
count-records l =
    by_records (λ (t : List ℕ). length (records t) ≡ record_count (length t))
    (λ t e. ap length (records_none t e) ∙ omega arith)
    (λ t h ih. let e = length-drop record_length t in ap length (records_first t h) ∙ ap suc ih ∙ omega arith)
    (length l) l (omega arith)

-- A tape whose front ends where a record ends.
pub records-append : (p q : List ℕ) → length p % record_length ≡ 0 → records (p ++ q) ≡ records p ++ records q
records-append p q =
    by_records (λ (t : List ℕ). length t % record_length ≡ 0 → records (t ++ q) ≡ records t ++ records q)
    none more (length p) p (omega arith)
  where
    none : (t : List ℕ) → length t ≡ 0 → length t % record_length ≡ 0 → records (t ++ q) ≡ records t ++ records q
    none [] e m = ap (λ (r : List (List ℕ)). r ++ records q) (sym (records_none [] refl))
    none (x ∷ t) e m = absurd (omega arith)

    more : (t : List ℕ) → 0 < length t → (length (drop record_length t) % record_length ≡ 0 → records (drop record_length t ++ q) ≡ records (drop record_length t) ++ records q)
        → length t % record_length ≡ 0 → records (t ++ q) ≡ records t ++ records q
    more t h ih m =
        let e = length-drop record_length t in
        let w : record_length ≤ length t = omega arith in
        let a = length-append t q in
        records_first (t ++ q) (omega arith)
        ∙ ap₂ (λ (r u : List ℕ). r ∷ records u) (take-append-le record_length t q w) (drop-append-le record_length t q w)
        ∙ ap (λ (r : List (List ℕ)). take record_length t ∷ r) (ih (omega arith))
        ∙ sym (ap (λ (r : List (List ℕ)). r ++ records q) (records_first t h))

-- The records of a tape that whole records make are these.
pub joined-records : (l : List (List ℕ)) → Each (λ r. length r ≡ record_length) l → records (joined l) ≡ l
unfolding joined Each
joined-records [] h = records_none [] refl
joined-records (r ∷ l) h =
    let e = h.0 in
    records_first (r ++ joined l) (omega (arith, length-append r (joined l)))
    ∙ ap₂ (λ (x t : List ℕ). x ∷ records t) (take_at r (joined l) record_length e) (drop_at r (joined l) record_length e)
    ∙ ap (λ (t : List (List ℕ)). r ∷ t) (joined-records l h.1)

-- ---- a tape in parts
-- The lines of answers behind others go on counting.
pub lines-append : (i : ℕ) (a b : List Answer) → lines i (a ++ b) ≡ lines i a ++ lines (i + length a) b
unfolding lines
lines-append i [] b = ap (λ (k : ℕ). lines k b) (sym (add-zero i))
lines-append i (x ∷ a) b =
    let e : suc i + length a ≡ i + suc (length a) = omega arith in
    ap (λ (t : List ℕ). line i x ++ t) (lines-append (suc i) a b ∙ ap (λ (k : ℕ). lines (suc i) a ++ lines k b) e)
    ∙ sym (append_assoc (line i x) (lines (suc i) a) (lines (i + suc (length a)) b))

module _ {S : Type 0} (step : S → List ℕ → Answer × S) where
  -- A tape without bytes comes to nothing.
  pub fed_none : (s : S) (count : ℕ) → fed step s count [] ≡ ([], (count, s))
  unfolding fed records records_upto run lines
  fed_none s count = ap (λ (n : ℕ). ([], (n, s))) (add-zero count)

  -- A tape whose front ends where a record ends: the front, and the rest after it.
  pub fed_append : (s : S) (count : ℕ) (p q : List ℕ) → length p % record_length ≡ 0
      → let (text, (n, t)) = fed step s count p in fed step s count (p ++ q) ≡ (text ++ (fed step t n q).0, (fed step t n q).1)
  unfolding fed
  fed_append s count p q h =
      let l = records p in
      let m = records q in
      let (a, t) = run step s l in
      let (b, u) = run step t m in
      let e : suc count + length a ≡ suc (count + length l) = omega (arith, answers_length step s l) in
      let f : count + length (l ++ m) ≡ count + length l + length m = omega (arith, length-append l m) in
      ap (λ (r : List (List ℕ)). (lines (suc count) (run step s r).0, (count + length r, (run step s r).1))) (records-append p q h)
      ∙ ap (λ (z : List Answer × S). (lines (suc count) z.0, (count + length (l ++ m), z.1))) (run_append step s l m)
      ∙ ap₂ (λ (t : List ℕ) (n : ℕ). (t, (n, u)))
      (lines-append (suc count) a b ∙ ap (λ (k : ℕ). lines (suc count) a ++ lines k b) e)
      f

  -- Feeding a tape in parts is feeding it whole.
  pub parts_whole : (s : S) (count : ℕ) (parts : List (List ℕ)) → Parts parts → fed_parts step s count parts ≡ fed step s count (joined parts)
  unfolding fed_parts joined Parts
  parts_whole s count [] h = sym (fed_none s count)
  parts_whole s count (p ∷ []) h = ap (λ (t : List ℕ). (t, (fed step s count p).1)) (append-nil (fed step s count p).0) ∙ ap (fed step s count) (sym (append-nil p))
  parts_whole s count (p ∷ q ∷ l) h =
      let (text, (n, t)) = fed step s count p in
      ap (λ (z : List ℕ × (ℕ × S)). (text ++ z.0, z.1)) (parts_whole t n (q ∷ l) h.1) ∙ sym (fed_append s count p (q ++ joined l) h.0)
