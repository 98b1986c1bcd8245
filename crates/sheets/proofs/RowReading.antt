-- The rows that are read are the rows of a sheet, in both directions; and so are the ends of lines.
-- Assumes nothing.
use mathlib.Core.Bool.{Bool, true, false, cond, ◌&&◌}
use mathlib.Core.List.{List, [], ◌∷◌, ◌++◌, append_assoc, map}
use mathlib.Core.Logic.{◌⊎◌, inl, inr}
use mathlib.Core.Path.{◌≡◌, refl, sym, ap, ◌∙◌, subst}
use Prim.Native.Nat.{ℕ, zero, suc, ◌*◌, ◌≤◌, ◌<◌}
use native.Mathlib.Omega.{arith}
use lib.ListN.{length, drop, length-append}
use lib.Dec.{eqb}
use borrow.Author.Tests.{ne_eqb, eqb-true}
use Rattle.graph.specs.Graph.{role_count}
use Rattle.seats.specs.Tape.{digits, line_feed}
use Rattle.sheets.specs.Rfc.{comma, carriage_return, Field, Record, line_end}
use Rattle.sheets.specs.Sheets.{Row, GoodRow, bit, row_fields}
use Rattle.sheets.specs.Parsing.{got, bad, and_then, head, value, binary, field, further, ended, fronted, marks, at_end, row}
use Rattle.sheets.proofs.ReadResults.{passed, by_test, in_steps, in_front, no_length, and_both, begins_with, begins_with_two}
use Rattle.sheets.proofs.Productions.{Fields, no_field, one_field, joined_record, parted_record}
use Rattle.sheets.proofs.DigitFields.{digits_are, digits-some, either_field}
use Rattle.sheets.proofs.NumberReading.{no_digit_comma, no_digit_end, no_digit_return, binary_sound, binary_complete, quotable_sound, quotable_complete, field_sound, field_complete}

-- ---- the end of a line
-- The end of a line, with the text behind it.
pub data Ending : List ℕ → List ℕ → Type 0 where
  of_text : Ending [] []
  of_line : {t : List ℕ} → Ending (line_end t) t

pub ended_sound : (l : List ℕ) {z : Unit {0}} {t : List ℕ} → ended l ≡ got z t → Ending l t
unfolding ended
ended_sound l {z} {t} e = by (by_test (eqb (length l) 0) e)
  where
    by : ((eqb (length l) 0 ≡ true) × (got tt l ≡ got z t)) ⊎ ((eqb (length l) 0 ≡ false) × (cond (eqb (head l) carriage_return && eqb (head (drop 1 l)) line_feed) (got tt (drop 2 l)) bad ≡ got z t)) → Ending l t
    by (inl g) =
        let a = no_length l (eqb-true (length l) 0 g.0) in
        let b : l ≡ t = let f = g.1 in cc in
        rw (sym b, a) of_text
    by (inr g) =
        let p = passed (eqb (head l) carriage_return && eqb (head (drop 1 l)) line_feed) g.1 in
        let q = and_both (eqb (head l) carriage_return) (eqb (head (drop 1 l)) line_feed) p.0 in
        let f : drop 2 l ≡ t = let h = p.1 in cc in
        let c = begins_with_two l (eqb-true (head l) carriage_return q.0) (omega arith) (eqb-true (head (drop 1 l)) line_feed q.1) (omega arith) in
        rw (c ∙ ap line_end f) of_line

pub ended_complete : {l t : List ℕ} → Ending l t → ended l ≡ got tt t
unfolding ended
ended_complete of_text = refl
ended_complete {t = t} of_line = rw (ne_eqb (suc (suc (length t))) 0 (λ z. omega arith))

-- No digit and no comma stands there.
pub ending_digit : {l t : List ℕ} → Ending l t → value (head l) ≡ 10
ending_digit of_text = no_digit_end
ending_digit of_line = no_digit_return

pub ending_comma : {l t : List ℕ} → Ending l t → head l ≡ comma → ⊥
ending_comma of_text e = omega arith
ending_comma of_line e = omega arith

pub ending_length : {l t : List ℕ} → Ending l t → length t ≤ length l
ending_length of_text = omega arith
ending_length of_line = omega arith

-- ---- fields behind commas
-- Behind a field, or where none follows, no digit stands.
pub fields-digit : {l : List (List ℕ)} {w : List ℕ} (t : List ℕ) → Fields l w → value (head t) ≡ 10 → value (head (w ++ t)) ≡ 10
fields-digit t no_field e = e
fields-digit t (one_field f g) e = no_digit_comma

-- A number's field has a byte at least.
pub number_length : (n : ℕ) {w : List ℕ} → Field (digits n) w → 0 < length w
number_length n {w} f = elim (either_field (digits_are n) f) [
  | inl p ↦ (let a = digits-some n in let b = ap length p in omega arith)
  | inr p ↦ (let b = ap length p in omega arith)
]

-- ---- marks
bit_of : (n : ℕ) → n < 2 → bit (eqb n 1) ≡ n
bit_of zero h = refl
bit_of (suc zero) h = refl
bit_of (suc (suc n)) h = absurd (omega arith)

eqb-bit : (b : Bool) → eqb (bit b) 1 ≡ b
eqb-bit true = refl
eqb-bit false = refl

bit-lt : (b : Bool) → bit b < 2
bit-lt true = omega arith
bit-lt false = omega arith

-- The contents of the fields of marks.
abbrev mark_fields : List Bool → List (List ℕ)
mark_fields m = map digits (map bit m)

further_sound : (l : List ℕ) {n : ℕ} {t : List ℕ} → further l ≡ got n t → (w : List ℕ) × Field (digits n) w × (n < 2) × (l ≡ comma ∷ (w ++ t))
unfolding further
further_sound l e =
    let p = passed (eqb (head l) comma) e in
    let (w, f, h, s) = quotable_sound (λ (n : ℕ). n < 2) binary binary_sound (drop 1 l) p.1 in
    (w, f, h, begins_with l (eqb-true (head l) comma p.0) (omega arith) ∙ ap (λ (m : List ℕ). comma ∷ m) s)

further_complete : (b : Bool) {w : List ℕ} (t : List ℕ) → Field (digits (bit b)) w → value (head t) ≡ 10 → further (comma ∷ (w ++ t)) ≡ got (bit b) t
unfolding further
further_complete b t f e = quotable_complete binary (bit b) (λ u d. binary_complete (bit b) u (bit-lt b)) t f e

marks_sound : (k : ℕ) (l : List ℕ) {m : List Bool} {t : List ℕ} → marks k l ≡ got m t → (w : List ℕ) × Fields (mark_fields m) w × (length m ≡ k) × (l ≡ w ++ t)
unfolding marks
marks_sound zero l {m} {t} e =
    let a : [] ≡ m = cc in
    let b : l ≡ t = cc in
    ([], rw (sym a) no_field, ap length (sym a), b)
marks_sound (suc k) l {m} {t} e =
    let (n, u, p, q) = in_steps (further l) _ e in
    let (w, f, b, s) = further_sound l p in
    let (rest, h, i) = in_front (eqb n 1) (marks k u) q in
    let (v, j, o, r) = marks_sound k u h in
    let g = subst (λ (y : ℕ). Field (digits y) w) (sym (bit_of n b)) f in (
      comma ∷ (w ++ v),
      subst (λ (x : List Bool). Fields (mark_fields x) (comma ∷ (w ++ v))) (sym i) (one_field g j),
      ap length i ∙ ap suc o,
      s ∙ ap (λ (x : List ℕ). comma ∷ x) (ap (λ (x : List ℕ). w ++ x) r ∙ sym (append_assoc w v t)),
    )

marks_complete : (m : List Bool) {w : List ℕ} (t : List ℕ) → Fields (mark_fields m) w → value (head t) ≡ 10 → marks (length m) (w ++ t) ≡ got m t
unfolding marks and_then fronted
marks_complete [] t no_field e = refl
marks_complete (b ∷ m) t (one_field {w = w} {t = v} f g) e =
    rw (append_assoc w v t, further_complete b (v ++ t) f (fields-digit t g e), eqb-bit b, marks_complete m t g e)

-- ---- rows
-- A row that was read: its text, and the end of its line.
pub record RowRead (k : ℕ) (l : List ℕ) (r : Row) (t : List ℕ) : Type 0 where
  pub word : List ℕ
  pub end : List ℕ
  pub good : GoodRow k r
  pub is_record : Record (row_fields r) word
  pub split : l ≡ word ++ end
  pub ending : Ending end t

pub row_sound : (k : ℕ) (l : List ℕ) {r : Row} {t : List ℕ} → row k l ≡ got r t → RowRead k l r t
unfolding row at_end
row_sound k l {r} {t} e =
    let (n, u, p, q) = in_steps (field role_count l) _ e in
    let (m, v, g, h) = in_steps (marks k u) _ q in
    let (z, x, i, j) = in_steps (ended v) _ h in
    let (w, f, low, s) = field_sound role_count l p in
    let (y, d, o, a) = marks_sound k u g in
    let b : record { role = n; marks = m } ≡ r = cc in
    let c : x ≡ t = cc in
    record {
      word = w ++ y;
      end = v;
      good = subst (GoodRow k) b (record { role_below = low; as_many = o });
      is_record = subst (λ (x : Row). Record (row_fields x) (w ++ y)) b (joined_record f d);
      split = s ∙ ap (λ (b : List ℕ). w ++ b) a ∙ sym (append_assoc w y v);
      ending = subst (λ (b : List ℕ). Ending v b) c (ended_sound v i);
    }

pub row_complete : {k : ℕ} (r : Row) {w l t : List ℕ} → GoodRow k r → Record (row_fields r) w → Ending l t → row k (w ++ l) ≡ got r t
unfolding row and_then at_end
row_complete {k} r {w} {l} {t} g h e =
    let p = parted_record (digits r.role) (mark_fields r.marks) h in
    let d = ending_digit e in
    rw (p.split, append_assoc p.first p.behind l, field_complete role_count (p.behind ++ l) g.role_below p.field (fields-digit l p.fields d), sym g.as_many, marks_complete r.marks l p.fields d, ended_complete e)

-- A number's field has a byte at least, and one behind a comma two.
fields-length : (l : List ℕ) {w : List ℕ} → Fields (map digits l) w → 2 * length l ≤ length w
fields-length [] no_field = omega arith
fields-length (n ∷ l) (one_field {w = w} {t = t} f g) = let a = number_length n f in let b = fields-length l g in omega (arith, length-append w t)

pub record_length : (n : ℕ) (l : List ℕ) {w : List ℕ} → Record (digits n ∷ map digits l) w → suc (2 * length l) ≤ length w
record_length n l h =
    let p = parted_record (digits n) (map digits l) h in
    let a = number_length n p.field in
    let b = fields-length l p.fields in
    let c = ap length p.split in
    omega (arith, length-append p.first p.behind)

pub row_shorter : (k : ℕ) (l : List ℕ) {r : Row} {t : List ℕ} → row k l ≡ got r t → length t < length l
row_shorter k l {r} e =
    let f = row_sound k l e in
    let a = record_length r.role (map bit r.marks) f.is_record in
    let b = length-append f.word f.end in
    let c = ap length f.split in
    let d = ending_length f.ending in
    omega arith
