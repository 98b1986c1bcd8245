-- The two kinds of lines of a tape: each is a text with two numbers behind it; and what is put of the line of a record.
-- Assumes nothing.
use mathlib.Core.Bool.{Bool, cond}
use mathlib.Core.List.{List, [], ◌∷◌, ◌++◌, append_assoc}
use mathlib.Core.Path.{◌≡◌, refl, sym, ap, ap₂, ◌∙◌, subst}
use Prim.Native.Nat.{ℕ, ◌+◌, ◌^◌, ◌<◌, ◌≤◌}
use native.Mathlib.Omega.{arith}
use lib.ListN.{length, length-append}
use lib.Seq.{sets}
use borrow.Author.Tests.{le-leb, lt-leb}
use Rattle.seats.specs.Bytes.{written, too_short, fill}
use Rattle.seats.specs.Calls.{Answer}
use Rattle.seats.specs.Tape.{digits, answer_number, answer_place, space, line_feed, line, end_line}
use Rattle.seats.specs.Working.{tail_of, longest_line, line_length, LinePut}
use Rattle.seats.specs.Written.{Written}
use Rattle.seats.proofs.Digits.{width_word, width_byte}
use Rattle.seats.proofs.Written.{filled, unfilled}

joined : (w : List ℕ) (x y : ℕ) → w ++ (space ∷ digits x) ++ (space ∷ digits y) ++ (line_feed ∷ []) ≡ w ++ tail_of x y
joined w x y =
    append_assoc (w ++ (space ∷ digits x)) (space ∷ digits y) (line_feed ∷ [])
    ∙ append_assoc w (space ∷ digits x) ((space ∷ digits y) ++ (line_feed ∷ []))

pub line-joined : (i : ℕ) (a : Answer) {x y : ℕ} → x ≡ answer_number a → y ≡ answer_place a → line i a ≡ digits i ++ tail_of x y
unfolding line
line-joined i a p q =
    joined (digits i) (answer_number a) (answer_place a) ∙ ap₂ (λ (x y : ℕ). digits i ++ tail_of x y) (sym p) (sym q)

pub end-joined : (count edges : ℕ) → end_line count edges ≡ (101 ∷ 110 ∷ 100 ∷ []) ++ tail_of count edges
unfolding end_line
end-joined = joined (101 ∷ 110 ∷ 100 ∷ [])

pub length-tail : (x y : ℕ) → length (tail_of x y) ≡ length (digits x) + length (digits y) + 3
length-tail x y =
    let b = length-append (digits x) (space ∷ (digits y ++ (line_feed ∷ []))) in
    let d = length-append (digits y) (line_feed ∷ []) in
    omega arith

module _ (l t w : List ℕ) (x y : ℕ) (e : t ≡ w ++ tail_of x y) where
  -- How long a line is.
  pub length_joined : length t ≡ length w + length (digits x) + length (digits y) + 3
  length_joined = ap length e ∙ omega (arith, length-append w (tail_of x y), length-tail x y)

  -- A line in a buffer that has room for it.
  pub line_filled : {m : List ℕ} {j : ℕ} → length w + length (digits x) + length (digits y) + 3 ≤ length l → Written l 0 (w ++ tail_of x y) m j → (written j, m) ≡ fill 9 t l
  line_filled {m} {j} h p =
      filled 9 l t (omega (arith, length_joined)) (subst (λ (v : List ℕ). Written l 0 v m j) (sym e) p)

  -- A line in a buffer that is too short.
  pub line_unfilled : length l < length w + length (digits x) + length (digits y) + 3 → (too_short 9 0, l) ≡ fill 9 t l
  line_unfilled h = unfilled 9 l t (omega (arith, length_joined))

-- ---- the line of a record
-- The line of an index and two bytes is at most the longest line.
pub line_bound : {i x y : ℕ} → i < 2 ^ 64 → x < 256 → y < 256 → line_length i x y ≤ longest_line
line_bound {i} {x} {y} h p q =
    let a = width_word i h in
    let b = width_byte x p in
    let d = width_byte y q in
    omega arith

-- A line is not empty.
pub line_some : (i : ℕ) (a : Answer) → 3 ≤ length (line i a)
line_some i a = omega (arith, length_joined [] (line i a) (digits i) (answer_number a) (answer_place a) (line-joined i a {x = answer_number a} {y = answer_place a} refl refl))

-- The line of the record i, whose answer a has the number x and the place y.
module _ (l : List ℕ) (i : ℕ) (a : Answer) {x y : ℕ} (xa : x ≡ answer_number a) (ya : y ≡ answer_place a) (fits : i < 2 ^ 64) (xb : x < 256) (yb : y < 256) where
  -- How long it is.
  long : length (line i a) ≡ line_length i x y
  long = length_joined [] (line i a) (digits i) x y (line-joined i a xa ya)

  -- It has no room.
  pub line_left_out : length l < line_length i x y → LinePut l i a l (line_length i x y)
  line_left_out h = record {
    long = sym long;
    bounded = line_bound fits xb yb;
    put = sym (ap (λ (t : Bool). cond t (sets l 0 (line i a)) l) (lt-leb (line_length i x y) (length l) h));
  }

  -- It is written.
  pub line_put : {m : List ℕ} {j : ℕ} → line_length i x y ≤ length l → Written l 0 (digits i ++ tail_of x y) m j → LinePut l i a m j
  line_put {m} {j} h w =
      let p : Written l 0 (line i a) m j = subst (λ (v : List ℕ). Written l 0 v m j) (sym (line-joined i a xa ya)) w in
      let e = p.place in
      let n = long in
      record {
        long = omega arith;
        bounded = let k = line_bound fits xb yb in omega arith;
        put = p.list ∙ sym (ap (λ (t : Bool). cond t (sets l 0 (line i a)) l) (le-leb j (length l) (omega arith)));
      }
