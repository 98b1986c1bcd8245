-- Numbers written in a list piece by piece: one piece behind another, what is left to write, and what fills a buffer's front.
-- Assumes nothing.
use mathlib.Core.Bool.{Bool, true, false, cond}
use mathlib.Core.List.{List, [], ◌∷◌, ◌++◌, append_assoc, append-nil}
use mathlib.Core.Path.{◌≡◌, refl, sym, ap, ap₂, ◌∙◌}
use Prim.Native.Nat.{ℕ, suc, ◌+◌, ◌-◌, ◌<◌, ◌≤◌}
use native.Mathlib.Nat.{add-zero, zero-add}
use native.Mathlib.Omega.{arith}
use lib.Dec.{leb}
use lib.ListN.{length, set, take, drop, length-append, length-drop, drop_of_length-le}
use lib.Seq.{sets, length-sets, sets-eq, take_all, take_at, drop-drop}
use borrow.Rule.Slice.PartMut.{put_mid}
use borrow.Author.Tests.{le-leb, lt-leb}
use Rattle.seats.specs.Bytes.{Filled, written, too_short, fill}
use Rattle.seats.specs.Written.{Written}

sets_append : (l : List ℕ) (i : ℕ) (v w : List ℕ) → sets l i (v ++ w) ≡ sets (sets l i v) (i + length v) w
sets_append l i [] w = ap (λ (k : ℕ). sets l k w) (sym (add-zero i))
sets_append l i (a ∷ v) w =
    let e : suc i + length v ≡ i + suc (length v) = omega arith in
    sets_append (set l i a) (suc i) v w ∙ ap (λ (k : ℕ). sets (sets (set l i a) (suc i) v) k w) e

-- One piece, and another behind it.
pub and_then : {l m n v w : List ℕ} {i j k : ℕ} → Written l i v m j → Written m j w n k → Written l i (v ++ w) n k
and_then {l} {m} {n} {v} {w} {i} {j} p q = record {
  list = q.list ∙ ap₂ (λ (x : List ℕ) (a : ℕ). sets x a w) p.list p.place ∙ sym (sets_append l i v w);
  place = let a = p.place in let b = q.place in omega (arith, length-append v w);
}

-- One number.
pub one_written : (l : List ℕ) (i x : ℕ) → Written l i (x ∷ []) (set l i x) (i + 1)
one_written l i x = record { list = refl; place = refl }

-- ---- written into a part of a list
-- A piece is put over the part of the list that is as long.
pub piece_put : (l w : List ℕ) (i k : ℕ) → k ≡ length w → i + k ≤ length l → Written l i w (put_mid i k l w) (i + k)
piece_put l w i k e h = record {
  list =
      ap (λ (r : List ℕ). take i l ++ (w ++ r)) (drop-drop k i l ∙ ap (λ (n : ℕ). drop (i + n) l) e)
      ∙ sym (append_assoc (take i l) w (drop (i + length w) l)) ∙ sym (sets-eq w l i (omega arith));
  place = ap (λ (n : ℕ). i + n) e;
}

-- A piece is put over the front of the list.
pub front_written : (l w : List ℕ) {k : ℕ} → k ≡ length w → k ≤ length l → Written l 0 w (put_mid 0 k l w) k
front_written l w {k} e h = rw (zero-add k) at (piece_put l w 0 k e (omega arith))

-- What is put at the front of the part of a list from place i on is put at that place.
pub put_behind : (l w : List ℕ) (k : ℕ) {m : List ℕ} → k ≤ length l → m ≡ sets (drop k l) 0 w → length w ≤ length (drop k l) → put_mid k (length l - k) l m ≡ sets l k w
put_behind l w k {m} h e f =
    let d = drop k l in
    let a = length-drop k l in
    let front : sets d 0 w ≡ w ++ drop (length w) d = sets-eq w d 0 (omega arith) ∙ ap (λ (n : ℕ). w ++ drop n d) (zero-add (length w)) in
    let none : drop (length l - k) d ≡ [] = drop_of_length-le d (omega arith) in
    ap₂ (λ (x y : List ℕ). take k l ++ (x ++ y)) (e ∙ front) none
    ∙ ap (λ (x : List ℕ). take k l ++ x) (append-nil (w ++ drop (length w) d) ∙ ap (λ (x : List ℕ). w ++ x) (drop-drop (length w) k l))
    ∙ sym (append_assoc (take k l) w (drop (k + length w) l)) ∙ sym (sets-eq w l k (omega arith))

-- A piece written at the front of what is behind place i stands at that place of the whole.
pub behind : {l w m : List ℕ} {i n : ℕ} → i + length w ≤ length l → Written (take (length l - i) (drop i l)) 0 w m n → Written l i w (put_mid i (length l - i) l m) (i + n)
behind {l} {w} {i = i} h p =
    let d = length-drop i l in
    let whole : take (length l - i) (drop i l) ≡ drop i l = take_all (length l - i) (drop i l) (omega arith) in
    record {
      list = put_behind l w i (omega arith) (p.list ∙ ap (λ (x : List ℕ). sets x 0 w) whole) (omega arith);
      place = ap (λ (k : ℕ). i + k) (p.place ∙ zero-add (length w));
    }

-- The place behind a piece, by the piece's length.
pub placed : {l w m : List ℕ} {i j : ℕ} → Written l i w m j → Written l i w m (i + length w)
placed p = record { list = p.list; place = refl }

-- What is written at the front of a list that has room.
pub written_front : {l w m : List ℕ} {j : ℕ} → Written l 0 w m j → length w ≤ length l → m ≡ w ++ drop (length w) l
written_front {l} {w} p h = p.list ∙ sets-eq w l 0 (omega arith) ∙ ap (λ (k : ℕ). w ++ drop k l) (zero-add (length w))

-- ---- what is left to write
-- The rest, written at place i of the list, gives what the whole, written at `start` of the list as it was, gives.
pub record Unwritten (old : List ℕ) (start : ℕ) (whole list : List ℕ) (i : ℕ) (rest : List ℕ) : Type 0 where
  pub same : sets list i rest ≡ sets old start whole
  pub place : i + length rest ≡ start + length whole

-- All of it is left.
pub unwritten_all : (old : List ℕ) (start : ℕ) (whole : List ℕ) → Unwritten old start whole old start whole
unwritten_all old start whole = record { same = refl; place = refl }

-- The list stays as long as it was.
pub unwritten_length : {old whole list rest : List ℕ} {start i : ℕ} → Unwritten old start whole list i rest → length list ≡ length old
unwritten_length {old} {whole} {list} {rest} {start} {i} u = sym (length-sets list i rest) ∙ ap length u.same ∙ length-sets old start whole

-- Where there was room for the whole, there is room for the first piece of the rest.
pub piece_room : {old whole list : List ℕ} {start i : ℕ} (piece rest : List ℕ) → Unwritten old start whole list i (piece ++ rest) → start + length whole ≤ length old → i + length piece ≤ length list
piece_room piece rest u h = let a = u.place in let b = unwritten_length u in omega (arith, length-append piece rest)

-- One piece more is written.
pub unwritten_next : {old whole list after : List ℕ} {start i next : ℕ} (piece rest : List ℕ) → Unwritten old start whole list i (piece ++ rest) → Written list i piece after next → Unwritten old start whole after next rest
unwritten_next {list = list} {i = i} piece rest u p = record {
  same = ap₂ (λ (x : List ℕ) (k : ℕ). sets x k rest) p.list p.place ∙ sym (sets_append list i piece rest) ∙ u.same;
  place = let a = u.place in let b = p.place in omega (arith, length-append piece rest);
}

-- One piece more is written at the front of what is behind.
pub unwritten_behind : {old whole list part : List ℕ} {i n : ℕ} (piece rest : List ℕ) → Unwritten old 0 whole list i (piece ++ rest) → length whole ≤ length old
    → Written (take (length list - i) (drop i list)) 0 piece part n → Unwritten old 0 whole (put_mid i (length list - i) list part) (i + n) rest
unwritten_behind piece rest u h p = unwritten_next piece rest u (behind (piece_room piece rest u (omega arith)) p)

-- Nothing is left.
pub unwritten_none : {old whole list : List ℕ} {start i : ℕ} → Unwritten old start whole list i [] → Written old start whole list i
unwritten_none {i = i} u = record { list = u.same; place = sym (add-zero i) ∙ u.place }

-- The last piece is written.
pub unwritten_last : {old whole list part : List ℕ} {i n : ℕ} (piece : List ℕ) → Unwritten old 0 whole list i piece → length whole ≤ length old
    → Written (take (length list - i) (drop i list)) 0 piece part n → Written old 0 whole (put_mid i (length list - i) list part) (i + n)
unwritten_last piece u h p = unwritten_none (unwritten_behind piece [] (rw (append-nil piece) u) h p)

-- ---- what fills a buffer's front
module _ (refusal : ℕ) (l w : List ℕ) where
  -- A buffer that has room.
  pub filled : {m : List ℕ} {j : ℕ} → length w ≤ length l → Written l 0 w m j → (written j, m) ≡ fill refusal w l
  unfolding fill
  filled h p = rw (le-leb (length w) (length l) h) (ap₂ (λ (k : ℕ) (x : List ℕ). (written k, x)) (p.place ∙ zero-add (length w)) (written_front p h))

  -- A buffer that is shorter is not touched.
  pub unfilled : length l < length w → (too_short refusal 0, l) ≡ fill refusal w l
  unfolding fill
  unfilled h = rw (lt-leb (length w) (length l) h)

  -- What a filled buffer has at its front.
  pub fill_written : {m : List ℕ} {j : ℕ} → (written j, m) ≡ fill refusal w l → (j ≤ length m) × (take j m ≡ w)
  unfolding fill
  fill_written {m} {j} = go (leb (length w) (length l))
    where
      go : (b : Bool) → ◌≡◌ {A = Filled × List ℕ} (written j, m) (cond b (written (length w), w ++ drop (length w) l) (too_short refusal 0, l)) → (j ≤ length m) × (take j m ≡ w)
      go true e =
          let d : written j ≡ written (length w) = ap (λ (p : Filled × List ℕ). p.0) e in
          let n : j ≡ length w = cc in
          let x : m ≡ w ++ drop (length w) l = ap (λ (p : Filled × List ℕ). p.1) e in
          let k = ap length x ∙ length-append w (drop (length w) l) in
          (omega arith, ap (take j) x ∙ take_at w (drop (length w) l) j (sym n))
      go false e = let d = ap (λ (p : Filled × List ℕ). p.0) e in let z : ◌≡◌ {A = ℕ} 0 1 = cc in absurd (omega arith)
