-- Feeding a part of a tape: what is left of it, with the buffer and the state so far, comes to what the whole part comes to; and what a caller learns.
-- Assumes nothing.
use mathlib.Core.Bool.{Bool, true, false, cond, ◌||◌}
use mathlib.Core.List.{List, [], ◌++◌, append-nil}
use mathlib.Core.Path.{◌≡◌, refl, sym, ap, ap₂, ◌∙◌}
use Prim.Native.Nat.{ℕ, min, ◌+◌, ◌-◌, ◌*◌, ◌/◌, ◌^◌, ◌≤◌, ◌<◌}
use native.Mathlib.Omega.{arith}
use lib.ListN.{length, take, drop, length-append, length-drop, drop_of_length-le}
use lib.Seq.{sets, length-sets, take_all}
use borrow.Rule.Slice.PartMut.{put_mid}
use Rattle.std.proofs.lemmas.List.{take-append-drop}
use lib.Dec.{leb, ltb}
use native.Mathlib.Decide.{dec_lt}
use borrow.Author.Tests.{le-leb, lt-leb, lt-ltb, le-ltb, leb-true, leb-false, ltb-true}
use Rattle.seats.specs.Bytes.{Filled, written, too_short, fill}
use Rattle.seats.specs.Calls.{Answer}
use Rattle.seats.specs.Places.{record_at, record_end}
use Rattle.seats.specs.Tape.{records, line, fed, PartAnswer, fills, uncounted, feed}
use Rattle.seats.specs.Working.{record_count, longest_line, LinePut, PartRun}
use Rattle.seats.specs.Written.{Written}
use Rattle.seats.proofs.Written.{put_behind, Unwritten, unwritten_all, unwritten_next, unwritten_none, filled, unfilled, fill_written}
use Rattle.seats.proofs.Lines.{line_some}
use Rattle.seats.proofs.TapeRecords.{count-records, records_first, fed_none}
use Rattle.seats.proofs.TapePlaces.{records_more, fed_more}

-- ---- one line more
-- Lines of a tape: the index of the last, and how many bytes they have.
pub record Lines : Type 0 where
  pub index : ℕ
  pub length : ℕ

-- The lines r are the lines b with that of the next record, whose answer is a: it is written behind them where the buffer has room for it.
pub record Lined (buffer : List ℕ) (b : Lines) (a : Answer) (after : List ℕ) (r : Lines) : Type 0 where
  pub counted : r.index ≡ b.index + 1
  pub longer : r.length ≡ b.length + length (line r.index a)
  pub bounded : r.length ≤ b.length + longest_line
  pub put : after ≡ cond (leb r.length (length buffer)) (sets buffer b.length (line r.index a)) buffer

-- Nothing is written there.
put_nothing : (l : List ℕ) (k : ℕ) {m : List ℕ} → m ≡ drop k l → put_mid k (length l - k) l m ≡ l
put_nothing l k e =
    let a = length-drop k l in
    let none : drop (length l - k) (drop k l) ≡ [] = drop_of_length-le (drop k l) (omega arith) in
    ap₂ (λ (x y : List ℕ). take k l ++ (x ++ y)) e none ∙ ap (λ (x : List ℕ). take k l ++ x) (append-nil (drop k l)) ∙ take-append-drop k l

-- The line of the next record is put into what is left of the buffer behind the lines, which is nothing where these have no room.
pub line_behind : (l : List ℕ) (b : Lines) (a : Answer) {k n : ℕ} {m : List ℕ} → k ≡ min b.length (length l) → LinePut (take (length l - k) (drop k l)) (b.index + 1) a m n
    → Lined l b a (put_mid k (length l - k) l m) (record { index = b.index + 1; length = b.length + n })
line_behind l b a {k} {n} {m} e p = record {
  counted = refl;
  longer = ap (λ (x : ℕ). b.length + x) p.long;
  bounded = let h = p.bounded in omega arith;
  put = elim (dec_lt (length l) (b.length + n)) [
    | yes h ↦ rw (lt-leb (b.length + n) (length l) h) (put_nothing l k (put ∙ rw (lt-leb n (length d) (short h))))
    | no h ↦ (
        let x : b.length + n ≤ length l = omega (arith, h) in
        let s : k ≡ b.length = omega arith in
        rw (le-leb (b.length + n) (length l) x, ← s) (put_behind l w k (omega arith) (put ∙ rw (le-leb n (length d) (room x))) (rw (← p.long) (room x))))
  ];
}
  where
    w : List ℕ
    w = line (b.index + 1) a

    d : List ℕ
    d = drop k l

    put : m ≡ cond (leb n (length d)) (sets d 0 w) d
    put = let f = length-drop k l in rw (take_all (length l - k) d (omega arith)) at p.put

    short : length l < b.length + n → length d < n
    short h = let f = length-drop k l in let q = p.long in let s = line_some (b.index + 1) a in omega arith

    room : b.length + n ≤ length l → n ≤ length d
    room h = let f = length-drop k l in omega arith

-- The buffer stays as long as it was.
pub lined_length : {l m : List ℕ} {b r : Lines} {a : Answer} → Lined l b a m r → length m ≡ length l
lined_length {l} {m} {b} {r} {a} w = ap length w.put ∙ go (leb r.length (length l))
  where
    go : (t : Bool) → length (cond t (sets l b.length (line r.index a)) l) ≡ length l
    go true = length-sets l b.length (line r.index a)
    go false = refl

-- Where it has room, the line is written.
pub lined_written : {l m : List ℕ} {b r : Lines} {a : Answer} → Lined l b a m r → r.length ≤ length l → Written l b.length (line r.index a) m r.length
lined_written {l} {m} {b} {r} {a} w h = record {
  list = w.put ∙ ap (λ (t : Bool). cond t (sets l b.length (line r.index a)) l) (le-leb r.length (length l) h);
  place = w.longer;
}

-- ---- record after record
module _ {S : Type 0} (step : S → List ℕ → Answer × S) where
  -- Of a part fed from the state s₀ into the buffer l₀ after count records, what starts at `start` is left, for the buffer l behind the lines b, and from the state s.
  pub record Left (l₀ : List ℕ) (count : ℕ) (part : List ℕ) (s₀ : S) (l : List ℕ) (b : Lines) (start : ℕ) (s : S) : Type 0 where
    pub within : start ≤ length part
    pub room : b.length + longest_line * length (records (drop start part)) ≤ longest_line * length (records part)
    pub same_length : length l ≡ length l₀
    pub sum : b.length + length (fed step s b.index (drop start part)).0 ≡ length (fed step s₀ count part).0
    pub lines : length (fed step s₀ count part).0 ≤ length l₀ → Unwritten l₀ 0 (fed step s₀ count part).0 l b.length (fed step s b.index (drop start part)).0
    pub rest : (fed step s b.index (drop start part)).1 ≡ (fed step s₀ count part).1

  module _ (l₀ : List ℕ) (count : ℕ) (part : List ℕ) (s₀ : S) where
    -- All of it is left.
    pub left_start : Left l₀ count part s₀ l₀ (record { index = count; length = 0 }) 0 s₀
    left_start = record { within = omega arith; room = omega arith; same_length = refl; sum = omega arith; lines = λ h. unwritten_all _ _ _; rest = refl }

    -- Where bytes are left, the next line's index and the lines' length with the longest line stay below their bounds.
    pub left_room : {l : List ℕ} {b : Lines} {start : ℕ} {s : S} → Left l₀ count part s₀ l b start s → start < length part
        → count + length (records part) < 2 ^ 64 → length part < 2 ^ 63 → (b.index + 1 < 2 ^ 64) × (b.length + longest_line < 2 ^ 64)
    unfolding fed
    left_room {start = start} w h counted short =
        let d = length-drop start part in
        let n = ap length (records_first (drop start part) (omega arith)) in
        let a = w.room in
        let m = count-records part in
        let b = ap (λ (z : ℕ × S). z.0) w.rest in
        (omega arith, omega arith)

    -- One record is fed: its answer and state are the step's, and its line is put behind the others.
    pub left_next : {l m : List ℕ} {b r : Lines} {start next : ℕ} {s t : S} {a : Answer}
        → Left l₀ count part s₀ l b start s → start < length part → next ≡ record_end part start
        → (a, t) ≡ step s (record_at part start) → Lined l b a m r → Left l₀ count part s₀ m r next t
    left_next {l} {m} {b} {r} {start} {next} {s} {t} {a} w h e u p =
        let behind = fed step t r.index (drop next part) in
        let n : length (records (drop start part)) ≡ length (records (drop next part)) + 1 = rw e (ap length (records_more part start h) ∙ omega arith) in
        let f : fed step s b.index (drop start part) ≡ (line r.index a ++ behind.0, behind.1) =
        rw (e, p.counted) (fed_more part start h step s b.index)
        ∙ ap (λ (z : Answer × S). (line r.index z.0 ++ (fed step z.1 r.index (drop next part)).0, (fed step z.1 r.index (drop next part)).1)) (sym u) in
        let f₀ = ap (λ (z : List ℕ × (ℕ × S)). z.0) f in
        let y = w.sum in
        let v = ap length f₀ ∙ length-append (line r.index a) behind.0 in
        let g = p.longer in
        record {
          within = omega arith;
          room =
              let x = w.room in
              let k = p.bounded in
              omega arith;
          same_length = lined_length p ∙ w.same_length;
          sum = omega arith;
          lines = λ k. unwritten_next (line r.index a) behind.0 (rw f₀ at (w.lines k)) (lined_written p (let q = w.same_length in omega arith));
          rest = ap (λ (z : List ℕ × (ℕ × S)). z.1) (sym f) ∙ w.rest;
        }

    -- Nothing is left.
    pub left_end : {l : List ℕ} {b : Lines} {start : ℕ} {s : S} → Left l₀ count part s₀ l b start s → length part ≤ start → PartRun step s₀ count part l₀ b.index b.length s l
    left_end {l} {b} {start} {s} w h =
        let d : drop start part ≡ [] = drop_of_length-le part h in
        let f = ap (fed step s b.index) d ∙ fed_none step s b.index in
        let f₀ : (fed step s b.index (drop start part)).0 ≡ [] = ap (λ (z : List ℕ × (ℕ × S)). z.0) f in
        let n = ap length f₀ in
        let x = w.sum in
        record {
          comes_to = ap (λ (z : List ℕ × (ℕ × S)). z.1) (sym f) ∙ w.rest;
          long = omega arith;
          bounded = let y = w.room in omega arith;
          put = λ k. unwritten_none (rw f₀ at (w.lines (omega arith)));
        }

  -- ---- whether a part is fed
  -- What feeding gives: its answer with the buffer, and the records so far with the state.
  abbrev Result : Type 0
  Result = (PartAnswer × List ℕ) × (ℕ × S)

  module _ (s : S) (count : ℕ) (part buffer : List ℕ) where
    -- Its records are too many to be counted, and nothing is done.
    pub feed_uncounted : 2 ^ 64 ≤ count + length (records part) → ◌≡◌ {A = Result} ((uncounted, buffer), (count, s)) (feed step s count part buffer)
    unfolding feed fed
    feed_uncounted h = rw (le-ltb (count + length (records part)) (2 ^ 64) h)

    module _ (counted : count + length (records part) < 2 ^ 64) where
      -- What feeding comes to is what filling the buffer does.
      counts : feed step s count part buffer ≡ ((fills (fill 9 (fed step s count part).0 buffer).0, (fill 9 (fed step s count part).0 buffer).1), cond (leb (length (fed step s count part).0) (length buffer)) (fed step s count part).1 (count, s))
      unfolding feed fed
      counts = rw (lt-ltb (count + length (records part)) (2 ^ 64) counted)

      -- Its lines have no room, and nothing is done.
      pub feed_refused : length buffer < length (fed step s count part).0 → ◌≡◌ {A = Result} ((fills (too_short 9 0), buffer), (count, s)) (feed step s count part buffer)
      feed_refused h =
          ap₂ (λ (f : Filled × List ℕ) (t : Bool). ((fills f.0, f.1), cond t (fed step s count part).1 (count, s)))
          (unfilled 9 buffer (fed step s count part).0 h) (sym (lt-leb (length (fed step s count part).0) (length buffer) h))
          ∙ sym counts

      -- The part is run, its lines having room.
      pub feed_run : {index n : ℕ} {t : S} {m : List ℕ} → PartRun step s count part buffer index n t m → n ≤ length buffer
          → ◌≡◌ {A = Result} ((fills (written n), m), (index, t)) (feed step s count part buffer)
      feed_run p h =
          let e = p.long in
          let k : length (fed step s count part).0 ≤ length buffer = omega arith in
          ap₂ (λ (f : Filled × List ℕ) (z : ℕ × S). ((fills f.0, f.1), z)) (filled 9 buffer (fed step s count part).0 k (p.put h)) p.comes_to
          ∙ ap (λ (t : Bool). ((fills (fill 9 (fed step s count part).0 buffer).0, (fill 9 (fed step s count part).0 buffer).1), cond t (fed step s count part).1 (count, s))) (sym (le-leb (length (fed step s count part).0) (length buffer) k))
          ∙ sym counts

    -- ---- whether its lines have room, so many bytes being there
    abbrev Test : ℕ → Bool
    Test room = leb (longest_line * length (records part)) room || leb (length (fed step s count part).0) room

    -- The longest lines have, n being how many records the part has.
    pub longest_fits : {n : ℕ} (room : ℕ) → n ≡ record_count (length part) → n ≤ room / longest_line → true ≡ Test room
    longest_fits room e h = let k = count-records part in rw (le-leb (longest_line * length (records part)) room (omega arith))

    -- They are measured by running them.
    pub measured_fits : {n index long : ℕ} {t : S} {m : List ℕ} (room : ℕ) → n ≡ record_count (length part) → room / longest_line < n → PartRun step s count part buffer index long t m → leb long room ≡ Test room
    measured_fits room e h p =
        let k = count-records part in
        rw (lt-leb (longest_line * length (records part)) room (omega arith)) (ap (λ (n : ℕ). leb n room) p.long)

    -- They have none.
    pub test_fails : {b : Bool} (room : ℕ) → b ≡ Test room → b ≡ false → room < length (fed step s count part).0
    test_fails room e h = leb-false (length (fed step s count part).0) room (go (leb (longest_line * length (records part)) room) (leb (length (fed step s count part).0) room) (sym e ∙ h))
      where
        go : (a b : Bool) → (a || b) ≡ false → b ≡ false
        go true true h = h
        go true false h = refl
        go false b h = h

    -- They have, and what running them wrote lies within.
    pub test_holds : {x : Bool} {index n : ℕ} {t : S} {m : List ℕ} (room : ℕ) → x ≡ Test room → x ≡ true → PartRun step s count part buffer index n t m → n ≤ room
    test_holds {n = n} room e h p = go (leb (longest_line * length (records part)) room) (leb (length (fed step s count part).0) room) refl refl (sym e ∙ h)
      where
        go : (y z : Bool) → leb (longest_line * length (records part)) room ≡ y → leb (length (fed step s count part).0) room ≡ z → (y || z) ≡ true → n ≤ room
        go true z x y h = let k = leb-true (longest_line * length (records part)) room x in let l = p.bounded in omega arith
        go false true x y h = let k = leb-true (length (fed step s count part).0) room y in let l = p.long in omega arith
        go false false x y h = let z : ◌≡◌ {A = ℕ} 0 1 = cc in absurd (omega arith)

  -- ---- what a caller learns
  -- Where lines were written, they are those of the part at the buffer's front, and the rest is what the part comes to.
  pub record Told (s : S) (count : ℕ) (part : List ℕ) (n : ℕ) (m : List ℕ) (z : ℕ × S) : Type 0 where
    pub within : n ≤ length m
    pub text : take n m ≡ (fed step s count part).0
    pub rest : z ≡ (fed step s count part).1
    pub bound : z.0 < 2 ^ 64

  -- What filling the buffer does, where feeding answers so.
  abbrev filling : PartAnswer → Filled
  filling (fills f) = f
  filling uncounted = too_short 0 0

  -- Lines were written only where the records are counted and the lines have room.
  pub feed_told : (s : S) (count : ℕ) (part buffer : List ℕ) {n : ℕ} {m : List ℕ} {z : ℕ × S} → ((fills (written n), m), z) ≡ feed step s count part buffer → Told s count part n m z
  unfolding feed
  feed_told s count part buffer {n} {m} {z} = go (ltb (fed step s count part).1.0 (2 ^ 64)) (leb (length (fed step s count part).0) (length buffer)) refl refl
    where
      go : (a b : Bool) → ltb (fed step s count part).1.0 (2 ^ 64) ≡ a → leb (length (fed step s count part).0) (length buffer) ≡ b
          → ◌≡◌ {A = Result} ((fills (written n), m), z) (cond a ((fills (fill 9 (fed step s count part).0 buffer).0, (fill 9 (fed step s count part).0 buffer).1), cond b (fed step s count part).1 (count, s)) ((uncounted, buffer), (count, s))) → Told s count part n m z
      go true true h k e =
          let w = fill_written 9 buffer (fed step s count part).0 (ap (λ (p : Result). (filling p.0.0, p.0.1)) e) in
          let r = ap (λ (p : Result). p.1) e in
          let d = ap (λ (p : ℕ × S). p.0) r in
          record { within = w.0; text = w.1; rest = r; bound = rw d (ltb-true (fed step s count part).1.0 (2 ^ 64) h) }
      go true false h k e =
          let d : ◌≡◌ {A = Filled × List ℕ} (written n, m) (too_short 9 0, buffer) = ap (λ (p : Result). (filling p.0.0, p.0.1)) e ∙ sym (unfilled 9 buffer (fed step s count part).0 (leb-false (length (fed step s count part).0) (length buffer) k)) in
          let f = ap (λ (p : Filled × List ℕ). p.0) d in
          let z : ◌≡◌ {A = ℕ} 0 1 = cc in
          absurd (omega arith)
      go false b h k e = let d = ap (λ (p : Result). p.0.0) e in let z : ◌≡◌ {A = ℕ} 0 1 = cc in absurd (omega arith)
