-- What feeding a part of a tape comes to: its records are not counted, its lines have no room, or they are written.
-- Assumes nothing.
use mathlib.Core.Path.{◌≡◌, refl, ap, ◌∙◌}
use mathlib.Core.List.{List, [], ◌∷◌, ◌++◌}
use Prim.Native.Nat.{ℕ, zero, suc, ◌+◌, ◌^◌, ◌<◌, ◌≤◌}
use native.Mathlib.Decide.{dec_lt}
use native.Mathlib.Omega.{arith}
use borrow.Author.Tests.{lt-ltb, le-ltb, le-leb, lt-leb}
use lib.ListN.{length, take, drop, length-drop, take-append-drop}
use Rattle.lists.specs.Runs.{run}
use Rattle.seats.specs.Bytes.{written, too_short, fill}
use Rattle.seats.specs.Calls.{Answer}
use Rattle.seats.specs.Records.{record_length}
use Rattle.seats.specs.Tape.{records, lines, fed, PartAnswer, fills, uncounted, feed, joined}
use Rattle.seats.proofs.TapeRecords.{records_first, records_none}

module _ {S : Type 0} (step : S → List ℕ → Answer × S) (s : S) (count : ℕ) (part buffer : List ℕ) where
  -- The lines of the part.
  abbrev text : List ℕ
  text = lines (suc count) (run step s (records part)).0

  -- The three outcomes, each with its condition: the answer, the buffer left, the records so far and the state after them.
  pub data Feeds (z : (PartAnswer × List ℕ) × (ℕ × S)) : Type 0 where
    not_counted : 2 ^ 64 ≤ count + length (records part) → z ≡ ((uncounted, buffer), (count, s)) → Feeds z
    too_long : count + length (records part) < 2 ^ 64 → length buffer < length text → z ≡ ((fills (too_short 9 0), buffer), (count, s)) → Feeds z
    fed_whole : count + length (records part) < 2 ^ 64 → length text ≤ length buffer
        → z ≡ ((fills (written (length text)), text ++ drop (length text) buffer), (count + length (records part), (run step s (records part)).1)) → Feeds z

  pub feeds : (z : (PartAnswer × List ℕ) × (ℕ × S)) → z ≡ feed step s count part buffer → Feeds z
  unfolding feed fed fill
  feeds z e =
      let n = count + length (records part) in
      elim (dec_lt n (2 ^ 64)) [
        | no d ↦ (let h : 2 ^ 64 ≤ n = omega (arith, d) in not_counted h (e ∙ rw (le-ltb n (2 ^ 64) h)))
        | yes l ↦ elim (dec_lt (length buffer) (length text)) [
          | yes k ↦ too_long l k (e ∙ rw (lt-ltb n (2 ^ 64) l, lt-leb (length text) (length buffer) k))
          | no d ↦ (let h : length text ≤ length buffer = omega (arith, d) in fed_whole l h (e ∙ rw (lt-ltb n (2 ^ 64) l, le-leb (length text) (length buffer) h)))
        ]
      ]

-- ---- the records of a tape are all of it

nothing_joined : (l : List ℕ) → length l ≡ 0 → joined (records l) ≡ l
unfolding joined
nothing_joined [] e = ap joined (records_none [] refl)
nothing_joined (x ∷ l) e = absurd (omega arith)

joined_upto : (n : ℕ) (l : List ℕ) → length l ≤ n → joined (records l) ≡ l
unfolding joined
joined_upto zero l h = nothing_joined l (omega arith)
joined_upto (suc n) l h =
    elim (dec_lt 0 (length l)) [
      | no d ↦ nothing_joined l (omega (arith, d))
      | yes k ↦
          ap joined (records_first l k)
          ∙ ap (λ (m : List ℕ). take record_length l ++ m) (joined_upto n (drop record_length l) (omega (arith, length-drop record_length l)))
          ∙ take-append-drop record_length l
    ]

-- The records of a tape, joined, are the tape: nothing of it is left out.
pub records-joined : (tape : List ℕ) → joined (records tape) ≡ tape
records-joined tape = joined_upto (length tape) tape (omega arith)
