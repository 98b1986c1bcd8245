-- Document 01, "The tape": the sample tape from its bytes, with its answers, the sitting it leaves and the text printed; and what tapes and parts of them come to at the edges.
-- Assumes nothing.
use mathlib.Core.Path.{◌≡◌, refl}
use mathlib.Core.Bool.{true}
use mathlib.Core.List.{List, [], ◌∷◌, ◌++◌}
use Prim.Native.Nat.{ℕ, ◌-◌, ◌^◌}
use lib.ListN.{replicate}
use Rattle.graph.specs.Drawing.{edge_count}
use Rattle.seats.specs.Bytes.{written, too_short}
use Rattle.seats.specs.Calls.{accepted, answered, refused}
use Rattle.seats.specs.Tape.{records, fills, uncounted, feed}
use Rattle.seats.proofs.Examples.{sample, spelled_out}
use Rattle.sittings.specs.Sittings.{begun, fresh}
use Rattle.sittings.specs.Records.{step}
use Rattle.sittings.specs.Lists.{answers, end}
use Rattle.sittings.specs.Tape.{printed}
use Rattle.sittings.specs.Computes.{computes}

-- ---- the sample tape
-- The six records, byte for byte.
unfoldable pub tape : List ℕ
tape =
    ((2 ∷ 2 ∷ replicate 6 0) ++ (1 ∷ replicate 23 0))
    ++ (((2 ∷ 3 ∷ replicate 6 0) ++ (3 ∷ replicate 23 0))
    ++ ((8 ∷ 0 ∷ 2 ∷ replicate 29 0)
    ++ ((10 ∷ 5 ∷ 3 ∷ replicate 29 0) ++ ((4 ∷ 2 ∷ 2 ∷ replicate 29 0) ++ (12 ∷ 5 ∷ 1 ∷ replicate 29 0)))))

tape_answers : answers fresh (records tape) ≡ accepted ∷ accepted ∷ accepted ∷ accepted ∷ refused 29 2 ∷ answered true ∷ []
unfolding computes spelled_out tape
tape_answers = refl

tape_end : end fresh (records tape) ≡ begun sample
unfolding computes spelled_out tape sample
tape_end = refl

sample_edges : edge_count sample.graph ≡ 3
unfolding computes spelled_out sample
sample_edges = refl

-- The seven lines of the sample output, in ASCII.
unfoldable pub sample_text : List ℕ
sample_text =
    (49 ∷ 32 ∷ 48 ∷ 32 ∷ 48 ∷ 10 ∷ [])
    ++ ((50 ∷ 32 ∷ 48 ∷ 32 ∷ 48 ∷ 10 ∷ [])
    ++ ((51 ∷ 32 ∷ 48 ∷ 32 ∷ 48 ∷ 10 ∷ [])
    ++ ((52 ∷ 32 ∷ 48 ∷ 32 ∷ 48 ∷ 10 ∷ [])
    ++ ((53 ∷ 32 ∷ 50 ∷ 57 ∷ 32 ∷ 50 ∷ 10 ∷ [])
    ++ ((54 ∷ 32 ∷ 48 ∷ 32 ∷ 49 ∷ 10 ∷ []) ++ (101 ∷ 110 ∷ 100 ∷ 32 ∷ 54 ∷ 32 ∷ 51 ∷ 10 ∷ []))))))

tape_printed : printed tape ≡ sample_text
unfolding computes spelled_out tape sample_text
tape_printed = refl

-- ---- at the edges
-- `end 0 1`.
empty_tape : printed [] ≡ 101 ∷ 110 ∷ 100 ∷ 32 ∷ 48 ∷ 32 ∷ 49 ∷ 10 ∷ []
unfolding computes
empty_tape = refl

-- A partial last record has its line: `1 1 0`, `2 1 0`, then `end 2 1`.
partial_tape : printed (replicate 33 0) ≡ (49 ∷ 32 ∷ 49 ∷ 32 ∷ 48 ∷ 10 ∷ []) ++ ((50 ∷ 32 ∷ 49 ∷ 32 ∷ 48 ∷ 10 ∷ []) ++ (101 ∷ 110 ∷ 100 ∷ 32 ∷ 50 ∷ 32 ∷ 49 ∷ 10 ∷ []))
unfolding computes
partial_tape = refl

-- A part whose line is `1 1 0`, in a buffer of sevens that has one byte more.
fed_behind : feed step fresh 0 (0 ∷ []) (replicate 7 7) ≡ ((fills (written 6), 49 ∷ 32 ∷ 49 ∷ 32 ∷ 48 ∷ 10 ∷ 7 ∷ []), (1, fresh))
unfolding computes
fed_behind = refl

-- In one of its length.
fed_exactly : feed step fresh 0 (0 ∷ []) (replicate 6 7) ≡ ((fills (written 6), 49 ∷ 32 ∷ 49 ∷ 32 ∷ 48 ∷ 10 ∷ []), (1, fresh))
unfolding computes
fed_exactly = refl

-- In one with a byte fewer nothing is done.
not-fed : feed step fresh 0 (0 ∷ []) (replicate 5 7) ≡ ((fills (too_short 9 0), replicate 5 7), (0, fresh))
unfolding computes
not-fed = refl

-- Behind the last record that 64 bits count, nothing is done.
not_counted : feed step fresh (2 ^ 64 - 1) (0 ∷ []) (replicate 40 7) ≡ ((uncounted, replicate 40 7), (2 ^ 64 - 1, fresh))
unfolding computes
not_counted = refl
