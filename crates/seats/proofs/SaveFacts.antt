-- Saving into a lent buffer.
-- Assumes nothing.
use mathlib.Core.Path.{◌≡◌, ap, ◌∙◌}
use mathlib.Core.List.{List, ◌++◌}
use Prim.Native.Nat.{ℕ, ◌<◌, ◌≤◌}
use lib.ListN.{length, take, drop}
use lib.Seq.{take-append_seam, drop-append_seam}
use borrow.Author.Tests.{le-leb, lt-leb}
use Rattle.seats.specs.Bytes.{Filled, written, too_short, fill}
use Rattle.seats.specs.Seats.{State}
use Rattle.seats.specs.Images.{image, loaded, load}
use Rattle.seats.specs.Saving.{save}
use Rattle.seats.specs.Invariants.{Invariant}
use Rattle.seats.proofs.SavedLoads.{loads_back}

-- A buffer that is too short is not touched.
pub save_refused : (s : State) (buffer : List ℕ) → length buffer < length (image s) → save s buffer ≡ (too_short 9 0, buffer)
unfolding save fill
save_refused s buffer h = rw (lt-leb (length (image s)) (length buffer) h)

module _ (s : State) (buffer : List ℕ) (room : length (image s) ≤ length buffer) where
  pub save_written : save s buffer ≡ (written (length (image s)), image s ++ drop (length (image s)) buffer)
  unfolding save fill
  save_written = rw (le-leb (length (image s)) (length buffer) room)

  -- The buffer that saving leaves.
  after : (save s buffer).1 ≡ image s ++ drop (length (image s)) buffer
  after = ap (λ (x : Filled × List ℕ). x.1) save_written

  pub save_front : take (length (image s)) (save s buffer).1 ≡ image s
  save_front = ap (take (length (image s))) after ∙ take-append_seam (image s) (drop (length (image s)) buffer)

  pub save_behind : drop (length (image s)) (save s buffer).1 ≡ drop (length (image s)) buffer
  save_behind = ap (drop (length (image s))) after ∙ drop-append_seam (image s) (drop (length (image s)) buffer)

  -- The buffer's front, behind any bytes, loads as the state saved.
  pub saved_loads : Invariant s → (before : List ℕ) → load (before ++ take (length (image s)) (save s buffer).1) ≡ loaded s
  saved_loads v before = ap (λ (l : List ℕ). load (before ++ l)) save_front ∙ loads_back s v before
