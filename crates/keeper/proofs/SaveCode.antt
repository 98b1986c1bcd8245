-- What a save and a measure answer, as one number: a length is small, and the code of a save is that of the definition's answer.
-- Assumes nothing.
use mathlib.Core.Path.{◌≡◌, ap, ◌∙◌}
use mathlib.Core.Logic.{inl, inr}
use mathlib.Core.List.{List, ◌++◌}
use Prim.Native.Nat.{ℕ, ◌≤◌}
use native.Mathlib.Omega.{arith}
use lib.ListN.{length}
use lib.Dec.{leb}
use Rattle.sets.proofs.Tests.{passes, fails, decide}
use Rattle.seats.specs.Bytes.{Filled, written, fill}
use Rattle.seats.specs.Seats.{State}
use Rattle.seats.specs.Images.{image, Loaded, loaded, not_loaded, load, measured, measure_loaded, measure}
use Rattle.seats.specs.Saving.{save}
use Rattle.seats.specs.Invariants.{Invariant}
use Rattle.seats.proofs.ImageLength.{image_bound}
use Rattle.seats.proofs.SavedLoads.{loads_back}
use Rattle.keeper.specs.Block.{save_code, length_code}
use Rattle.keeper.specs.Exports.{image_length}

-- A length that a save answers is at most that of the longest image.
pub written_le : (s : State) (buffer : List ℕ) (n : ℕ) {f : Filled} {X : List ℕ} → f ≡ written n → (f, X) ≡ save s buffer → n ≤ 5182
unfolding save fill
written_le s buffer n d e = elim (decide (leb (length (image s)) (length buffer))) [
  | inl t ↦ let p = ap (λ (r : Filled × List ℕ). r.0) (rw (passes (leb (length (image s)) (length buffer)) t) at e) in
      let q : n ≡ length (image s) = cc in
      omega (arith, image_bound s)
  | inr f ↦ let p = ap (λ (r : Filled × List ℕ). r.0) (rw (fails (leb (length (image s)) (length buffer)) f) at e) in
      let z : ◌≡◌ {A = ℕ} 0 1 = cc in
      omega arith
]

-- The code of what was answered, and the buffer.
pub saves : (s : State) (buffer : List ℕ) {f : Filled} {X : List ℕ} {v : ℕ} → v ≡ save_code f → (f, X) ≡ save s buffer → ◌≡◌ {A = ℕ × List ℕ} (v, X) (save_code (save s buffer).0, (save s buffer).1)
saves s buffer {X = X} p e = ap (λ (k : ℕ). (k, X)) p ∙ ap (λ (r : Filled × List ℕ). (save_code r.0, r.1)) e

-- A length that measuring gives is at most that of the longest image.
pub measured_le : (l : List ℕ) (n : ℕ) → measured n ≡ measure l → n ≤ 5182
unfolding measure measure_loaded
measured_le l n e = go (load l) e
  where
    go : (x : Loaded) → measured n ≡ measure_loaded x → n ≤ 5182
    go (loaded s) q = let o : n ≡ length (image s) = cc in omega (arith, image_bound s)
    go (not_loaded k p) q = let z : ◌≡◌ {A = ℕ} 0 1 = cc in omega arith

-- Of a saved image, alone or with other bytes before it, its own length is told.
pub saved_length : (s : State) → Invariant s → (before : List ℕ) → image_length (before ++ image s) ≡ length (image s)
unfolding image_length length_code measure measure_loaded
saved_length s v before = ap (λ (x : Loaded). length_code (measure_loaded x)) (loads_back s v before)
