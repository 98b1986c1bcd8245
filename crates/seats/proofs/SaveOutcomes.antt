-- What a save comes to: the buffer has room and holds the image, or it has not; and both round trips through a buffer.
-- Assumes nothing.
use mathlib.Core.Path.{◌≡◌, sym, ap, ap₂, ◌∙◌}
use mathlib.Core.List.{List, ◌++◌}
use Prim.Native.Nat.{ℕ, ◌-◌, ◌<◌, ◌≤◌}
use native.Mathlib.Decide.{dec_lt}
use native.Mathlib.Omega.{arith}
use lib.ListN.{length, take, drop}
use lib.Seq.{take-append_seam}
use Rattle.seats.specs.Bytes.{Bytes, Filled, written, too_short}
use Rattle.seats.specs.Seats.{State}
use Rattle.seats.specs.Calls.{accepted}
use Rattle.seats.specs.Images.{image, far_at, loaded, load, load_over, settle_load}
use Rattle.seats.specs.Saving.{save}
use Rattle.seats.specs.Invariants.{Invariant}
use Rattle.seats.proofs.SaveFacts.{save_refused, save_written}
use Rattle.seats.proofs.SavedLoads.{loads_back}
use Rattle.seats.proofs.LoadedSaves.{image_far}

-- ---- what filling answers
pub no_written : {k n p : ℕ} → written k ≡ too_short n p → ⊥
no_written e = let z : ◌≡◌ {A = ℕ} 0 1 = cc in omega arith

pub same_short : {m k n p : ℕ} → too_short m k ≡ too_short n p → (m ≡ n) × (k ≡ p)
same_short e = (cc, cc)

pub same_length : {m n : ℕ} → written m ≡ written n → m ≡ n
same_length e = cc

-- ---- a save

-- The buffer has room for the image, or it has not.
pub data Saves (s : State) (buffer left : List ℕ) (f : Filled) : Type 0 where
  has_room : length (image s) ≤ length buffer → f ≡ written (length (image s)) → left ≡ image s ++ drop (length (image s)) buffer → Saves s buffer left f
  no_room : length buffer < length (image s) → f ≡ too_short 9 0 → left ≡ buffer → Saves s buffer left f

module _ (s : State) (buffer left : List ℕ) (f : Filled) (e : (f, left) ≡ save s buffer) where
  pub saves : Saves s buffer left f
  saves = elim (dec_lt (length buffer) (length (image s))) [
    | yes l ↦ (let q = e ∙ save_refused s buffer l in no_room l (ap (λ (z : Filled × List ℕ). z.0) q) (ap (λ (z : Filled × List ℕ). z.1) q))
    | no d ↦ (let k : length (image s) ≤ length buffer = omega (arith, d) in let q = e ∙ save_written s buffer k in has_room k (ap (λ (z : Filled × List ℕ). z.0) q) (ap (λ (z : Filled × List ℕ). z.1) q))
  ]

  module _ (n : ℕ) (w : f ≡ written n) where
    -- What was written is the image, at the buffer's front.
    written_image : (n ≡ length (image s)) × (take n left ≡ image s)
    written_image = elim saves [
      | no_room _ q _ ↦ absurd (no_written (sym w ∙ q))
      | has_room _ q m ↦ (let k = same_length (sym w ∙ q) in (k, ap₂ take k m ∙ take-append_seam (image s) _))
    ]

    -- Given to loading behind any bytes, it loads as the state saved, whatever is at hand.
    pub front_loads : Invariant s → (h : State) (before : List ℕ) → load_over h (before ++ take n left) ≡ (accepted, s)
    unfolding load_over settle_load
    front_loads v h before = ap (λ (l : List ℕ). settle_load h (load (before ++ l))) written_image.1 ∙ ap (settle_load h) (loads_back s v before)

    -- Where the state was loaded, it is the bytes of the image that was loaded.
    pub front_same : (l : List ℕ) → Bytes l → load l ≡ loaded s → (n ≡ far_at l (length l)) × (take n left ≡ drop (length l - n) l)
    front_same l b p =
        let (k, front) = written_image in
        let (same, far) = image_far l b s p in
        (k ∙ far, front ∙ same ∙ ap (λ (x : ℕ). drop (length l - x) l) (sym (k ∙ far)))
