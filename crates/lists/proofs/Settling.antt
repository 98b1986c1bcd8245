-- The laws of a judged call, for any state and answer: it is refused and leaves the state, or it is accepted and leaves the state after it.
-- Assumes nothing.
use mathlib.Core.Path.{◌≡◌, refl}
use mathlib.Core.Bool.{Bool}
use lib.Dec.{T}
use Rattle.lists.specs.Settling.{Judged, passed, refused, settle}

module _ {S A : Type 0} where
  -- An answer refuses the call.
  pub settle_refused : {j : Judged A} (a : A) (s h : S) {r : A} → j ≡ refused r → settle j a s h ≡ (r, s)
  unfolding settle
  settle_refused a s h e = rw e

  -- Nothing refuses the call.
  pub settle_passed : {j : Judged A} (a : A) (s h : S) → j ≡ passed → settle j a s h ≡ (a, h)
  unfolding settle
  settle_passed a s h e = rw e

  -- What the state and the state after have, the state that is left has.
  pub settle_keeps : (I : S → Type 0) (j : Judged A) (a : A) (s h : S) → I s → I h → I (settle j a s h).1
  unfolding settle
  settle_keeps I passed a s h i k = k
  settle_keeps I (refused r) a s h i k = i

  -- A refusal leaves the state, where the call's own answer is none.
  pub refusal_leaves : (is_refusal : A → Bool) (j : Judged A) (a : A) (s h : S) → (T (is_refusal a) → ⊥) → T (is_refusal (settle j a s h).0) → (settle j a s h).1 ≡ s
  unfolding settle
  refusal_leaves is_refusal passed a s h none t = absurd (none t)
  refusal_leaves is_refusal (refused r) a s h none t = refl
