-- What is made of the sitting that a block holds, or of none.
-- Assumes nothing.
use mathlib.Core.Path.{◌≡◌, refl, ap, ◌∙◌}
use mathlib.Core.Bool.{Bool, true, false, cond}
use mathlib.Core.List.{List}
use Prim.Native.Nat.{ℕ}
use lib.Dec.{leb}
use lib.ListN.{length}
use Rattle.std.specs.Prelude.{Option, Some, None}
use Rattle.seats.specs.Seats.{State}
use Rattle.sittings.specs.Sittings.{Sitting}
use Rattle.sittings.specs.Reading.{lent}
use Rattle.sittings.specs.declared.LentSitting.{LentSitting}
use Rattle.keeper.specs.Block.{block_length, sitting_in, of_sitting, of_state, read_held}

-- What f makes of a sitting, or other where there is none.
unfoldable either : {A : Type 0} → (Sitting → A) → A → Option Sitting → A
either f other (Some z) = f z
either f other None = other

of_held : {A : Type 0} (W : List ℕ) (f : Sitting → A) (other : A) → either f other (of_sitting W Some None) ≡ of_sitting W f other
unfolding of_sitting either
of_held W f other = go (leb block_length (length W))
  where
    go : (b : Bool) → either f other (cond b (Some (sitting_in W)) None) ≡ cond b (f (sitting_in W)) other
    go true = refl
    go false = refl

module _ {A : Type 0} (W : List ℕ) where
  -- Where it holds none, it is the other.
  pub none_held : (f : Sitting → A) (other : A) → read_held None ≡ of_sitting W Some None → other ≡ of_sitting W f other
  unfolding either read_held
  none_held f other e = ap (either f other) e ∙ of_held W f other

  pub no_state : (f : State → A) (other : A) → read_held None ≡ of_sitting W Some None → other ≡ of_state W f other
  unfolding of_sitting of_state
  no_state f other e = none_held (λ z. f z.state) other e

  -- Where it holds one, it is what f makes of that, or of its state.
  pub shown : (f : Sitting → A) (other : A) (x : LentSitting) {r : A} → read_held (Some x) ≡ of_sitting W Some None → r ≡ f (lent x) → r ≡ of_sitting W f other
  unfolding either read_held
  shown f other x e p = p ∙ ap (either f other) e ∙ of_held W f other

  pub state_shown : (f : State → A) (other : A) (x : LentSitting) {r : A} → read_held (Some x) ≡ of_sitting W Some None → r ≡ f (lent x).state → r ≡ of_state W f other
  unfolding of_sitting of_state
  state_shown f other x e p = shown (λ z. f z.state) other x e p
