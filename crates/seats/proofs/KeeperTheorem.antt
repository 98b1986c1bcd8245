-- Demand 3 on the code: the list theorem for every chain of the step's promise, from a fresh state and from what loading accepts.
-- Assumes nothing.
use mathlib.Core.Path.{◌≡◌, refl, sym, ap, ◌∙◌, subst}
use mathlib.Core.List.{List}
use Prim.Native.Nat.{ℕ}
use native.Mathlib.Omega.{arith}
use Rattle.seats.specs.Seats as seats
use Rattle.seats.specs.Calls.{accepted, refused}
use Rattle.seats.specs.Calls as calls
use Rattle.seats.specs.Images.{Loaded, loaded, not_loaded, load, settle_load, load_over}
use Rattle.seats.specs.ListTheorem.{Start, from_fresh, from_image, ListTheorem}
use Rattle.seats.specs.Promises.{StepPromise, KeeperStart, made_fresh, made_by_loading, DemandThreeOnCode}
use Rattle.seats.specs.Reading.{read_state, read_answer}
use Rattle.seats.specs.declared.State.{State}
use Rattle.seats.proofs.ListTheorem.{list_theorem}

-- A load that is accepted gives the state that the bytes hold.
pub accepted_load : (s t : seats.State) (bytes : List ℕ) → (accepted, t) ≡ load_over s bytes → load bytes ≡ loaded t
unfolding load_over settle_load
accepted_load s t bytes e = go (load bytes) e
  where
    go : (x : Loaded) → (accepted, t) ≡ settle_load s x → x ≡ loaded t
    go (loaded h) q = ap loaded (sym (ap (λ (z : calls.Answer × seats.State). z.1) q))
    go (not_loaded n p) q = absurd (no_refusal (ap (λ (z : calls.Answer × seats.State). z.0) q))
      where
        no_refusal : accepted ≡ refused n p → ⊥
        no_refusal z = let o : ◌≡◌ {A = ℕ} 0 1 = cc in omega arith

-- What a keeper starts with is a start of the list theorem.
pub start : (c : State) → KeeperStart c → Start (read_state c)
start _ (made_fresh c e) = subst Start (sym e) from_fresh
start _ (made_by_loading s c bytes a b p e) =
    from_image bytes (read_state c) b (accepted_load (read_state s) (read_state c) bytes (ap (λ (x : calls.Answer). (x, read_state c)) (sym e) ∙ p))

pub keeper_theorem : DemandThreeOnCode
keeper_theorem c d l m k b chain =
    let t = list_theorem (read_state c) (start c k) l b in
    let (x, y, z) = ListTheorem.keeper_agrees t read_state read_answer StepPromise (λ s r a t p. sym p) c d m refl chain in
    record { same_answers = x; same_end = y; same_edges = z; definitions = t }
