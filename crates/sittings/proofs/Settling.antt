-- One call of a sitting: it is refused and leaves the sitting, or nothing refuses it and it leaves the sitting after it.
-- Assumes nothing.
use mathlib.Core.Path.{◌≡◌, refl, subst}
use mathlib.Core.Bool.{false, not}
use mathlib.Core.Logic.{◌⊎◌}
use mathlib.Core.List.{List}
use Prim.Native.Nat.{ℕ}
use lib.Dec.{T}
use Rattle.graph.specs.Editing.{add_by_place, add_by_privileges, remove_role, grant, withdraw, add_edge, remove_edge}
use Rattle.graph.specs.Refusing.{verdict, refusal_order, listed, from, input_checks, state_checks, still_below, closed_checks, declare_checks, lift_checks}
use Rattle.graph.proofs.Refusals.{in_order}
use Rattle.seats.specs.Seats.{State}
use Rattle.seats.specs.Calls.{settle, is_refusal}
use Rattle.seats.specs.Calls as base
use Rattle.seats.proofs.JudgedCalls.{Refuses, Accepts, call_settles, refused_call_leaves, unrefused_call_accepts}
use Rattle.sittings.specs.Sittings.{Sitting}
use Rattle.sittings.specs.Calls.{Call, call, exclude, activate, deactivate, drawn_checks, checks, after, reply, perform}
use Rattle.sittings.specs.Records.{Decoded, malformed, well_formed, decode, perform_decoded, step}

pub performs : (z : Sitting) (c : Call) → perform z c ≡ settle (verdict (checks z c (after z c))) (reply z c) z (after z c)
unfolding perform
performs z c = refl

-- A refusal of the call that leaves the sitting, and that nothing refuses it.
abbrev pub Refused : Sitting → Call → Type 0
Refused = Refuses checks after reply perform performs

abbrev pub Accepted : Sitting → Call → Type 0
Accepted = Accepts checks after reply perform performs

pub settled : (z : Sitting) (c : Call) → Refused z c ⊎ Accepted z c
settled = call_settles checks after reply perform performs

-- The answer of a call's kind is no refusal.
pub base_answer : (s : State) (c : base.Call) → is_refusal (base.reply s c) ≡ false
unfolding base.reply is_refusal
base_answer s (base.change c) = refl
base_answer s (base.declare a b) = refl
base_answer s (base.lift a b) = refl
base_answer s (base.assign a b) = refl
base_answer s (base.unassign a b) = refl
base_answer s (base.ask a b) = refl

pub own_answer : (z : Sitting) (c : Call) → is_refusal (reply z c) ≡ false
unfolding reply is_refusal
own_answer z (call c) = base_answer z.state c
own_answer z (exclude a b) = refl
own_answer z (activate a b) = refl
own_answer z (deactivate a b) = refl

pub perform_refused : (z : Sitting) (c : Call) → T (is_refusal (perform z c).0) → (perform z c).1 ≡ z
perform_refused = refused_call_leaves checks after reply perform performs (λ z c t. subst T (own_answer z c) t)

pub perform_accepted : (z : Sitting) (c : Call) → T (not (is_refusal (perform z c).0)) → Accepted z c
perform_accepted = unrefused_call_accepts checks after reply perform performs

-- ---- records of any bytes
-- A refused record leaves the sitting exactly as it was, pairs and active roles too.
pub refused_leaves : (z : Sitting) (l : List ℕ) → T (is_refusal (step z l).0) → (step z l).1 ≡ z
unfolding step perform_decoded
refused_leaves z l = go (decode l)
  where
    go : (d : Decoded) → T (is_refusal (perform_decoded z d).0) → (perform_decoded z d).1 ≡ z
    go malformed t = refl
    go (well_formed c) t = perform_refused z c t

-- A record that is not refused carries a call that is accepted.
pub record Carries (z : Sitting) (l : List ℕ) : Type 0 where
  pub call : Call
  pub decodes : decode l ≡ well_formed call
  pub accepts : Accepted z call

pub accepted_carries : (z : Sitting) (l : List ℕ) → T (not (is_refusal (step z l).0)) → Carries z l
unfolding step perform_decoded is_refusal
accepted_carries z l = go (decode l) refl
  where
    go : (d : Decoded) → decode l ≡ d → T (not (is_refusal (perform_decoded z d).0)) → Carries z l
    go malformed e t = absurd t
    go (well_formed c) e t = record { call = c; decodes = e; accepts = perform_accepted z c t }

-- ---- every call's checks stand in the order of refusals
pub checks_in_order : (z : Sitting) (c : Call) (h : Sitting) → T (in_order refusal_order (checks z c h))
unfolding in_order refusal_order listed from checks drawn_checks base.checks input_checks state_checks base.seat_checks still_below closed_checks declare_checks lift_checks
checks_in_order z (call (base.change (add_by_place a own juniors seniors))) h = tt
checks_in_order z (call (base.change (add_by_privileges a own))) h = tt
checks_in_order z (call (base.change (remove_role a b))) h = tt
checks_in_order z (call (base.change (grant a b))) h = tt
checks_in_order z (call (base.change (withdraw a b))) h = tt
checks_in_order z (call (base.change (add_edge a b))) h = tt
checks_in_order z (call (base.change (remove_edge a b))) h = tt
checks_in_order z (call (base.declare a b)) h = tt
checks_in_order z (call (base.lift a b)) h = tt
checks_in_order z (call (base.assign a b)) h = tt
checks_in_order z (call (base.unassign a b)) h = tt
checks_in_order z (call (base.ask a b)) h = tt
checks_in_order z (exclude a b) h = tt
checks_in_order z (activate a b) h = tt
checks_in_order z (deactivate a b) h = tt
