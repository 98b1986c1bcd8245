-- One call: it is refused and leaves the state, or nothing refuses it and it leaves the state after it.
-- Assumes nothing.
use mathlib.Core.Path.{◌≡◌, refl}
use mathlib.Core.Bool.{not}
use mathlib.Core.Logic.{◌⊎◌}
use mathlib.Core.List.{List}
use Prim.Native.Nat.{ℕ}
use lib.Dec.{T}
use Rattle.graph.specs.Editing.{add_by_place, add_by_privileges, remove_role, grant, withdraw, add_edge, remove_edge}
use Rattle.graph.specs.Refusing.{passed, verdict, refusal_order, listed, from, input_checks, state_checks, still_below, closed_checks, declare_checks, lift_checks, Passes}
use Rattle.graph.specs.Refusing as refusing
use Rattle.graph.proofs.Refusals.{in_order}
use Rattle.seats.proofs.JudgedCalls.{Refuses, Accepts, refused_call, passed_call, call_settles, passing_call, refused_call_leaves, unrefused_call_accepts}
use Rattle.seats.specs.Seats.{State}
use Rattle.seats.specs.Calls.{Call, change, declare, lift, assign, unassign, ask, refused, seat_checks, checks, after, reply, settle, perform, is_refusal}
use Rattle.seats.specs.Records.{Decoded, malformed, well_formed, decode, perform_decoded, step}

pub performs : (s : State) (c : Call) → perform s c ≡ settle (verdict (checks s c (after s c))) (reply s c) s (after s c)
unfolding perform
performs s c = refl

-- A refusal of the call that leaves the state, and that nothing refuses it.
abbrev pub Refused : State → Call → Type 0
Refused = Refuses checks after reply perform performs

abbrev pub Accepted : State → Call → Type 0
Accepted = Accepts checks after reply perform performs

pub settled : (s : State) (c : Call) → Refused s c ⊎ Accepted s c
settled = call_settles checks after reply perform performs

pub refused_by : (s : State) (c : Call) {n p : ℕ} → verdict (checks s c (after s c)) ≡ refusing.refused n p → perform s c ≡ (refused n p, s)
refused_by = refused_call checks after reply perform performs

pub passed_by : (s : State) (c : Call) → verdict (checks s c (after s c)) ≡ passed → perform s c ≡ (reply s c, after s c)
passed_by = passed_call checks after reply perform performs

-- A call that nothing refuses is accepted.
pub accepted_by : (s : State) (c : Call) → Passes (checks s c (after s c)) → perform s c ≡ (reply s c, after s c)
accepted_by = passing_call checks after reply perform performs

reply_no_refusal : (s : State) (c : Call) → T (is_refusal (reply s c)) → ⊥
unfolding reply is_refusal
reply_no_refusal s (change c) t = t
reply_no_refusal s (declare a b) t = t
reply_no_refusal s (lift a b) t = t
reply_no_refusal s (assign a b) t = t
reply_no_refusal s (unassign a b) t = t
reply_no_refusal s (ask a b) t = t

pub perform_refused : (s : State) (c : Call) → T (is_refusal (perform s c).0) → (perform s c).1 ≡ s
perform_refused = refused_call_leaves checks after reply perform performs reply_no_refusal

pub perform_accepted : (s : State) (c : Call) → T (not (is_refusal (perform s c).0)) → Accepted s c
perform_accepted = unrefused_call_accepts checks after reply perform performs

-- ---- records of any bytes
-- A refused record leaves the state exactly as it was.
pub refused_leaves : (s : State) (l : List ℕ) → T (is_refusal (step s l).0) → (step s l).1 ≡ s
unfolding step perform_decoded
refused_leaves s l = go (decode l)
  where
    go : (d : Decoded) → T (is_refusal (perform_decoded s d).0) → (perform_decoded s d).1 ≡ s
    go malformed t = refl
    go (well_formed c) t = perform_refused s c t

-- A record that is not refused carries a call that is accepted.
pub record Carries (s : State) (l : List ℕ) : Type 0 where
  pub call : Call
  pub decodes : decode l ≡ well_formed call
  pub accepts : Accepted s call

pub accepted_carries : (s : State) (l : List ℕ) → T (not (is_refusal (step s l).0)) → Carries s l
unfolding step perform_decoded is_refusal
accepted_carries s l = go (decode l) refl
  where
    go : (d : Decoded) → decode l ≡ d → T (not (is_refusal (perform_decoded s d).0)) → Carries s l
    go malformed e t = absurd t
    go (well_formed c) e t = record { call = c; decodes = e; accepts = perform_accepted s c t }

-- ---- every call's checks stand in the order of refusals
pub checks_in_order : (s : State) (c : Call) (h : State) → T (in_order refusal_order (checks s c h))
unfolding in_order refusal_order listed from checks input_checks state_checks seat_checks still_below closed_checks declare_checks lift_checks
checks_in_order s (change (add_by_place a own juniors seniors)) h = tt
checks_in_order s (change (add_by_privileges a own)) h = tt
checks_in_order s (change (remove_role a b)) h = tt
checks_in_order s (change (grant a b)) h = tt
checks_in_order s (change (withdraw a b)) h = tt
checks_in_order s (change (add_edge a b)) h = tt
checks_in_order s (change (remove_edge a b)) h = tt
checks_in_order s (declare a b) h = tt
checks_in_order s (lift a b) h = tt
checks_in_order s (assign a b) h = tt
checks_in_order s (unassign a b) h = tt
checks_in_order s (ask a b) h = tt
