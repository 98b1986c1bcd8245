-- A record is judged by what it decodes to: it is refused with 1, or by the first check of its call that holds, or it is accepted.
-- Assumes nothing.
use mathlib.Core.Path.{◌≡◌, refl, sym, ap, ◌∙◌, subst}
use mathlib.Core.Bool.{false}
use mathlib.Core.Logic.{◌↔◌}
use mathlib.Core.List.{List, Memᴰ}
use Prim.Native.Nat.{ℕ, zero, suc, ◌≤◌}
use native.Mathlib.Omega.{arith}
use lib.Dec.{T}
use Rattle.graph.specs.Refusing.{Check, refusal_order, listed, no_earlier, Passes}
use Rattle.graph.proofs.Refusals.{first_in_order}
use Rattle.seats.specs.Seats.{State}
use Rattle.seats.specs.Calls.{Call, change, declare, lift, assign, unassign, ask, Answer, refused, checks, after, reply, perform, is_refusal}
use Rattle.seats.specs.Records.{Decoded, malformed, well_formed, decode, perform_decoded, step}
use Rattle.seats.specs.Demands.{RefusedWith, Unrefused, OfCall}
use Rattle.seats.proofs.Settling.{performs, checks_in_order}
use Rattle.seats.proofs.FirstChecks.{no_true, first_refuses, Settles, settles, first_listed}

-- The number of a refusal is not 0.
pub number_above_0 : (n : ℕ) → OfCall n → 1 ≤ n
unfolding refusal_order listed
number_above_0 zero t = absurd t
number_above_0 (suc n) t = omega arith

-- The answer of a call's kind is no refusal.
own_answer : (s : State) (c : Call) → is_refusal (reply s c) ≡ false
unfolding reply is_refusal
own_answer s (change c) = refl
own_answer s (declare a b) = refl
own_answer s (lift a b) = refl
own_answer s (assign a b) = refl
own_answer s (unassign a b) = refl
own_answer s (ask a b) = refl

-- A call is settled by its list of checks.
call_settles : (s : State) (c : Call) (z : Answer × State) → z ≡ perform s c → Settles (checks s c (after s c)) (reply s c) s (after s c) z
call_settles s c z e = settles (checks s c (after s c)) (reply s c) (own_answer s c) s (after s c) z (e ∙ performs s c)

module _ (s : State) (z : Answer × State) where
  decoded_refused_iff : (d : Decoded) → z ≡ perform_decoded s d → (n p : ℕ) → (z.0 ≡ refused n p) ↔ RefusedWith s d n p
  unfolding perform_decoded RefusedWith
  decoded_refused_iff malformed e n p =
      let q : z.0 ≡ refused 1 0 = ap (λ (x : Answer × State). x.0) e in (
        λ r. let w : refused 1 0 ≡ refused n p = sym q ∙ r in (sym cc, sym cc),
        λ (a, b). q ∙ rw (a, b),
      )
  decoded_refused_iff (well_formed c) e n p = (call_settles s c z e).refused_iff n p

  decoded_number : (d : Decoded) (n p : ℕ) → RefusedWith s d n p → OfCall n
  unfolding RefusedWith refusal_order listed
  decoded_number malformed n p (a, b) = subst OfCall (sym a) tt
  decoded_number (well_formed c) n p f = first_listed refusal_order (checks s c (after s c)) n p (checks_in_order s c (after s c)) f

  decoded_leaves : (d : Decoded) → z ≡ perform_decoded s d → (n p : ℕ) → z.0 ≡ refused n p → z.1 ≡ s
  unfolding perform_decoded
  decoded_leaves malformed e n p r = ap (λ (x : Answer × State). x.1) e
  decoded_leaves (well_formed c) e n p r = (call_settles s c z e).refused_leaves n p r

  decoded_accepted_iff : (d : Decoded) → z ≡ perform_decoded s d → (is_refusal z.0 ≡ false) ↔ Unrefused s d
  unfolding perform_decoded Unrefused is_refusal
  decoded_accepted_iff malformed e = (λ r. no_true (sym r ∙ ap (λ (x : Answer × State). is_refusal x.0) e), λ t. absurd t)
  decoded_accepted_iff (well_formed c) e = (call_settles s c z e).accepted_iff

  module _ (l : List ℕ) (e : z ≡ step s l) where
    pub record_refused_iff : (n p : ℕ) → (z.0 ≡ refused n p) ↔ RefusedWith s (decode l) n p
    unfolding step
    record_refused_iff n p = decoded_refused_iff (decode l) e n p

    -- A refused record has a number of the paper's for calls, and leaves the state.
    pub record_refused : (n p : ℕ) → z.0 ≡ refused n p → OfCall n × (z.1 ≡ s)
    unfolding step
    record_refused n p r = (decoded_number (decode l) n p ((record_refused_iff n p).0 r), decoded_leaves (decode l) e n p r)

    pub record_accepted_iff : (is_refusal z.0 ≡ false) ↔ Unrefused s (decode l)
    unfolding step
    record_accepted_iff = decoded_accepted_iff (decode l) e

    -- What a record that carries the call c comes to.
    module _ (c : Call) (q : decode l ≡ well_formed c) where
      carried : z ≡ perform s c
      unfolding step perform_decoded
      carried = e ∙ ap (perform_decoded s) q

      by_checks : Settles (checks s c (after s c)) (reply s c) s (after s c) z
      by_checks = call_settles s c z carried

      -- No check that holds has an earlier number than the refusal.
      pub record_first : (n p : ℕ) → z.0 ≡ refused n p → (k : Check) → Memᴰ k (checks s c (after s c)) → T k.holds → T (no_earlier refusal_order n k.number)
      record_first n p r =
          first_in_order refusal_order (checks s c (after s c)) n p (checks_in_order s c (after s c))
          (first_refuses (checks s c (after s c)) n p ((by_checks.refused_iff n p).0 r))

      module _ (r : is_refusal z.0 ≡ false) where
        -- An accepted record has its call's answer and state, and none of its checks holds.
        pub record_accepted : z ≡ (reply s c, after s c)
        record_accepted = by_checks.accepted_gives r

        pub record_passes : Passes (checks s c (after s c))
        record_passes =
            by_checks.accepted_iff.0 r
