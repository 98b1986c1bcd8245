-- A record is judged by what it decodes to: it is refused with 1, or by the first check of its call that holds, or it is accepted.
-- Assumes nothing.
use mathlib.Core.Path.{◌≡◌, sym, ap, ◌∙◌, subst}
use mathlib.Core.Bool.{false}
use mathlib.Core.Logic.{◌↔◌}
use mathlib.Core.List.{List, Memᴰ}
use Prim.Native.Nat.{ℕ}
use lib.Dec.{T}
use Rattle.graph.specs.Refusing.{Check, refusal_order, listed, no_earlier, Passes}
use Rattle.graph.proofs.Refusals.{first_in_order}
use Rattle.seats.specs.Calls.{Answer, refused, is_refusal}
use Rattle.seats.specs.Demands.{OfCall}
use Rattle.seats.proofs.FirstChecks.{no_true, first_refuses, Settles, settles, first_listed}
use Rattle.sittings.specs.Sittings.{Sitting}
use Rattle.sittings.specs.Calls.{Call, checks, after, reply, perform}
use Rattle.sittings.specs.Records.{Decoded, malformed, well_formed, decode, perform_decoded, step}
use Rattle.sittings.specs.Demands.{RefusedWith, Unrefused}
use Rattle.sittings.proofs.Settling.{performs, own_answer, checks_in_order}

-- A call is settled by its list of checks.
call_settles : (z : Sitting) (c : Call) (y : Answer × Sitting) → y ≡ perform z c → Settles (checks z c (after z c)) (reply z c) z (after z c) y
call_settles z c y e = settles (checks z c (after z c)) (reply z c) (own_answer z c) z (after z c) y (e ∙ performs z c)

module _ (z : Sitting) (y : Answer × Sitting) where
  decoded_refused_iff : (d : Decoded) → y ≡ perform_decoded z d → (n p : ℕ) → (y.0 ≡ refused n p) ↔ RefusedWith z d n p
  unfolding perform_decoded RefusedWith
  decoded_refused_iff malformed e n p =
      let q : y.0 ≡ refused 1 0 = ap (λ (x : Answer × Sitting). x.0) e in (
        λ r. let w : refused 1 0 ≡ refused n p = sym q ∙ r in (sym cc, sym cc),
        λ (a, b). q ∙ rw (a, b),
      )
  decoded_refused_iff (well_formed c) e n p = (call_settles z c y e).refused_iff n p

  decoded_number : (d : Decoded) (n p : ℕ) → RefusedWith z d n p → OfCall n
  unfolding RefusedWith refusal_order listed
  decoded_number malformed n p (a, b) = subst OfCall (sym a) tt
  decoded_number (well_formed c) n p f = first_listed refusal_order (checks z c (after z c)) n p (checks_in_order z c (after z c)) f

  decoded_leaves : (d : Decoded) → y ≡ perform_decoded z d → (n p : ℕ) → y.0 ≡ refused n p → y.1 ≡ z
  unfolding perform_decoded
  decoded_leaves malformed e n p r = ap (λ (x : Answer × Sitting). x.1) e
  decoded_leaves (well_formed c) e n p r = (call_settles z c y e).refused_leaves n p r

  decoded_accepted_iff : (d : Decoded) → y ≡ perform_decoded z d → (is_refusal y.0 ≡ false) ↔ Unrefused z d
  unfolding perform_decoded Unrefused is_refusal
  decoded_accepted_iff malformed e = (λ r. no_true (sym r ∙ ap (λ (x : Answer × Sitting). is_refusal x.0) e), λ t. absurd t)
  decoded_accepted_iff (well_formed c) e = (call_settles z c y e).accepted_iff

  module _ (l : List ℕ) (e : y ≡ step z l) where
    pub record_refused_iff : (n p : ℕ) → (y.0 ≡ refused n p) ↔ RefusedWith z (decode l) n p
    unfolding step
    record_refused_iff n p = decoded_refused_iff (decode l) e n p

    -- A refused record has a number of the paper's for calls, and leaves the sitting.
    pub record_refused : (n p : ℕ) → y.0 ≡ refused n p → OfCall n × RefusedWith z (decode l) n p × (y.1 ≡ z)
    unfolding step
    record_refused n p r =
        let f = (record_refused_iff n p).0 r in
        (decoded_number (decode l) n p f, f, decoded_leaves (decode l) e n p r)

    pub record_accepted_iff : (is_refusal y.0 ≡ false) ↔ Unrefused z (decode l)
    unfolding step
    record_accepted_iff = decoded_accepted_iff (decode l) e

    -- What a record that carries the call c comes to.
    module _ (c : Call) (q : decode l ≡ well_formed c) where
      by_checks : Settles (checks z c (after z c)) (reply z c) z (after z c) y
      unfolding step perform_decoded
      by_checks = call_settles z c y (e ∙ ap (perform_decoded z) q)

      -- No check that holds has an earlier number than the refusal.
      pub record_first : (n p : ℕ) → y.0 ≡ refused n p → (k : Check) → Memᴰ k (checks z c (after z c)) → T k.holds → T (no_earlier refusal_order n k.number)
      record_first n p r =
          first_in_order refusal_order (checks z c (after z c)) n p (checks_in_order z c (after z c))
          (first_refuses (checks z c (after z c)) n p ((by_checks.refused_iff n p).0 r))

      module _ (r : is_refusal y.0 ≡ false) where
        -- An accepted record has its call's answer and sitting, and none of its checks holds.
        pub record_accepted : y ≡ (reply z c, after z c)
        record_accepted = by_checks.accepted_gives r

        pub record_passes : Passes (checks z c (after z c))
        record_passes = by_checks.accepted_iff.0 r
