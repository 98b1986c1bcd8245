-- The state of a sitting after a list is that of document 01's keeper after the sitting's accepted records of kinds 1 to 12, none of which that keeper refuses, and what they say is what the sitting's accepted calls say.
-- Assumes nothing.
use mathlib.Core.Path.{◌≡◌, refl, ap, ◌∙◌}
use mathlib.Core.Bool.{Bool, not}
use mathlib.Core.List.{List}
use Prim.Native.Nat.{ℕ}
use lib.Dec.{T}
use Rattle.lists.specs.Runs.{run, unrefused, seen, trace}
use Rattle.lists.proofs.Projection.{trace-chosen, trace_same}
use Rattle.lists.proofs.Projection as layers
use Rattle.seats.specs.Calls.{Answer, is_refusal}
use Rattle.seats.specs.Calls as base
use Rattle.seats.specs.Records as base-records
use Rattle.seats.specs.Lists as base-lists
use Rattle.sittings.specs.Sittings.{Sitting}
use Rattle.sittings.specs.Calls.{Call, call, exclude, activate, deactivate, after, perform}
use Rattle.sittings.specs.Records.{Decoded, decoded, decode, perform_decoded, step}
use Rattle.sittings.specs.Lists.{answers, end, without_refused, is_base, lifted, by_call, history}
use Rattle.sittings.proofs.Settling.{refused_leaves, perform_accepted}
use Rattle.sittings.proofs.Beside.{accepted_beside}
use Rattle.sittings.proofs.RecordInvariant.{OwnCall, none, excludes, activates, deactivates, own_calls}

-- A record of kinds 1 to 12.
abbrev pub mine : List ℕ → Bool
mine r = is_base (base-records.decode r)

-- The accepted records of kinds 1 to 12.
abbrev pub seen_by_state : Sitting → List (List ℕ) → List (List ℕ)
seen_by_state z l = seen step is_refusal mine z l

-- Such a record, accepted, is a step of document 01's keeper.
follows : (z : Sitting) (r : List ℕ) → T (not (is_refusal (step z r).0)) → T (mine r) → base-records.step z.state r ≡ ((step z r).0, (step z r).1.state)
unfolding step decode perform_decoded decoded base-records.step base-records.perform_decoded is_base
follows z r = go (base-records.decode r)
  where
    go : (d : base-records.Decoded) → T (not (is_refusal (perform_decoded z (decoded d r)).0)) → T (is_base d)
        → base-records.perform_decoded z.state d ≡ ((perform_decoded z (decoded d r)).0, (perform_decoded z (decoded d r)).1.state)
    go base-records.malformed t u = absurd u
    go (base-records.well_formed c) t u = accepted_beside z c (perform_accepted z (call c) t)

-- Any other accepted record leaves the state.
rests : (z : Sitting) (r : List ℕ) → T (not (is_refusal (step z r).0)) → T (not (mine r)) → (step z r).1.state ≡ z.state
unfolding step decode perform_decoded decoded is_base after
rests z r = go (base-records.decode r)
  where
    kept : (c : Call) → (after z c).state ≡ z.state → T (not (is_refusal (perform z c).0)) → (perform z c).1.state ≡ z.state
    kept c e t = ap (λ (y : Answer × Sitting). y.1.state) (perform_accepted z c t).answer ∙ e

    owned : {d : Decoded} → OwnCall d → T (not (is_refusal (perform_decoded z d).0)) → (perform_decoded z d).1.state ≡ z.state
    owned none t = refl
    owned (excludes a b) t = kept (exclude a b) refl t
    owned (activates a b) t = kept (activate a b) refl t
    owned (deactivates a b) t = kept (deactivate a b) refl t

    go : (d : base-records.Decoded) → T (not (is_refusal (perform_decoded z (decoded d r)).0)) → T (not (is_base d)) → (perform_decoded z (decoded d r)).1.state ≡ z.state
    go base-records.malformed t u = owned (own_calls r) t
    go (base-records.well_formed c) t u = absurd u

pub state_seen : (z : Sitting) (l : List (List ℕ)) → base-lists.end z.state (seen_by_state z l) ≡ (end z l).state
unfolding end base-lists.end
state_seen z l = layers.state_seen base-records.step step is_refusal (λ z. z.state) mine refused_leaves follows rests z l

none_refused : (z : Sitting) (l : List (List ℕ)) → base-lists.without_refused z.state (seen_by_state z l) ≡ seen_by_state z l
unfolding base-lists.without_refused base-lists.answers
none_refused z l = layers.none_refused base-records.step step is_refusal (λ z. z.state) mine refused_leaves follows rests z l

-- ---- what the calls say
module _ (say : base.Call → Bool → Bool) where
  -- Any other record says nothing.
  silent : (r : List ℕ) (x : Bool) → T (not (mine r)) → base-lists.by_call say (base-records.decode r) x ≡ x
  unfolding base-lists.by_call is_base
  silent r x = go (base-records.decode r)
    where
      go : (d : base-records.Decoded) → T (not (is_base d)) → base-lists.by_call say d x ≡ x
      go base-records.malformed t = refl
      go (base-records.well_formed c) t = absurd t

  -- What a record says by document 01's decoding it says by the sitting's.
  same_saying : (r : List ℕ) (x : Bool) → base-lists.by_call say (base-records.decode r) x ≡ by_call (lifted say) (decode r) x
  unfolding decode decoded by_call lifted base-lists.by_call
  same_saying r x = go (base-records.decode r)
    where
      owned : {d : Decoded} → OwnCall d → x ≡ by_call (lifted say) d x
      owned none = refl
      owned (excludes a b) = refl
      owned (activates a b) = refl
      owned (deactivates a b) = refl

      go : (d : base-records.Decoded) → base-lists.by_call say d x ≡ by_call (lifted say) (decoded d r) x
      go base-records.malformed = owned (own_calls r)
      go (base-records.well_formed c) = refl

  pub history_seen : (x : Bool) (z : Sitting) (l : List (List ℕ)) → base-lists.history say x z.state (seen_by_state z l) ≡ history (lifted say) x z l
  unfolding base-lists.history history without_refused answers seen
  history_seen x z l =
      let change : List ℕ → Bool → Bool = λ r. base-lists.by_call say (base-records.decode r) in
      let accepted = unrefused is_refusal l (run step z l).0 in
      ap (trace change x) (none_refused z l)
      ∙ trace-chosen mine change silent x accepted
      ∙ trace_same change (λ r. by_call (lifted say) (decode r)) same_saying x accepted
