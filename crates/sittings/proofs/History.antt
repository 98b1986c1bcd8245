-- After a list, the pairs and the active roles are those that its accepted calls say.
-- Assumes nothing.
use mathlib.Core.Path.{◌≡◌, refl, sym, ap, ◌∙◌}
use mathlib.Core.Bool.{Bool, true, false, not, ◌&&◌, ◌||◌}
use mathlib.Core.List.{List}
use Prim.Native.Nat.{ℕ, min, max}
use native.Mathlib.Decide.{dec_lt}
use native.Mathlib.Omega.{arith}
use lib.Dec.{T, eqb}
use Rattle.sets.specs.Sets.{member}
use Rattle.lists.specs.Runs.{Each}
use Rattle.lists.proofs.Runs.{run_trace, run_trace_in}
use Rattle.graph.specs.Tables.{at}
use Rattle.graph.specs.Graph.{role_count}
use Rattle.graph.specs.Conflicts.{conflict, declared}
use Rattle.graph.specs.Editing.{Change, add_by_place, add_by_privileges, remove_role, grant, withdraw, add_edge, remove_edge}
use Rattle.graph.specs.Refusing.{Passes}
use Rattle.graph.specs.Invariants.{Paired}
use Rattle.graph.proofs.Tables.{put_test, take_out_test}
use Rattle.graph.proofs.Conflicts.{declare_test}
use Rattle.graph.proofs.Refusals.{number_lt, not_equal}
use Rattle.seats.specs.Bytes.{Bytes}
use Rattle.seats.specs.Seats.{State, seat_count}
use Rattle.seats.specs.Calls.{Answer, is_refusal}
use Rattle.seats.specs.Calls as base
use Rattle.sittings.specs.Sittings.{Sitting, excluded, is_active, covered}
use Rattle.sittings.specs.Calls.{Call, call, exclude, activate, deactivate, checks, pairs_changed, pairs_after, after}
use Rattle.sittings.specs.Records.{Decoded, decode, perform_decoded, step}
use Rattle.sittings.specs.Lists.{answers, end, without_refused, exclusion_change, exclusion_call, exclusion, activity, by_call, history, history_in}
use Rattle.sittings.specs.Invariants.{Invariant}
use Rattle.sittings.proofs.Settling.{refused_leaves, Carries, accepted_carries}
use Rattle.sittings.proofs.StillActive.{still_test}
use Rattle.sittings.proofs.WithoutRole.{without_conflict}
use Rattle.sittings.proofs.CallInvariant.{base_passes, switched_off}
use Rattle.sittings.proofs.RecordInvariant.{step_keeps}

-- ---- pairs
-- One of two numbers is a, whichever is the lower.
one_of : (p q a : ℕ) → eqb (min p q) a || eqb (max p q) a ≡ eqb p a || eqb q a
one_of p q a =
    elim (dec_lt p q) [
      | yes l ↦ (let e : min p q ≡ p = omega arith in let f : max p q ≡ q = omega arith in rw (e, f))
      | no d ↦ (let e : min p q ≡ q = omega arith in let f : max p q ≡ p = omega arith in rw (e, f) (swapped (eqb q a) (eqb p a)))
    ]
  where
    swapped : (x y : Bool) → x || y ≡ y || x
    swapped true true = refl
    swapped true false = refl
    swapped false true = refl
    swapped false false = refl

module _ (p q : ℕ) where
  change_excludes : (c : Change) {P : List ℕ} → Paired role_count P → declared (pairs_changed c P) p q ≡ exclusion_change p q c (declared P p q)
  unfolding declared pairs_changed exclusion_change
  change_excludes (remove_role a b) {P} w =
      without_conflict a w.table (min p q) (max p q) ∙ ap (λ (x : Bool). conflict P (min p q) (max p q) && not x) (one_of p q a)
  change_excludes (add_by_place a own juniors seniors) w = refl
  change_excludes (add_by_privileges a own) w = refl
  change_excludes (grant a b) w = refl
  change_excludes (withdraw a b) w = refl
  change_excludes (add_edge a b) w = refl
  change_excludes (remove_edge a b) w = refl

  base_excludes : (c : base.Call) {P : List ℕ} → Paired role_count P → declared (pairs_after c P) p q ≡ exclusion_call p q c (declared P p q)
  unfolding pairs_after exclusion_call
  base_excludes (base.change c) w = change_excludes c w
  base_excludes (base.declare a b) w = refl
  base_excludes (base.lift a b) w = refl
  base_excludes (base.assign a b) w = refl
  base_excludes (base.unassign a b) w = refl
  base_excludes (base.ask a b) w = refl

  pub call_excludes : (z : Sitting) (c : Call) → Invariant z → Passes (checks z c (after z c)) → excluded (after z c) p q ≡ exclusion p q c (excluded z p q)
  unfolding excluded checks after exclusion Passes
  call_excludes z (call c) v t = base_excludes c v.paired
  call_excludes z (exclude a b) v (na, (nb, (_, (_, (d, _))))) = declare_test v.paired a b (number_lt role_count a na) (number_lt role_count b nb) (not_equal a b d) p q
  call_excludes z (activate a b) v t = refl
  call_excludes z (deactivate a b) v t = refl

-- ---- active roles
module _ (i r : ℕ) where
  base_activates : (z : Sitting) (c : base.Call) → Invariant z → Passes (checks z (call c) (after z (call c))) → is_active (after z (call c)) i r ≡ is_active z i r && covered (after z (call c)).state i r
  unfolding after is_active
  base_activates z c v t =
      ap (λ (A : List ℕ). member r (at A i)) (switched_off z v c (base_passes z c t).0) ∙ still_test v.active (base.after z.state c) i r

  pub call_activates : (z : Sitting) (c : Call) → Invariant z → Passes (checks z c (after z c)) → is_active (after z c) i r ≡ activity i r c (after z c).state (is_active z i r)
  unfolding activity checks after is_active Passes
  call_activates z (call c) v t = base_activates z c v t
  call_activates z (exclude a b) v t = refl
  call_activates z (activate a b) v (na, _) = put_test v.active a b (number_lt seat_count a na) i r
  call_activates z (deactivate a b) v (na, _) = take_out_test v.active a b (number_lt seat_count a na) i r

-- ---- lists
-- What an accepted record leaves is what its call leaves.
carried_on : (z : Sitting) (l : List ℕ) (k : Carries z l) → (step z l).1 ≡ after z k.call
unfolding step perform_decoded
carried_on z l k = ap (λ (d : Decoded). (perform_decoded z d).1) k.decodes ∙ ap (λ (y : Answer × Sitting). y.1) k.accepts.answer

-- What each accepted call says of a part of the sitting, with the state that it leaves, its record says.
module _ (part : Sitting → Bool) (say : Call → State → Bool → Bool)
    (by : (z : Sitting) (c : Call) → Invariant z → Passes (checks z c (after z c)) → part (after z c) ≡ say c (after z c).state (part z)) where
  by_record : (z : Sitting) (r : List ℕ) → Invariant z → T (not (is_refusal (step z r).0)) → part (step z r).1 ≡ by_call (λ c. say c (step z r).1.state) (decode r) (part z)
  unfolding by_call
  by_record z r v t =
      let k = accepted_carries z r t in
      let e = carried_on z r k in
      ap part e
      ∙ by z k.call v k.accepts.passes
      ∙ sym (ap (λ (y : Sitting). say k.call y.state (part z)) e)
      ∙ sym (ap (λ (d : Decoded). by_call (λ c. say c (step z r).1.state) d (part z)) k.decodes)

-- The pairs at the end, by the accepted calls.
pub pairs_after_list : (p q : ℕ) (z : Sitting) (l : List (List ℕ)) → Each Bytes l → Invariant z → excluded (end z l) p q ≡ history (exclusion p q) (excluded z p q) z l
unfolding end history without_refused answers
pairs_after_list p q z l o v =
    run_trace step is_refusal refused_leaves (λ z. excluded z p q) (λ r. by_call (exclusion p q) (decode r)) Bytes Invariant step_keeps
    (by_record (λ z. excluded z p q) (λ c _. exclusion p q c) (call_excludes p q)) z l o v

-- The active roles at the end, by the accepted calls and the states that they left.
pub active_after_list : (i r : ℕ) (z : Sitting) (l : List (List ℕ)) → Each Bytes l → Invariant z → is_active (end z l) i r ≡ history_in (activity i r) (is_active z i r) z l
unfolding end history_in
active_after_list i r z l o v =
    run_trace_in step is_refusal refused_leaves (λ z. is_active z i r) (λ x h. by_call (λ c. activity i r c h.state) (decode x)) Bytes Invariant step_keeps
    (by_record (λ z. is_active z i r) (activity i r) (call_activates i r)) z l o v
