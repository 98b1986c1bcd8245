-- What the step of a sitting makes of a call of kinds 1 to 12 by the answer of document 01's keeper: a refusal leaves the sitting; an accepted change is left, unless 35 refuses it; an accepted request is left as it is, with what it switches off.
-- Assumes nothing.
use mathlib.Core.Path.{◌≡◌, refl, sym, ap, ap₂, ◌∙◌, subst}
use mathlib.Core.Bool.{Bool, true, false, ◌&&◌}
use mathlib.Core.List.{List, [], ◌∷◌}
use Prim.Native.Nat.{ℕ}
use native.Mathlib.Omega.{arith}
use lib.Dec.{T}
use lib.ListN.{length}
use Rattle.sets.proofs.Tests.{both}
use Rattle.graph.specs.Tables.{at, table}
use Rattle.graph.specs.Graph.{role_count}
use Rattle.graph.specs.Editing.{Change, add_by_place, add_by_privileges, remove_role, grant, withdraw, add_edge, remove_edge}
use Rattle.graph.specs.Refusing.{Verdict, passed, verdict}
use Rattle.graph.specs.Refusing as refusing
use Rattle.graph.specs.Reading.{read_verdict}
use Rattle.graph.specs.declared.Refusal.{Refusal}
use Rattle.std.specs.Prelude.{Result, Ok, Err}
use Rattle.graph.proofs.Tables.{length-table}
use Rattle.lists.specs.Settling as settling
use Rattle.seats.specs.Seats.{State, seat_count}
use Rattle.seats.specs.Calls.{Answer, accepted, answered, refused, judged, settle, is_refusal}
use Rattle.seats.specs.Calls as base
use Rattle.seats.specs.Records.{all_empty}
use Rattle.seats.specs.Reading.{read_answer, read_refusal, read_request}
use Rattle.seats.specs.Replies as code
use Rattle.seats.specs.declared.Reply.TheVariants as replies
use Rattle.seats.specs.declared.Request.TheVariants as requests
use Rattle.graph.specs.declared.Role.{Role}
use Rattle.seats.specs.declared.Seat.{Seat}
use Rattle.seats.proofs.JudgedCalls.{settle_refused, settle_passed}
use Rattle.seats.proofs.Settling as base-settling
use Rattle.sittings.specs.Sittings.{Sitting, still_active}
use Rattle.sittings.specs.Calls.{call, pair_together, drawn_checks, without_role, pairs_changed, pairs_after, active_after, perform}
use Rattle.sittings.specs.Reading.{sitting_of}
use Rattle.sittings.specs.Working.{followed}
use Rattle.sittings.proofs.Beside.{beside}
use Rattle.sittings.proofs.FilledTables.{table_whole}
use Rattle.sittings.proofs.Idle.{idle_pairs, idle_active, idle_passes}

-- What is accepted or refused is not answered with yes or no.
never_answered : {S : Type 0} (v : Verdict) (m h : S) {t : S} {b : Bool} → (answered b, t) ≡ settle v accepted m h → ⊥
unfolding settle judged settling.settle
never_answered {S} passed m h e = let x = ap (λ (y : Answer × S). y.0) e in let o : ◌≡◌ {A = ℕ} 0 1 = cc in omega arith
never_answered {S} (refusing.refused n p) m h e = let x = ap (λ (y : Answer × S). y.0) e in let o : ◌≡◌ {A = ℕ} 0 1 = cc in omega arith

-- ---- changes
-- The pairs that a change leaves are a table of all roles where those before it are.
pairs_whole : (c : Change) (P : List ℕ) → length P ≡ role_count → table role_count (at (pairs_changed c P)) ≡ pairs_changed c P
unfolding pairs_changed without_role
pairs_whole (remove_role a b) P w = table_whole role_count _ (length-table role_count _)
pairs_whole (add_by_place a own juniors seniors) P w = table_whole role_count P w
pairs_whole (add_by_privileges a own) P w = table_whole role_count P w
pairs_whole (grant a b) P w = table_whole role_count P w
pairs_whole (withdraw a b) P w = table_whole role_count P w
pairs_whole (add_edge a b) P w = table_whole role_count P w
pairs_whole (remove_edge a b) P w = table_whole role_count P w

module _ (z : Sitting) (c : Change) where
  -- A change that is refused leaves the sitting.
  pub change_refused : (r : Refusal) → (read_refusal r, z.state) ≡ base.perform z.state (base.change c) → (read_refusal r, z) ≡ perform z (call (base.change c))
  unfolding followed is_refusal
  change_refused r e = sym (beside z (base.change c) ∙ ap (followed z (base.change c)) (sym e))

  -- A change that is accepted, with the state h.
  module _ {h : State} (e : (accepted, h) ≡ base.perform z.state (base.change c)) where
    -- What is left where 35 does not refuse it.
    abbrev pub left : Sitting
    left = sitting_of h (pairs_changed c z.pairs) (still_active h z.active)

    -- Only 35 is left to be judged.
    judged_after : perform z (call (base.change c)) ≡ settle (verdict (pair_together left ∷ [])) accepted z left
    unfolding followed is_refusal drawn_checks pairs_after active_after
    judged_after = beside z (base.change c) ∙ ap (followed z (base.change c)) (sym e)

    -- Where there is no pair and nothing active, these stay as they are.
    pub idle_change : all_empty z.pairs && all_empty z.active ≡ true → length z.pairs ≡ role_count → length z.active ≡ seat_count
        → (accepted, sitting_of h z.pairs z.active) ≡ perform z (call (base.change c))
    idle_change i k l =
        let (p, q) = both (all_empty z.pairs) (all_empty z.active) (subst T (sym i) tt) in
        sym (judged_after
        ∙ ap₂ (λ (P A : List ℕ). settle (verdict (pair_together (sitting_of h P A) ∷ [])) accepted z (sitting_of h P A)) (idle_pairs c k p) (idle_active h l q)
        ∙ settle_passed accepted z _ (idle_passes (sitting_of h z.pairs z.active) p))

    module _ {v : Result (Unit {0}) Refusal} (f : read_verdict v ≡ verdict (pair_together left ∷ [])) where
      -- 35 refuses it.
      pub together_change : {r : Refusal} → v ≡ Err r → (read_refusal r, z) ≡ perform z (call (base.change c))
      unfolding read_verdict
      together_change x = sym (judged_after ∙ settle_refused accepted z left (sym f ∙ ap read_verdict x))

      -- Nothing refuses it, and all roles' pairs and all seats' active roles are stored.
      pub apart_change : v ≡ Ok tt → {P A : List ℕ} → P ≡ table role_count (at (pairs_changed c z.pairs)) → A ≡ still_active h z.active → length z.pairs ≡ role_count
          → (accepted, sitting_of h P A) ≡ perform z (call (base.change c))
      unfolding read_verdict
      apart_change x p q k =
          ap₂ (λ (P A : List ℕ). (accepted, sitting_of h P A)) (p ∙ pairs_whole c _ k) q
          ∙ sym (judged_after ∙ settle_passed accepted z left (sym f ∙ ap read_verdict x))

-- ---- requests
-- No request but kind 11 switches anything off.
pub none_off : (h : State) (A : List ℕ) (r : requests.the_data) → ((a : Seat) (b : Role) → r ≡ requests.Unassign a b → ⊥) → A ≡ active_after (read_request r) h A
unfolding read_request active_after
none_off h A (requests.Declare a b) o = refl
none_off h A (requests.Lift a b) o = refl
none_off h A (requests.Assign a b) o = refl
none_off h A (requests.Unassign a b) o = absurd (o a b refl)
none_off h A (requests.Ask a b) o = refl

module _ (z : Sitting) (r : requests.the_data) where
  -- No pair is judged for a request, and none goes.
  followed_request : {a : Answer} (h : State) → is_refusal a ≡ false → followed z (read_request r) (a, h) ≡ (a, sitting_of h z.pairs (active_after (read_request r) h z.active))
  unfolding followed drawn_checks pairs_after read_request verdict settle judged settling.settle
  followed_request {a} h e = go r
    where
      go : (r : requests.the_data) → followed z (read_request r) (a, h) ≡ (a, sitting_of h z.pairs (active_after (read_request r) h z.active))
      go (requests.Declare a b) = rw e
      go (requests.Lift a b) = rw e
      go (requests.Assign a b) = rw e
      go (requests.Unassign a b) = rw e
      go (requests.Ask a b) = rw e

  module _ (h : State) where
    -- An accepted request is left, with what it switches off.
    pub accepted_request : {a : code.Answer} → a ≡ Ok replies.Accepted → (read_answer a, h) ≡ base.perform z.state (read_request r) → {A : List ℕ} → A ≡ active_after (read_request r) h z.active
        → (read_answer a, sitting_of h z.pairs A) ≡ perform z (call (read_request r))
    unfolding read_answer is_refusal
    accepted_request {a} d e p =
        ap (λ (A : List ℕ). (read_answer a, sitting_of h z.pairs A)) p
        ∙ sym (beside z (read_request r) ∙ ap (followed z (read_request r)) (sym e) ∙ followed_request h (ap (λ (x : code.Answer). is_refusal (read_answer x)) d))

    -- A request that is answered with yes or no switches nothing off.
    answered_keeps : {b : Bool} → (answered b, h) ≡ base.perform z.state (read_request r) → active_after (read_request r) h z.active ≡ z.active
    unfolding active_after read_request base.perform base.reply
    answered_keeps {b} = go r
      where
        go : (r : requests.the_data) → (answered b, h) ≡ base.perform z.state (read_request r) → active_after (read_request r) h z.active ≡ z.active
        go (requests.Declare x y) e = refl
        go (requests.Lift x y) e = refl
        go (requests.Assign x y) e = refl
        go (requests.Unassign x y) e = absurd (never_answered _ _ _ e)
        go (requests.Ask x y) e = refl

    -- A request that is refused leaves the sitting.
    pub refused_request : (f : Refusal) → (read_refusal f, h) ≡ base.perform z.state (read_request r) → (read_refusal f, sitting_of h z.pairs z.active) ≡ perform z (call (read_request r))
    unfolding is_refusal followed
    refused_request f e =
        let same : h ≡ z.state = ap (λ (y : Answer × State). y.1) e ∙ base-settling.perform_refused z.state (read_request r) (subst (λ (y : Answer × State). T (is_refusal y.0)) e tt) in
        ap (λ (s : State). (read_refusal f, sitting_of s z.pairs z.active)) same
        ∙ sym (beside z (read_request r) ∙ ap (followed z (read_request r)) (sym e))

    -- A request that is answered with yes or no leaves the active roles.
    answered_request : (b : Bool) → (answered b, h) ≡ base.perform z.state (read_request r) → (answered b, sitting_of h z.pairs z.active) ≡ perform z (call (read_request r))
    unfolding is_refusal
    answered_request b e =
        sym (beside z (read_request r) ∙ ap (followed z (read_request r)) (sym e) ∙ followed_request h refl ∙ ap (λ (A : List ℕ). (answered b, sitting_of h z.pairs A)) (answered_keeps e))

    -- So does a request with any answer but accepted.
    pub other_request : (a : code.Answer) → (a ≡ Ok replies.Accepted → ⊥) → (read_answer a, h) ≡ base.perform z.state (read_request r)
        → (read_answer a, sitting_of h z.pairs z.active) ≡ perform z (call (read_request r))
    unfolding read_answer
    other_request (Ok replies.Accepted) o e = absurd (o refl)
    other_request (Ok (replies.Answered b)) o e = answered_request b e
    other_request (Err f) o e = refused_request f e
