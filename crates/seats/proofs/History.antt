-- After a list, the ordinary roles, the conflicts and the seats' roles are those that its accepted calls say.
-- Assumes nothing.
use mathlib.Core.Path.{◌≡◌, refl, sym, ap, ◌∙◌, subst}
use mathlib.Core.Bool.{Bool, not, ◌&&◌, ◌||◌}
use mathlib.Core.List.{List}
use Prim.Native.Nat.{ℕ}
use lib.Dec.{T, not_T, eqb}
use Rattle.sets.specs.Sets.{member, single, union}
use Rattle.sets.proofs.Tests.{or_out, and_regroup, test_equal}
use Rattle.sets.proofs.Laws.{member-union, member-difference, member-single}
use Rattle.lists.specs.Runs.{Each}
use Rattle.lists.proofs.Runs.{run_trace}
use Rattle.graph.specs.Graph.{Graph, privilege_count, is_end, ordinary}
use Rattle.graph.specs.Conflicts.{declared}
use Rattle.graph.specs.Drawing.{redraw}
use Rattle.graph.specs.Editing.{Change, add_by_place, add_by_privileges, remove_role, grant, withdraw, add_edge, remove_edge, edit, changed}
use Rattle.graph.specs.Refusing.{input_checks, declare_checks, lift_checks, Passes}
use Rattle.graph.proofs.Tables.{put_test, take_out_test}
use Rattle.graph.proofs.Conflicts.{declare_test, lift_test}
use Rattle.graph.proofs.Refusals.{parts, number_lt, not_equal}
use Rattle.seats.specs.Bytes.{Bytes}
use Rattle.seats.specs.Seats.{State, seat_count, assigned}
use Rattle.seats.specs.Calls.{Call, change, declare, lift, assign, unassign, ask, Answer, checks, with_graph, with_conflicts, with_seats, after, is_refusal}
use Rattle.seats.specs.Records.{Decoded, decode, perform_decoded, step}
use Rattle.seats.specs.Lists.{answers, end, without_refused, presence_change, presence, declaration, assignment, by_call, history}
use Rattle.seats.specs.Invariants.{Invariant}
use Rattle.seats.proofs.Settling.{refused_leaves, accepted_carries}
use Rattle.seats.proofs.RecordInvariant.{step_keeps}

-- ---- roles
added_role : (roles a r : ℕ) → (T (is_end a) → ⊥) → not (is_end r) && member r (union roles (single a)) ≡ (not (is_end r) && member r roles) || eqb r a
added_role roles a r n =
    ap (λ (x : Bool). not (is_end r) && x) (member-union r roles (single a) ∙ ap (λ (x : Bool). member r roles || x) (member-single r a))
    ∙ or_out (not (is_end r)) (member r roles) (eqb r a) (λ t. not_T (is_end r) (λ e. n (subst (λ (i : ℕ). T (is_end i)) (test_equal t) e)))

pub change_ordinary : (r : ℕ) (g : Graph) (c : Change) → Passes (input_checks c) → ordinary (changed g c) r ≡ presence_change r c (ordinary g r)
unfolding ordinary changed edit redraw presence_change input_checks Passes
change_ordinary r g (add_by_place a own juniors seniors) (_, (n, _)) = added_role g.roles a r n
change_ordinary r g (add_by_privileges a own) (_, (n, _)) = added_role g.roles a r n
change_ordinary r g (remove_role a b) t =
    ap (λ (x : Bool). not (is_end r) && x) (member-difference r g.roles (single a) ∙ ap (λ (x : Bool). member r g.roles && not x) (member-single r a))
    ∙ and_regroup (not (is_end r)) (member r g.roles) (not (eqb r a))
change_ordinary r g (grant a b) t = refl
change_ordinary r g (withdraw a b) t = refl
change_ordinary r g (add_edge a b) t = refl
change_ordinary r g (remove_edge a b) t = refl

pub call_ordinary : (r : ℕ) (s : State) (c : Call) → Passes (checks s c (after s c)) → ordinary (after s c).graph r ≡ presence r c (ordinary s.graph r)
unfolding checks after with_graph with_conflicts with_seats presence ordinary
call_ordinary r s (change c) t = change_ordinary r s.graph c (parts (input_checks c) _ t).0
call_ordinary r s (declare a b) t = refl
call_ordinary r s (lift a b) t = refl
call_ordinary r s (assign a b) t = refl
call_ordinary r s (unassign a b) t = refl
call_ordinary r s (ask a b) t = refl

-- ---- conflicts
pub call_declared : (p q : ℕ) (s : State) (c : Call) → Invariant s → Passes (checks s c (after s c))
    → declared (after s c).graph.conflicts p q ≡ declaration p q c (declared s.graph.conflicts p q)
unfolding checks declare_checks lift_checks after with_graph with_conflicts with_seats changed declaration Passes
call_declared p q s (change c) v t = refl
call_declared p q s (declare a b) v (na, (nb, (d, _))) = declare_test v.graph.paired a b (number_lt privilege_count a na) (number_lt privilege_count b nb) (not_equal a b d) p q
call_declared p q s (lift a b) v (na, (nb, _)) = lift_test v.graph.paired a b (number_lt privilege_count a na) (number_lt privilege_count b nb) p q
call_declared p q s (assign a b) v t = refl
call_declared p q s (unassign a b) v t = refl
call_declared p q s (ask a b) v t = refl

-- ---- seats
pub call_assigned : (i r : ℕ) (s : State) (c : Call) → Invariant s → Passes (checks s c (after s c)) → assigned (after s c) i r ≡ assignment i r c (assigned s i r)
unfolding checks after with_graph with_conflicts with_seats assigned assignment Passes
call_assigned i r s (change c) v t = refl
call_assigned i r s (declare a b) v t = refl
call_assigned i r s (lift a b) v t = refl
call_assigned i r s (assign a b) v (na, _) = put_test v.seats a b (number_lt seat_count a na) i r
call_assigned i r s (unassign a b) v (na, _) = take_out_test v.seats a b (number_lt seat_count a na) i r
call_assigned i r s (ask a b) v t = refl

-- ---- lists
-- A part of the state of which each accepted call says what it becomes is, after a list, what the list's accepted calls say.
module _ (part : State → Bool) (say : Call → Bool → Bool) (by : (s : State) (c : Call) → Invariant s → Passes (checks s c (after s c)) → part (after s c) ≡ say c (part s)) where
  by_record : (s : State) (r : List ℕ) → Invariant s → T (not (is_refusal (step s r).0)) → part (step s r).1 ≡ by_call say (decode r) (part s)
  unfolding step perform_decoded by_call
  by_record s r v t =
      let k = accepted_carries s r t in
      ap (λ (d : Decoded). part (perform_decoded s d).1) k.decodes
      ∙ ap (λ (z : Answer × State). part z.1) k.accepts.answer
      ∙ by s k.call v k.accepts.passes
      ∙ sym (ap (λ (d : Decoded). by_call say d (part s)) k.decodes)

  pub after_list : (s : State) (l : List (List ℕ)) → Each Bytes l → Invariant s → part (end s l) ≡ history say (part s) s l
  unfolding end history without_refused answers
  after_list s l o v = run_trace step is_refusal refused_leaves part (λ r. by_call say (decode r)) Bytes Invariant step_keeps by_record s l o v

pub roles_after : (r : ℕ) (s : State) (l : List (List ℕ)) → Each Bytes l → Invariant s → ordinary (end s l).graph r ≡ history (presence r) (ordinary s.graph r) s l
roles_after r = after_list (λ s. ordinary s.graph r) (presence r) (λ s c v t. call_ordinary r s c t)

pub conflicts_after : (p q : ℕ) (s : State) (l : List (List ℕ)) → Each Bytes l → Invariant s → declared (end s l).graph.conflicts p q ≡ history (declaration p q) (declared s.graph.conflicts p q) s l
conflicts_after p q = after_list (λ s. declared s.graph.conflicts p q) (declaration p q) (call_declared p q)

pub seats_after : (i r : ℕ) (s : State) (l : List (List ℕ)) → Each Bytes l → Invariant s → assigned (end s l) i r ≡ history (assignment i r) (assigned s i r) s l
seats_after i r = after_list (λ s. assigned s i r) (assignment i r) (call_assigned i r)
