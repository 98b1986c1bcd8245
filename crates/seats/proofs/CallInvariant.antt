-- Every accepted call keeps the invariants.
-- Assumes nothing.
use mathlib.Core.Path.{◌≡◌, sym, ◌∙◌, subst}
use mathlib.Core.Bool.{not, ◌&&◌}
use mathlib.Core.Logic.{◌≢◌, ◌⊎◌, inl, inr}
use mathlib.Core.List.{List}
use Prim.Native.Nat.{ℕ, ◌<◌}
use native.Mathlib.Omega.{arith}
use lib.Dec.{T, eqb}
use Rattle.sets.specs.Sets.{member, single}
use Rattle.sets.proofs.Tests.{both, join, either, so, test_equal}
use Rattle.sets.proofs.Counting.{some-any}
use Rattle.sets.proofs.Members.{union_left, difference_in, in_single, in_gather, gather_in}
use Rattle.graph.specs.Tables.{at, take_out}
use Rattle.graph.specs.Graph.{Graph, role_count, privilege_count, ordinary, present, effective}
use Rattle.graph.specs.Conflicts.{declared, same_pair, holds_both, holds_pair}
use Rattle.graph.specs.Conflicts as conflicts
use Rattle.graph.specs.Drawing.{redraw}
use Rattle.graph.specs.Editing.{Change, add_by_place, add_by_privileges, remove_role, grant, withdraw, add_edge, remove_edge, edit, changed}
use Rattle.graph.specs.Refusing.{input_checks, state_checks, still_below, closed_checks, declare_checks, lift_checks, offered_role, Passes}
use Rattle.graph.specs.Invariants.{Formed, Distinct, Paired}
use Rattle.graph.proofs.Tables.{entry_in, put_test, put_table, take_out_test, take_out_table}
use Rattle.graph.proofs.Order.{ordinary_parts, ordinary_join, ordinary_lt, not-end, present_cases}
use Rattle.graph.proofs.Conflicts.{conflict_parts, pair_found, pair_holds, pair_more, declared_in_order, declare_test, lift_test, declare_paired, lift_paired, conflict-lt}
use Rattle.graph.proofs.Edits.{Fits, changed_formed}
use Rattle.graph.proofs.Refusals.{parts, number_lt, not_equal, closed-from, closed_goes}
use Rattle.seats.specs.Seats.{State, seat_count, assigned, held, pair_seat, offered_seat}
use Rattle.seats.specs.Calls.{Call, change, declare, lift, assign, unassign, ask, seat_checks, checks, with_graph, with_conflicts, with_seats, after}
use Rattle.seats.specs.Invariants.{Invariant}

-- The sets that a call carries have their width.
unfoldable pub FitsCall : Call → Type 0
FitsCall (change c) = Fits c
FitsCall (declare a b) = Unit {0}
FitsCall (lift a b) = Unit {0}
FitsCall (assign a b) = Unit {0}
FitsCall (unassign a b) = Unit {0}
FitsCall (ask a b) = Unit {0}

-- ---- kinds 1 to 7
-- A role that a seat has stays: 24 refuses its removal.
stays : (s : State) (c : Change) → Passes (seat_checks s c) → (i r : ℕ) → i < seat_count → T (assigned s i r) → T (member r s.graph.roles) → T (member r (changed s.graph c).roles)
unfolding changed edit redraw seat_checks Passes
stays s (add_by_place a own juniors seniors) t i r l m u = union_left r s.graph.roles (single a) u
stays s (add_by_privileges a own) t i r l m u = union_left r s.graph.roles (single a) u
stays s (remove_role a b) (n, _) i r l m u =
    difference_in r s.graph.roles (single a) u
    (λ e. n (some-any seat_count (λ j. assigned s j a) i l (subst (λ (k : ℕ). T (assigned s i k)) (in_single r a e) m)))
stays s (grant a b) t i r l m u = u
stays s (withdraw a b) t i r l m u = u
stays s (add_edge a b) t i r l m u = u
stays s (remove_edge a b) t i r l m u = u

-- A seat that has a role has a seat number.
pub seat_lt : (s : State) → Invariant s → (i r : ℕ) → T (assigned s i r) → i < seat_count
unfolding assigned
seat_lt s v i r m = subst (λ (n : ℕ). i < n) v.seats.whole (entry_in s.seats i r m)

change_keeps : (s : State) (c : Change) → Fits c → Invariant s → Passes (checks s (change c) (after s (change c))) → Invariant (after s (change c))
unfolding checks after with_graph changed assigned held Passes
change_keeps s c f v t =
    let (t2, u2) = parts (input_checks c) _ t in
    let (t20, u3) = parts (state_checks s.graph c) _ u2 in
    let (t24, u4) = parts (seat_checks s c) _ u3 in
    let (t26, u5) = parts (still_below (changed s.graph c) c) _ u4 in
    let (t27, t30) = parts (closed_checks (changed s.graph c)) _ u5 in
    let formed = changed_formed s.graph v.graph.formed c f t2 t20 in
    let (distinct, free) = closed-from (changed s.graph c) formed t27 in
    record {
      graph = record { formed = formed; distinct = distinct; paired = v.graph.paired; pair_free = free };
      seats = v.seats;
      seated = λ i r m. (let (two, u) = ordinary_parts s.graph r (v.seated i r m) in ordinary_join (changed s.graph c) r two (stays s c t24 i r (seat_lt s v i r m) m u));
      seat_free = λ i l x. t30.0 (some-any seat_count (pair_seat (after s (change c))) i l x);
    }

-- ---- kinds 8 and 9
-- The graph's form does not depend on its conflicts.
formed_with : (g : Graph) (C : List ℕ) → Formed g → Formed (record { roles = g.roles; sets = g.sets; conflicts = C })
unfolding ordinary present effective
formed_with g C w = record {
  roles_lt = w.roles_lt;
  roles_ordinary = w.roles_ordinary;
  sets = w.sets;
  held = w.held;
  top_whole = w.top_whole;
}

distinct_with : (g : Graph) (C : List ℕ) → Distinct g → Distinct (record { roles = g.roles; sets = g.sets; conflicts = C })
unfolding ordinary effective
distinct_with g C d = record { non_empty = d.non_empty; different = d.different }

-- A pair that a set holds after declaring is a former one, or that of a and b.
pub new_pair : {C : List ℕ} → Paired privilege_count C → (a b : ℕ) → a < privilege_count → b < privilege_count → a ≢ b → (x : ℕ)
    → T (holds_pair (conflicts.declare C a b) x) → T (holds_pair C x) ⊎ T (holds_both a b x)
unfolding holds_both
new_pair {C} w a b ka kb d x t =
    let (p, q, m, n, u) = pair_found (conflicts.declare C a b) x t in
    let l = (conflict_parts (conflicts.declare C a b) p q u).0 in
    let k = conflict-lt (declare_paired w a b ka kb d) p q u in
    let z = subst T (sym (declared_in_order (conflicts.declare C a b) p q l) ∙ declare_test w a b ka kb d p q) u in
    elim (either (declared C p q) (same_pair p q a b) z) [
      | inl y ↦ inl (pair_holds C x p q k m n (subst T (declared_in_order C p q l) y))
      | inr y ↦ inr (elim (either (eqb p a && eqb q b) (eqb p b && eqb q a) y) [
        | inl e ↦ (let (f, h) = both (eqb p a) (eqb q b) e in both_in p q m n (test_equal f) (test_equal h))
        | inr e ↦ (let (f, h) = both (eqb p b) (eqb q a) e in both_in q p n m (test_equal h) (test_equal f))
      ])
    ]
  where
    both_in : (p q : ℕ) → T (member p x) → T (member q x) → p ≡ a → q ≡ b → T (member a x && member b x)
    both_in p q m n f h = join (member a x) (member b x) (subst (λ (i : ℕ). T (member i x)) f m) (subst (λ (i : ℕ). T (member i x)) h n)

declare_keeps : (s : State) (a b : ℕ) → Invariant s → Passes (checks s (declare a b) (after s (declare a b))) → Invariant (after s (declare a b))
unfolding checks declare_checks after with_conflicts with_graph pair_seat offered_seat held assigned effective offered_role ordinary Passes
declare_keeps s a b v (na, (nb, (d, (_, (t29, (t30, _)))))) =
    let g = s.graph in
    let ka = number_lt privilege_count a na in
    let kb = number_lt privilege_count b nb in
    let d' = not_equal a b d in
    let w = v.graph.paired in
    record {
      graph = record {
        formed = formed_with g (conflicts.declare g.conflicts a b) v.graph.formed;
        distinct = distinct_with g (conflicts.declare g.conflicts a b) v.graph.distinct;
        paired = declare_paired w a b ka kb d';
        pair_free = λ r o t. elim (new_pair w a b ka kb d' (effective g r) t) [
          | inl x ↦ v.graph.pair_free r o x
          | inr x ↦ t29 (some-any role_count (offered_role g a b) r (ordinary_lt g r v.graph.formed.roles_lt o) (join (ordinary g r) (holds_both a b (effective g r)) o x))
        ];
      };
      seats = v.seats;
      seated = v.seated;
      seat_free = λ i l t. elim (new_pair w a b ka kb d' (held s i) t) [
        | inl x ↦ v.seat_free i l x
        | inr x ↦ t30 (some-any seat_count (offered_seat s a b) i l x)
      ];
    }

-- A pair that a set holds after lifting is a former one.
old_pair : {C : List ℕ} → Paired privilege_count C → (a b : ℕ) → a < privilege_count → b < privilege_count → (x : ℕ) → T (holds_pair (conflicts.lift C a b) x) → T (holds_pair C x)
old_pair {C} w a b ka kb x t =
    pair_more (conflicts.lift C a b) C x x (λ p m. m)
    (λ p q u.
    let l = (conflict_parts (conflicts.lift C a b) p q u).0 in
    let z = subst T (sym (declared_in_order (conflicts.lift C a b) p q l) ∙ lift_test w a b ka kb p q) u in
    (conflict-lt (lift_paired w a b ka kb) p q u, subst T (declared_in_order C p q l) (both (declared C p q) (not (same_pair p q a b)) z).0))
    t

lift_keeps : (s : State) (a b : ℕ) → Invariant s → Passes (checks s (lift a b) (after s (lift a b))) → Invariant (after s (lift a b))
unfolding checks lift_checks after with_conflicts with_graph pair_seat held assigned effective ordinary Passes
lift_keeps s a b v (na, (nb, _)) =
    let g = s.graph in
    let ka = number_lt privilege_count a na in
    let kb = number_lt privilege_count b nb in
    let w = v.graph.paired in
    record {
      graph = record {
        formed = formed_with g (conflicts.lift g.conflicts a b) v.graph.formed;
        distinct = distinct_with g (conflicts.lift g.conflicts a b) v.graph.distinct;
        paired = lift_paired w a b ka kb;
        pair_free = λ r o t. v.graph.pair_free r o (old_pair w a b ka kb (effective g r) t);
      };
      seats = v.seats;
      seated = v.seated;
      seat_free = λ i l t. v.seat_free i l (old_pair w a b ka kb (held s i) t);
    }

-- Kinds 8 and 10 change no role's set, and on a state with the invariants 27 to 29 find nothing as it is.
pub unjudged_finds_nothing : (s : State) → Invariant s → Passes (closed_checks s.graph)
unjudged_finds_nothing s v = closed_goes s.graph v.graph.distinct v.graph.pair_free

-- ---- kinds 10 and 11
assign_keeps : (s : State) (a b : ℕ) → Invariant s → Passes (checks s (assign a b) (after s (assign a b))) → Invariant (after s (assign a b))
unfolding checks after with_seats assigned Passes
assign_keeps s a b v (na, (nb, (e, (p, (_, (t30, _)))))) =
    let ka = number_lt seat_count a na in
    let kb = number_lt role_count b nb in
    record {
      graph = v.graph;
      seats = put_table v.seats a b ka kb;
      seated = λ i r m. elim (either (member r (at s.seats i)) (eqb i a && eqb r b) (subst T (put_test v.seats a b ka i r) m)) [
        | inl x ↦ v.seated i r x
        | inr x ↦ subst (λ (k : ℕ). T (ordinary s.graph k)) (sym (test_equal (both (eqb i a) (eqb r b) x).1)) (there (so (present s.graph b) p))
      ];
      seat_free = λ i l t. t30 (some-any seat_count (pair_seat (after s (assign a b))) i l t);
    }
  where
    there : T (present s.graph b) → T (ordinary s.graph b)
    there u = elim (present_cases s.graph b u) [ inl l ↦ absurd (let x = not-end b e in omega arith) | inr o ↦ o ]

-- What a seat holds is in what its roles hold with more of them.
held-more : (s : State) (W : List ℕ) (i : ℕ) → ((r : ℕ) → T (member r (at W i)) → T (assigned s i r)) → (p : ℕ) → T (member p (held (with_seats s W) i)) → T (member p (held s i))
unfolding held assigned with_seats
held-more s W i f p m =
    let (r, l, x, y) = in_gather p role_count (λ r. member r (at W i)) (effective s.graph) m in
    gather_in p role_count (λ r. member r (at s.seats i)) (effective s.graph) r l (f r x) y

unassign_keeps : (s : State) (a b : ℕ) → Invariant s → Passes (checks s (unassign a b) (after s (unassign a b))) → Invariant (after s (unassign a b))
unfolding checks after assigned pair_seat with_seats Passes
unassign_keeps s a b v (na, (nb, _)) =
    let ka = number_lt seat_count a na in
    record {
      graph = v.graph;
      seats = take_out_table v.seats a b ka;
      seated = λ i r m. v.seated i r (fewer ka i r m);
      seat_free = λ i l t. v.seat_free i l (pair_more s.graph.conflicts s.graph.conflicts _ _ (held-more s (take_out s.seats a b) i (fewer ka i)) (λ p q u. (conflict-lt v.graph.paired p q u, u)) t);
    }
  where
    fewer : a < seat_count → (i r : ℕ) → T (member r (at (take_out s.seats a b) i)) → T (member r (at s.seats i))
    fewer ka i r m = (both (member r (at s.seats i)) (not (eqb i a && eqb r b)) (subst T (take_out_test v.seats a b ka i r) m)).0

-- Every call that nothing refuses keeps the invariants.
pub call_keeps : (s : State) (c : Call) → FitsCall c → Invariant s → Passes (checks s c (after s c)) → Invariant (after s c)
unfolding FitsCall after
call_keeps s (change c) f v t = change_keeps s c f v t
call_keeps s (declare a b) f v t = declare_keeps s a b v t
call_keeps s (lift a b) f v t = lift_keeps s a b v t
call_keeps s (assign a b) f v t = assign_keeps s a b v t
call_keeps s (unassign a b) f v t = unassign_keeps s a b v t
call_keeps s (ask a b) f v t = v
