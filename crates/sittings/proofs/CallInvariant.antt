-- Every accepted call keeps the sitting's invariants, and a sitting that begins has them.
-- Assumes nothing.
use mathlib.Core.Path.{◌≡◌, refl, sym, ap, ◌∙◌, subst}
use mathlib.Core.Bool.{Bool, not, ◌&&◌, ◌||◌}
use mathlib.Core.Logic.{inl, inr}
use mathlib.Core.List.{List, ◌++◌}
use Prim.Native.Nat.{ℕ, ◌<◌}
use native.Mathlib.Omega.{arith}
use lib.Dec.{T, T_not, not_T, eqb, ltb, lt→ltb}
use lib.ListN.{replicate}
use Rattle.sets.specs.Counting.{any}
use Rattle.sets.specs.Sets.{empty, member}
use Rattle.sets.proofs.Tests.{both, join, either, or_left, or_right, so, test_equal}
use Rattle.sets.proofs.Counting.{any-some, some-any}
use Rattle.sets.proofs.Members.{in_empty}
use Rattle.graph.specs.Tables.{at, put, take_out}
use Rattle.graph.specs.Graph.{Graph, role_count, is_end, ordinary, present, effective}
use Rattle.graph.specs.Conflicts.{conflict, declared, same_pair}
use Rattle.graph.specs.Conflicts as conflicts
use Rattle.graph.specs.Drawing.{below}
use Rattle.graph.specs.Editing.{Change, add_by_place, add_by_privileges, remove_role, grant, withdraw, add_edge, remove_edge}
use Rattle.graph.specs.Refusing.{Check, Passes}
use Rattle.graph.specs.Invariants.{Table, Paired}
use Rattle.graph.proofs.Tables.{at-replicate, put_test, put_table, take_out_test, take_out_table}
use Rattle.graph.proofs.Order.{ordinary_parts, not-end, present_cases}
use Rattle.graph.proofs.Conflicts.{conflict_parts, conflict-lt, declared_in_order, declare_test, declare_paired}
use Rattle.graph.proofs.Refusals.{parts, number_lt, not_equal}
use Rattle.seats.specs.Seats.{State, seat_count, assigned}
use Rattle.seats.specs.Calls.{seat_role_checks}
use Rattle.seats.specs.Calls as base
use Rattle.seats.specs.Lists.{presence_change, presence}
use Rattle.seats.specs.Invariants as base-invariants
use Rattle.seats.proofs.CallInvariant as base-keeping
use Rattle.seats.proofs.FreshInvariant.{empty-table}
use Rattle.seats.proofs.History.{call_ordinary}
use Rattle.sittings.specs.Sittings.{Sitting, begun, is_active, covered, together, clashing, still_active}
use Rattle.sittings.specs.Calls.{Call, call, exclude, activate, deactivate, drawn_checks, checks, pairs_changed, pairs_after, active_after, after}
use Rattle.sittings.specs.Invariants.{Invariant}
use Rattle.sittings.specs.Reading.{sitting_of}
use Rattle.sittings.proofs.Reaches.{reach_more, reached_ordinary, together-more}
use Rattle.sittings.proofs.StillActive.{still_table, still, still_all, still_at}
use Rattle.sittings.proofs.WithoutRole.{without_conflict, without_paired}

-- The sets that a call carries have their width.
unfoldable pub FitsCall : Call → Type 0
FitsCall (call c) = base-keeping.FitsCall c
FitsCall (exclude a b) = Unit {0}
FitsCall (activate a b) = Unit {0}
FitsCall (deactivate a b) = Unit {0}

-- Where 35 finds nothing, no pair is together.
none_together : (h : Sitting) → Paired role_count h.pairs → (T (any role_count (clashing h)) → ⊥) → (p q : ℕ) → T (conflict h.pairs p q) → T (together h p q) → ⊥
unfolding clashing
none_together h w n p q c t =
    let k = conflict-lt w p q c in
    let (l, m) = conflict_parts h.pairs p q c in
    n (some-any role_count (clashing h) p (omega arith) (some-any role_count (λ q. member q (at h.pairs p) && together h p q) q k (join (member q (at h.pairs p)) (together h p q) m t)))

-- ---- kinds 1 to 12
-- What passes the checks of the sitting passes those of document 01's keeper.
pub base_passes : (z : Sitting) (c : base.Call) → Passes (checks z (call c) (after z (call c))) → Passes (base.checks z.state c (base.after z.state c)) × Passes (drawn_checks c (after z (call c)))
unfolding checks after
base_passes z c t = parts (base.checks z.state c (base.after z.state c)) (drawn_checks c (after z (call c))) t

changed_paired : (c : Change) {P : List ℕ} → Paired role_count P → Paired role_count (pairs_changed c P)
unfolding pairs_changed
changed_paired (remove_role a b) w = without_paired a w
changed_paired (add_by_place a own juniors seniors) w = w
changed_paired (add_by_privileges a own) w = w
changed_paired (grant a b) w = w
changed_paired (withdraw a b) w = w
changed_paired (add_edge a b) w = w
changed_paired (remove_edge a b) w = w

paired_after : (c : base.Call) {P : List ℕ} → Paired role_count P → Paired role_count (pairs_after c P)
unfolding pairs_after
paired_after (base.change c) w = changed_paired c w
paired_after (base.declare a b) w = w
paired_after (base.lift a b) w = w
paired_after (base.assign a b) w = w
paired_after (base.unassign a b) w = w
paired_after (base.ask a b) w = w

-- A pair that a call leaves was one, and the call takes neither of its roles.
module _ {P : List ℕ} (w : Table role_count role_count P) (p q : ℕ) where
  change_stays : (c : Change) → T (conflict (pairs_changed c P) p q) → T (conflict P p q) × ((x : Bool) → T x → T (presence_change p c x)) × ((x : Bool) → T x → T (presence_change q c x))
  unfolding pairs_changed presence_change
  change_stays (remove_role a b) u =
      let (t, n) = both (conflict P p q) (not (eqb p a || eqb q a)) (subst T (without_conflict a w p q) u) in
      let no = T_not (eqb p a || eqb q a) n in (
        t,
        λ x y. join x (not (eqb p a)) y (not_T (eqb p a) (λ e. no (or_left (eqb p a) (eqb q a) e))),
        λ x y. join x (not (eqb q a)) y (not_T (eqb q a) (λ e. no (or_right (eqb p a) (eqb q a) e))),
      )
  change_stays (add_by_place a own juniors seniors) u = (u, λ x. or_left x (eqb p a), λ x. or_left x (eqb q a))
  change_stays (add_by_privileges a own) u = (u, λ x. or_left x (eqb p a), λ x. or_left x (eqb q a))
  change_stays (grant a b) u = (u, λ x t. t, λ x t. t)
  change_stays (withdraw a b) u = (u, λ x t. t, λ x t. t)
  change_stays (add_edge a b) u = (u, λ x t. t, λ x t. t)
  change_stays (remove_edge a b) u = (u, λ x t. t, λ x t. t)

  call_stays : (c : base.Call) → T (conflict (pairs_after c P) p q) → T (conflict P p q) × ((x : Bool) → T x → T (presence p c x)) × ((x : Bool) → T x → T (presence q c x))
  unfolding pairs_after presence
  call_stays (base.change c) u = change_stays c u
  call_stays (base.declare a b) u = (u, λ x t. t, λ x t. t)
  call_stays (base.lift a b) u = (u, λ x t. t, λ x t. t)
  call_stays (base.assign a b) u = (u, λ x t. t, λ x t. t)
  call_stays (base.unassign a b) u = (u, λ x t. t, λ x t. t)
  call_stays (base.ask a b) u = (u, λ x t. t, λ x t. t)

seat_number : (g : Graph) (a b : ℕ) (l : List Check) → Passes (seat_role_checks g a b ++ l) → a < seat_count
unfolding Passes
seat_number g a b l (na, _) = number_lt seat_count a na

module _ (z : Sitting) (v : Invariant z) where
  -- An assigned role reaches each active role, where the order stays and the seat's roles do.
  stays_covered : (h : State) → ((t r : ℕ) → T (below z.state.graph t r) → T (below h.graph t r)) → (i : ℕ) → ((r : ℕ) → T (member r (at z.state.seats i)) → T (member r (at h.seats i)))
      → (r : ℕ) → T (is_active z i r) → T (covered h i r)
  unfolding covered
  stays_covered h ordered i f r m = reach_more z.state.graph h.graph ordered (at z.state.seats i) (at h.seats i) r f (v.active_covered i r m)

  -- Whatever the kind, what is left active is what was and an assigned role reaches.
  pub switched_off : (c : base.Call) → Passes (base.checks z.state c (base.after z.state c)) → active_after c (base.after z.state c) z.active ≡ still_active (base.after z.state c) z.active
  unfolding active_after base.after base.checks base.with_graph base.with_conflicts base.with_seats below present ordinary effective is_active
  switched_off (base.change c) t = refl
  switched_off (base.declare a b) t = sym (still_all v.active _ (λ i. stays_covered _ (λ t r b. b) i (λ r m. m)))
  switched_off (base.lift a b) t = sym (still_all v.active _ (λ i. stays_covered _ (λ t r b. b) i (λ r m. m)))
  switched_off (base.assign a b) t =
      let ka = seat_number z.state.graph a b _ t in
      let W = z.state.seats in
      sym (still_all v.active _ (λ i. stays_covered _ (λ t r b. b) i
      (λ r m. subst T (sym (put_test v.state.seats a b ka i r)) (or_left (member r (at W i)) (eqb i a && eqb r b) m))))
  switched_off (base.unassign a b) t =
      let ka = seat_number z.state.graph a b _ t in
      let W = z.state.seats in
      still_at v.active _ a ka
      (λ i r d. stays_covered _ (λ t r b. b) i
      (λ k m. subst T (sym (take_out_test v.state.seats a b ka i k))
      (join (member k (at W i)) (not (eqb i a && eqb k b)) m (not_T (eqb i a && eqb k b) (λ e. d (test_equal (both (eqb i a) (eqb k b) e).0)))))
      r)
  switched_off (base.ask a b) t = sym (still_all v.active _ v.active_covered)

  -- An active role that stays so is ordinary, in a state with the invariants.
  still_ordinary : (h : State) → base-invariants.Invariant h → (i r : ℕ) → T (member r (at (still_active h z.active) i)) → T (ordinary h.graph r)
  unfolding is_active covered assigned
  still_ordinary h w i r m =
      let (x, y) = still v.active h i r m in
      reached_ordinary h.graph (at h.seats i) r (w.seated i) (ordinary_parts z.state.graph r (v.active_present i r x)).0 y

  -- The sitting that kinds 1 to 12 leave, with what is still active.
  abbrev left : base.Call → Sitting
  left c =
      let h = base.after z.state c in
      sitting_of h (pairs_after c z.pairs) (still_active h z.active)

  -- Where the order stays, no pair comes together.
  order_apart : (h : State) → ((t r : ℕ) → T (below h.graph t r) → T (below z.state.graph t r))
      → (p q : ℕ) → T (conflict z.pairs p q) → T (together (sitting_of h z.pairs (still_active h z.active)) p q) → ⊥
  unfolding is_active
  order_apart h ordered p q u x =
      v.apart p q u (together-more (sitting_of h z.pairs (still_active h z.active)) z ordered (λ i r m. (still v.active h i r m).0) p q x)

  -- Kinds 1 to 7 judge 35, and in the others the order stays.
  left_apart : (c : base.Call) → Passes (drawn_checks c (left c)) → (p q : ℕ) → T (conflict (pairs_after c z.pairs) p q) → T (together (left c) p q) → ⊥
  unfolding drawn_checks Passes pairs_after base.after base.with_graph base.with_conflicts base.with_seats below present ordinary effective
  left_apart (base.change c) t = none_together (left (base.change c)) (changed_paired c v.paired) t.0
  left_apart (base.declare a b) t = order_apart _ (λ t r b. b)
  left_apart (base.lift a b) t = order_apart _ (λ t r b. b)
  left_apart (base.assign a b) t = order_apart _ (λ t r b. b)
  left_apart (base.unassign a b) t = order_apart _ (λ t r b. b)
  left_apart (base.ask a b) t = order_apart _ (λ t r b. b)

  left_keeps : (c : base.Call) → base-keeping.FitsCall c → Passes (base.checks z.state c (base.after z.state c)) → Passes (drawn_checks c (left c)) → Invariant (left c)
  unfolding is_active
  left_keeps c f t t35 =
      let s = z.state in
      let h = base.after s c in
      let w = base-keeping.call_keeps s c f v.state t in
      let ordinary-still : (r : ℕ) → ((x : Bool) → T x → T (presence r c x)) → T (ordinary s.graph r) → T (ordinary h.graph r) = λ r k o. subst T (sym (call_ordinary r s c t)) (k _ o) in
      record {
        state = w;
        paired = paired_after c v.paired;
        pair_present = λ p q u.
            let (x, k, m) = call_stays v.paired.table p q c u in
            let (o, n) = v.pair_present p q x in
            (ordinary-still p k o, ordinary-still q m n);
        active = still_table h z.active;
        active_present = still_ordinary h w;
        active_covered = λ i r m. (still v.active h i r m).1;
        apart = left_apart c t35;
      }

  base_keeps : (c : base.Call) → base-keeping.FitsCall c → Passes (checks z (call c) (after z (call c))) → Invariant (after z (call c))
  unfolding after
  base_keeps c f t =
      let (t0, t35) = base_passes z c t in
      let e = ap (sitting_of (base.after z.state c) (pairs_after c z.pairs)) (switched_off c t0) in
      subst Invariant (sym e) (left_keeps c f t0 (subst (λ (y : Sitting). Passes (drawn_checks c y)) e t35))

  -- ---- kinds 13 to 15
  -- A role that is present and no end role is ordinary.
  named_ordinary : (r : ℕ) → (T (is_end r) → ⊥) → (T (not (present z.state.graph r)) → ⊥) → T (ordinary z.state.graph r)
  named_ordinary r e n =
      let g = z.state.graph in
      elim (present_cases g r (so (present g r) n)) [ inl l ↦ absurd (let x = not-end r e in omega arith) | inr o ↦ o ]

  exclude_keeps : (a b : ℕ) → Passes (checks z (exclude a b) (after z (exclude a b))) → Invariant (after z (exclude a b))
  unfolding checks after is_active Passes
  exclude_keeps a b (na, (nb, (ea, (eb, (d, (pa, (pb, (_, (t35, _))))))))) =
      let ka = number_lt role_count a na in
      let kb = number_lt role_count b nb in
      let d' = not_equal a b d in
      let g = z.state.graph in
      let P = conflicts.declare z.pairs a b in
      let paired = declare_paired v.paired a b ka kb d' in
      let oa = named_ordinary a ea pa in
      let ob = named_ordinary b eb pb in
      record {
        state = v.state;
        paired = paired;
        pair_present = λ p q u.
            let l = (conflict_parts P p q u).0 in
            let x = subst T (sym (declared_in_order P p q l) ∙ declare_test v.paired a b ka kb d' p q) u in
            elim (either (declared z.pairs p q) (same_pair p q a b) x) [
              | inl y ↦ v.pair_present p q (subst T (declared_in_order z.pairs p q l) y)
              | inr y ↦ elim (either (eqb p a && eqb q b) (eqb p b && eqb q a) y) [
                | inl e ↦ (let (f, k) = both (eqb p a) (eqb q b) e in (same (test_equal f) oa, same (test_equal k) ob))
                | inr e ↦ (let (f, k) = both (eqb p b) (eqb q a) e in (same (test_equal f) ob, same (test_equal k) oa))
              ]
            ];
        active = v.active;
        active_present = v.active_present;
        active_covered = v.active_covered;
        apart = none_together (after z (exclude a b)) paired t35;
      }
    where
      same : {r s : ℕ} → r ≡ s → T (ordinary z.state.graph s) → T (ordinary z.state.graph r)
      same e o = subst (λ (i : ℕ). T (ordinary z.state.graph i)) (sym e) o

  activate_keeps : (a b : ℕ) → Passes (checks z (activate a b) (after z (activate a b))) → Invariant (after z (activate a b))
  unfolding checks after is_active Passes
  activate_keeps a b (na, (nb, (e, (n, (_, (t34, (t35, _))))))) =
      let ka = number_lt seat_count a na in
      let kb = number_lt role_count b nb in
      let own : (i r : ℕ) → T (member r (at (put z.active a b) i)) → T (member r (at z.active i) || (eqb i a && eqb r b)) = λ i r m. subst T (put_test v.active a b ka i r) m in
      record {
        state = v.state;
        paired = v.paired;
        pair_present = v.pair_present;
        active = put_table v.active a b ka kb;
        active_present = λ i r m. elim (either (member r (at z.active i)) (eqb i a && eqb r b) (own i r m)) [
          | inl x ↦ v.active_present i r x
          | inr x ↦ subst (λ (k : ℕ). T (ordinary z.state.graph k)) (sym (test_equal (both (eqb i a) (eqb r b) x).1)) (named_ordinary b e n)
        ];
        active_covered = λ i r m. elim (either (member r (at z.active i)) (eqb i a && eqb r b) (own i r m)) [
          | inl x ↦ v.active_covered i r x
          | inr x ↦ (
              let (p, q) = both (eqb i a) (eqb r b) x in
              subst (λ (k : ℕ). T (covered z.state k r)) (sym (test_equal p)) (subst (λ (k : ℕ). T (covered z.state a k)) (sym (test_equal q)) (so (covered z.state a b) t34)))
        ];
        apart = none_together (after z (activate a b)) v.paired t35;
      }

  deactivate_keeps : (a b : ℕ) → Passes (checks z (deactivate a b) (after z (deactivate a b))) → Invariant (after z (deactivate a b))
  unfolding checks after is_active Passes
  deactivate_keeps a b (na, _) =
      let ka = number_lt seat_count a na in
      let fewer : (i r : ℕ) → T (member r (at (take_out z.active a b) i)) → T (member r (at z.active i)) =
      λ i r m. (both (member r (at z.active i)) (not (eqb i a && eqb r b)) (subst T (take_out_test v.active a b ka i r) m)).0 in
      record {
        state = v.state;
        paired = v.paired;
        pair_present = v.pair_present;
        active = take_out_table v.active a b ka;
        active_present = λ i r m. v.active_present i r (fewer i r m);
        active_covered = λ i r m. v.active_covered i r (fewer i r m);
        apart = λ p q c t. v.apart p q c (together-more (after z (deactivate a b)) z (λ t r b. b) fewer p q t);
      }

  -- Every call that nothing refuses keeps the invariants.
  pub call_keeps : (c : Call) → FitsCall c → Passes (checks z c (after z c)) → Invariant (after z c)
  unfolding FitsCall
  call_keeps (call c) f t = base_keeps c f t
  call_keeps (exclude a b) f t = exclude_keeps a b t
  call_keeps (activate a b) f t = activate_keeps a b t
  call_keeps (deactivate a b) f t = deactivate_keeps a b t

  -- ---- what the invariants leave to be found
  -- 35 finds nothing, whatever kind came last.
  pub nothing_clashes : (p : ℕ) → T (clashing z p) → ⊥
  unfolding clashing conflict
  nothing_clashes p t =
      let (q, _, y) = any-some role_count (λ q. member q (at z.pairs p) && together z p q) t in
      let (m, u) = both (member q (at z.pairs p)) (together z p q) y in
      v.apart p q (join (ltb p q) (member q (at z.pairs p)) (lt→ltb p q (v.paired.ascending p q m)) m) u

  -- Nothing is left to be switched off.
  pub nothing_to_switch_off : still_active z.state z.active ≡ z.active
  unfolding is_active
  nothing_to_switch_off = still_all v.active z.state v.active_covered

-- ---- the beginning
nothing_in : (n i p : ℕ) → T (member p (at (replicate n empty) i)) → ⊥
nothing_in n i p m = in_empty p (subst (λ (s : ℕ). T (member p s)) (at-replicate n i) m)

pub begun_keeps : (s : State) → base-invariants.Invariant s → Invariant (begun s)
unfolding begun is_active
begun_keeps s v = record {
  state = v;
  paired = record { table = empty-table role_count role_count; ascending = λ p q m. absurd (nothing_in role_count p q m) };
  pair_present = λ p q c. absurd (nothing_in role_count p q (conflict_parts (replicate role_count empty) p q c).1);
  active = empty-table seat_count role_count;
  active_present = λ i r m. absurd (nothing_in seat_count i r m);
  active_covered = λ i r m. absurd (nothing_in seat_count i r m);
  apart = λ p q c t. nothing_in role_count p q (conflict_parts (replicate role_count empty) p q c).1;
}
