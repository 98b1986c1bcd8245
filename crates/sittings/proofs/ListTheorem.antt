-- Demand 3 with the calls of a sitting: the list theorem holds from every start, for every list of records.
-- Assumes nothing.
use mathlib.Core.Path.{◌≡◌, refl, sym, ap, ◌∙◌, subst}
use mathlib.Core.Bool.{Bool, true, false, cond, ◌&&◌, ◌||◌}
use mathlib.Core.Logic.{◌↔◌, inl, inr}
use mathlib.Core.List.{List, map}
use Prim.Native.Nat.{ℕ, ◌<◌}
use native.Mathlib.Omega.{arith}
use lib.Dec.{T, leb, eqb}
use Rattle.sets.proofs.Tests.{join, either, or_left, or_right, equal_test, test_equal}
use Rattle.sets.proofs.Counting.{some-any}
use Rattle.sets.proofs.Laws.{member-lt}
use Rattle.order.specs.Paths.{Path}
use Rattle.lists.specs.Runs.{run, Each, Chain}
use Rattle.lists.specs.Settling as settling
use Rattle.lists.proofs.Runs.{run_keeps, answers_length, chain_runs, run_unrefused}
use Rattle.lists.proofs.Projection.{each_seen}
use Rattle.graph.specs.Tables.{at}
use Rattle.graph.specs.Graph.{role_count}
use Rattle.graph.specs.Drawing.{below, edge}
use Rattle.graph.specs.Refusing.{verdict, at_or_below}
use Rattle.graph.proofs.Tables.{entry_in}
use Rattle.graph.proofs.Order.{path_iff_below}
use Rattle.graph.proofs.Conflicts.{declared-parts}
use Rattle.graph.proofs.DrawnSets.{Reached}
use Rattle.seats.specs.Bytes.{Bytes, number_at}
use Rattle.seats.specs.Seats.{State, seat_count, assigned}
use Rattle.seats.specs.Calls.{Answer, answered, judged, settle, is_refusal}
use Rattle.seats.specs.Calls as base
use Rattle.seats.specs.Records as base-records
use Rattle.seats.specs.Lists.{Edge}
use Rattle.seats.specs.ListTheorem.{Saying, Assigned, ask_record, StateTheorem}
use Rattle.seats.specs.ListTheorem as base-theorem
use Rattle.seats.proofs.ListTheorem as base-proof
use Rattle.sittings.specs.Sittings.{Sitting, excluded, is_active, covered, in_use, together}
use Rattle.sittings.specs.Calls.{call, drawn_checks, perform, ask_active}
use Rattle.sittings.specs.Records.{Decoded, malformed, own_kind, own, decoded, decode, perform_decoded, step}
use Rattle.sittings.specs.Lists.{answers, end, without_refused}
use Rattle.sittings.specs.ListTheorem.{Start, begins, Reaches, by_list, Excluded, Active, ListTheorem, DemandThree}
use Rattle.sittings.specs.Invariants.{Invariant}
use Rattle.sittings.specs.Working.{followed}
use Rattle.sittings.proofs.Settling.{refused_leaves}
use Rattle.sittings.proofs.Beside.{beside}
use Rattle.sittings.proofs.Reaches.{in_reach, reach_in}
use Rattle.sittings.proofs.CallInvariant.{nothing_clashes, nothing_to_switch_off, begun_keeps}
use Rattle.sittings.proofs.RecordInvariant.{step_keeps}
use Rattle.sittings.proofs.History.{pairs_after_list, active_after_list}
use Rattle.sittings.proofs.Projection.{mine, seen_by_state, state_seen, history_seen}
use Rattle.sittings.proofs.Question.{question_iff}

-- Equal tests pass together.
both_ways : {a b : Bool} → a ≡ b → T b ↔ T a
both_ways e = (λ t. subst T (sym e) t, λ t. subst T e t)

-- ---- kind 12 is document 01's
ask_decodes : (i p : ℕ) → base-records.decode (ask_record i p) ≡ cond (leb p 255 && true) (base-records.well_formed (base.ask i p)) base-records.malformed
unfolding base-records.decode ask_record base-records.fields base-records.kinds base-records.kind base-records.unused base-records.all_empty number_at
ask_decodes i p = refl

not-own : (i p : ℕ) → own (ask_record i p) ≡ malformed
unfolding own own_kind ask_record base-records.fields base-records.unused base-records.all_empty number_at
not-own i p = refl

ask_performs : (z : Sitting) (i p : ℕ) → (base.perform z.state (base.ask i p)).0 ≡ (perform z (call (base.ask i p))).0
unfolding followed drawn_checks verdict settle judged settling.settle
ask_performs z i p = go (base.perform z.state (base.ask i p)) ∙ sym (ap (λ (y : Answer × Sitting). y.0) (beside z (base.ask i p)))
  where
    go : (x : Answer × State) → x.0 ≡ (followed z (base.ask i p) x).0
    go (a, h) = either_way (is_refusal a) _
      where
        either_way : (b : Bool) (y : Sitting) → a ≡ (cond {A = Answer × Sitting} b (a, z) (a, y)).0
        either_way true y = refl
        either_way false y = refl

-- The record that asks has the same answer.
ask_same : (z : Sitting) (i p : ℕ) → (base-records.step z.state (ask_record i p)).0 ≡ (step z (ask_record i p)).0
unfolding step decode decoded perform_decoded base-records.step base-records.perform_decoded
ask_same z i p =
    ap (λ (d : base-records.Decoded). (base-records.perform_decoded z.state d).0) (ask_decodes i p)
    ∙ go (leb p 255 && true)
    ∙ sym (ap (λ (d : base-records.Decoded). (perform_decoded z (decoded d (ask_record i p))).0) (ask_decodes i p))
  where
    go : (b : Bool) → (base-records.perform_decoded z.state (cond b (base-records.well_formed (base.ask i p)) base-records.malformed)).0
        ≡ (perform_decoded z (decoded (cond b (base-records.well_formed (base.ask i p)) base-records.malformed) (ask_record i p))).0
    go true = ask_performs z i p
    go false = sym (ap (λ (d : Decoded). (perform_decoded z d).0) (not-own i p))

-- ---- a sitting with the invariants
module _ (z : Sitting) (k : Invariant z) where
  -- Reaching in the order is reaching along drawn edges.
  reach_path : (r t : ℕ) → T (at_or_below z.state.graph t r) ↔ Reaches z.state.graph r t
  unfolding at_or_below
  reach_path r t =
      let g = z.state.graph in
      let lead = path_iff_below g k.state.graph.formed.roles_lt t r in (
        λ x. elim (either (eqb t r) (below g t r) x) [ inl e ↦ inl (test_equal e) | inr b ↦ inr (lead.1 b) ],
        λ x. elim x [ inl e ↦ or_left (eqb t r) (below g t r) (equal_test e) | inr b ↦ or_right (eqb t r) (below g t r) (lead.0 b) ],
      )

  -- An active role that reaches t puts it in use.
  uses : (i r t : ℕ) → T (is_active z i r) → Reaches z.state.graph r t → T (in_use z i t)
  unfolding in_use is_active
  uses i r t m x = reach_in z.state.graph (at z.active i) t r (member-lt role_count r (at z.active i) (k.active.entry_lt i) m) m ((reach_path r t).1 x)

  -- No excluding pair, in either order, is together.
  never : (p q : ℕ) → T (excluded z p q) → T (together z p q) → T (together z q p) → ⊥
  unfolding excluded
  never p q d x y = elim (declared-parts z.pairs p q d) [ inl c ↦ k.apart p q c x | inr c ↦ k.apart q p c y ]

  not_joined : (p q : ℕ) → T (excluded z p q) → Path (Edge z.state.graph) p q → ⊥
  unfolding together
  not_joined p q d x =
      let g = z.state.graph in
      let b = (path_iff_below g k.state.graph.formed.roles_lt p q).0 x in
      never p q d
      (or_left (below g p q || below g q p) _ (or_left (below g p q) (below g q p) b))
      (or_left (below g q p || below g p q) _ (or_right (below g q p) (below g p q) b))

  not_both : (i r p q : ℕ) → T (is_active z i r) → T (excluded z p q) → T (in_use z i p) → T (in_use z i q) → ⊥
  unfolding together is_active
  not_both i r p q m d x y =
      let g = z.state.graph in
      let l : i < seat_count = omega (arith, entry_in z.active i r m, k.active.whole) in
      never p q d
      (or_right (below g p q || below g q p) _ (some-any seat_count (λ i. in_use z i p && in_use z i q) i l (join (in_use z i p) (in_use z i q) x y)))
      (or_right (below g q p || below g p q) _ (some-any seat_count (λ i. in_use z i q && in_use z i p) i l (join (in_use z i q) (in_use z i p) y x)))

-- ---- a list
module _ (start : Sitting) (v : Invariant start) (l : List (List ℕ)) (o : Each Bytes l) where
  abbrev e : Sitting
  e = end start l

  kept : Invariant e
  unfolding end
  kept = run_keeps step Bytes Invariant step_keeps start l o v

  -- Document 01's theorem, over the accepted records of its kinds.
  state_holds : StateTheorem start.state (by_list start l) (λ i p. (step e (ask_record i p)).0) e.state
  state_holds =
      let s = start.state in
      let m = seen_by_state start l in
      let t0 = (base-proof.from_invariant s v.state m (each_seen Bytes step is_refusal mine start l o)).state_theorem in
      let t1 = subst (λ (h : State). StateTheorem s (base-theorem.by_list s m) (λ i p. (base-records.step h (ask_record i p)).0) h) (state_seen start l) t0 in
      let told : base-theorem.by_list s m ≡ by_list start l = λ i say x. history_seen say x start l i in
      let t2 = subst (λ (h : Saying). StateTheorem s h (λ i p. (base-records.step e.state (ask_record i p)).0) e.state) told t1 in
      let asked : ◌≡◌ {A = ℕ → ℕ → Answer} (λ i p. (base-records.step e.state (ask_record i p)).0) (λ i p. (step e (ask_record i p)).0) = λ j i p. ask_same e i p j in
      subst (λ (a : ℕ → ℕ → Answer). StateTheorem s (by_list start l) a e.state) asked t2

  pairs : (p q : ℕ) → Excluded start l p q ↔ T (excluded e p q)
  pairs p q = both_ways (pairs_after_list p q start l o v)

  active : (i r : ℕ) → Active start l i r ↔ T (is_active e i r)
  active i r = both_ways (active_after_list i r start l o v)

  reached : (i t : ℕ) → Active start l i t → (r : ℕ) × Assigned start.state (by_list start l) i r × Reaches e.state.graph r t
  unfolding covered assigned
  reached i t a =
      let (r, _, m, x) = in_reach e.state.graph (at e.state.seats i) t (kept.active_covered i t ((active i t).0 a)) in
      (r, (state_holds.seats_by_calls i r).1 m, (reach_path e kept r t).0 x)

  apart : (i p q r s : ℕ) → Excluded start l p q → Active start l i r → Active start l i s → Reaches e.state.graph r p → Reaches e.state.graph s q → ⊥
  apart i p q r s d a b x y = not_both e kept i r p q ((active i r).0 a) ((pairs p q).0 d) (uses e kept i r p ((active i r).0 a) x) (uses e kept i s q ((active i s).0 b) y)

  question : (i p : ℕ) → (ask_active e i p ≡ answered true) ↔ ((r : ℕ) × Active start l i r × Reached e.state.graph p r)
  question i p =
      let q = question_iff e i p kept in (
        λ w. let (r, a, x) = q.0 w in (r, (active i r).1 a, x),
        λ (r, a, x). q.1 (r, (active i r).0 a, x),
      )

  agrees : {C B : Type 0} (read : C → Sitting) (told : B → Answer) (Promise : C → List ℕ → B → C → Type 0)
      → ((c : C) (r : List ℕ) (b : B) (d : C) → Promise c r b d → step (read c) r ≡ (told b, read d))
      → (c d : C) (m : List B) → read c ≡ start → Chain Promise c l m d
      → (map told m ≡ answers start l) × (read d ≡ end start l) × ((r s : ℕ) → edge (read d).state.graph r s ≡ edge (end start l).state.graph r s)
  unfolding answers end
  agrees read told Promise meets c d m q chain =
      let y = ap (λ (z : Sitting). run step z l) (sym q) ∙ chain_runs step read told Promise meets chain in
      let same : read d ≡ (run step start l).1 = sym (ap (λ (p : List Answer × Sitting). p.1) y) in
      (sym (ap (λ (p : List Answer × Sitting). p.0) y), same, λ r s. ap (λ (z : Sitting). edge z.state.graph r s) same)

  pub from_invariant : ListTheorem start l
  unfolding end answers without_refused
  from_invariant = record {
    all_answered = answers_length step start l;
    keeper_agrees = agrees;
    state_theorem = state_holds;
    pairs_by_calls = pairs;
    active_by_calls = active;
    active_assigned = reached;
    no_pair_joined = λ p q d x. not_joined e kept p q ((pairs p q).0 d) x;
    no_active_reaches_both = apart;
    may_use_active_iff = question;
    nothing_to_switch_off = nothing_to_switch_off e kept;
    nothing_clashes = nothing_clashes e kept;
    without_refused_answers = ap (λ (p : List Answer × Sitting). p.0) (run_unrefused step is_refusal refused_leaves start l);
    without_refused_end = ap (λ (p : List Answer × Sitting). p.1) (run_unrefused step is_refusal refused_leaves start l);
    invariant = kept;
  }

pub start_keeps : (z : Sitting) → Start z → Invariant z
start_keeps _ (begins s t) = begun_keeps s (base-proof.start_keeps s t)

-- Demand 3.
pub list_theorem : DemandThree
list_theorem start from l o = from_invariant start (start_keeps start from) l o
