-- The three demands hold.
-- Assumes nothing.
use mathlib.Core.Path.{◌≡◌, refl, sym, ap, ◌∙◌, subst}
use mathlib.Core.Bool.{false}
use mathlib.Core.List.{List, ◌++◌}
use Prim.Native.Nat.{ℕ, ◌<◌, ◌≤◌}
use native.Mathlib.Omega.{arith}
use lib.ListN.{length, take, drop}
use lib.Seq.{take-append_seam, drop-append_seam}
use Rattle.lists.proofs.Runs.{chain_unrefused}
use Rattle.graph.specs.Graph.{role_count, present, ordinary, effective}
use Rattle.graph.specs.Drawing.{below, edge, direct, redraw}
use Rattle.graph.specs.Editing.{Change, edit, changed}
use Rattle.graph.specs.Refusing.{Verdict, verdict, input_checks, state_checks, Passes}
use Rattle.graph.proofs.Closing.{Laid, closed_equation, closed_unique}
use Rattle.graph.proofs.Edits.{laid}
use Rattle.graph.proofs.Refusals.{parts, verdict_passes, first_in_order}
use Rattle.seats.specs.Bytes.{Bytes}
use Rattle.seats.specs.Seats as seats
use Rattle.seats.specs.Calls.{Call, change, declare, lift, assign, unassign, ask, accepted, refused, checks, with_graph, with_conflicts, with_seats, after, is_refusal}
use Rattle.seats.specs.Calls as calls
use Rattle.seats.specs.Records.{well_formed, decode, step}
use Rattle.seats.specs.Images.{least_image, image, far_at, restored, Loaded, loaded, not_loaded, load, load_over, settle_load}
use Rattle.seats.specs.Saving.{save}
use Rattle.seats.specs.Lists.{end}
use Rattle.seats.specs.Promises.{StepPromise, LoadPromise}
use Rattle.seats.specs.Demands.{read_outcome, refuses, OfLoad, contents_in, load_order, load_checks, Reached, ChangedBy, Closes, Says, DemandOne, DemandTwo, DemandThreeWithShorter, Demands}
use Rattle.seats.specs.Invariants.{Invariant}
use Rattle.seats.specs.Reading.{read_state, read_answer, read_filled, read_image}
use Rattle.seats.specs.declared.State.{State}
use Rattle.seats.specs.Replies.{Answer}
use Rattle.seats.proofs.Settling.{refused_leaves}
use Rattle.seats.proofs.RecordInvariant.{FitsDecoded, decode_fits}
use Rattle.seats.proofs.CallInvariant.{FitsCall}
use Rattle.seats.proofs.History.{call_ordinary, call_declared, call_assigned}
use Rattle.seats.proofs.ListTheorem.{list_theorem}
use Rattle.seats.proofs.KeeperTheorem.{accepted_load, keeper_theorem}
use Rattle.seats.proofs.FirstChecks.{first_refuses, refuses_first, Settles, settles}
use Rattle.seats.proofs.RecordVerdict.{record_refused_iff, record_refused, record_accepted_iff, record_first, record_accepted, record_passes}
use Rattle.seats.proofs.WholeChecks.{declare_by_whole, assign_by_whole}
use Rattle.seats.proofs.LoadRefusals.{load_refusals}
use Rattle.seats.proofs.LoadVerdict.{load_checks_in_order, load_settles, read_judged, read_passed, measure-refuses, measure_loads}
use Rattle.seats.proofs.ImageAlone.{load_alone}
use Rattle.seats.proofs.OneOutcome.{Told, told, ToldFilled, told_filled, ToldLoaded, told_loaded, call_reasoned, load_reasoned, room_reasoned, one_outcome, one_image, one_measured, one_left}
use Rattle.seats.proofs.SaveOutcomes.{no_written, same_short, has_room, no_room, saves, front_loads, front_same}

-- Two outcomes that are the same have the same answer and the same state.
by_part : {z w : calls.Answer × seats.State} → z ≡ w → (z.0 ≡ w.0) × (z.1 ≡ w.1)
by_part e = (ap (λ (x : calls.Answer × seats.State). x.0) e, ap (λ (x : calls.Answer × seats.State). x.1) e)

-- ---- loads
no_accepted : {n p : ℕ} → accepted ≡ refused n p → ⊥
no_accepted e = let z : ◌≡◌ {A = ℕ} 0 1 = cc in omega arith

load_settled : (s t : State) (l : List ℕ) (a : Answer) → LoadPromise s l a t → Settles (load_checks l) accepted (read_state s) (restored (contents_in l)) (read_outcome (a, t))
unfolding is_refusal
load_settled s t l a e = settles (load_checks l) accepted refl (read_state s) (restored (contents_in l)) (read_outcome (a, t)) (e ∙ load_settles (read_state s) l)

-- An answer that is accepted is no refusal, and a load that is not refused is accepted.
no_refusal : (a : Answer) → read_answer a ≡ accepted → refuses a ≡ false
unfolding is_refusal
no_refusal a e = ap is_refusal e

-- The number of a load's refusal is 6, 7 or 8, and its place 0.
load_number : (s : seats.State) (l : List ℕ) (y : calls.Answer × seats.State) (n p : ℕ) → y ≡ load_over s l → y.0 ≡ refused n p → OfLoad n × (p ≡ 0)
unfolding load_over settle_load
load_number s l y n p e r = go (load l) refl
  where
    go : (x : Loaded) → load l ≡ x → OfLoad n × (p ≡ 0)
    go (loaded h) q = absurd (no_accepted (sym (by_part (e ∙ ap (settle_load s) q)).0 ∙ r))
    go (not_loaded m k) q = load_refusals l n p (q ∙ same (sym (by_part (e ∙ ap (settle_load s) q)).0 ∙ r))
      where
        same : refused m k ≡ refused n p → not_loaded m k ≡ not_loaded n p
        same w = let x : m ≡ n = cc in let y : k ≡ p = cc in rw (x, y)

-- Each number that refuses a record, a load or a save is a reason's.
step_told : (s : seats.State) (l : List ℕ) → Told (step s l).0
step_told s l = told (step s l).0 (λ n p r. call_reasoned n (record_refused s (step s l) l refl n p r).0)

load_over_told : (s : seats.State) (l : List ℕ) → Told (load_over s l).0
load_over_told s l = told (load_over s l).0 (λ n p r. load_reasoned n (load_number s l (load_over s l) n p refl r).0)

load_told : (l : List ℕ) → ToldLoaded (load l)
load_told l = told_loaded (load l) (λ n p q. load_reasoned n (load_refusals l n p q).0)

save_told : (s : seats.State) (buffer : List ℕ) → ToldFilled (save s buffer).0
save_told s buffer = told_filled (save s buffer).0 (λ n p r. elim (saves s buffer (save s buffer).1 (save s buffer).0 refl) [
  | has_room _ q _ ↦ absurd (no_written (sym q ∙ r))
  | no_room _ q _ ↦ room_reasoned n (sym (same_short (sym q ∙ r)).0)
])

-- Demand 1.
pub demand_one : DemandOne
demand_one = record {
  call_answered = λ s l. one_outcome (step (read_state s) l) (step_told (read_state s) l);
  load_answered = λ s l. one_outcome (load_over (read_state s) l) (load_over_told (read_state s) l);
  read_answered = λ l. one_image (load l) (load_told l);
  measure_answered = λ l. one_measured l (load_told l);
  save_answered = λ s buffer. one_left (save s buffer) (save_told s buffer);
  call_refused = λ s t l a n p e r.
      let (x, y) = record_refused (read_state s) (read_outcome (a, t)) l e n p r in
      (x, (record_refused_iff (read_state s) (read_outcome (a, t)) l e n p).0 r, y);
  load_refused = λ s t l a n p e r. let (x, y) = load_number (read_state s) l (read_outcome (a, t)) n p e r in (x, y, (load_settled s t l a e).refused_leaves n p r);
  save_refused = λ s buffer left f n p e r. elim (saves s buffer left (read_filled f) e) [
    | has_room _ q _ ↦ absurd (no_written (sym q ∙ r))
    | no_room _ q w ↦ (let (x, y) = same_short (sym q ∙ r) in (sym x, sym y, w))
  ];
}

-- ---- what a keeper reaches
reached_keeps : (d : State) → Reached d → Invariant (read_state d)
reached_keeps d r =
    let k = keeper_theorem r.start d r.records r.answers r.starts r.bytes r.chain in
    subst Invariant (sym k.same_end) k.definitions.invariant

-- ---- accepted calls
pub changed_by : (s : seats.State) (c : Change) → ChangedBy c s (after s (change c))
unfolding after with_graph changed redraw edge direct below present ordinary effective
changed_by s c = record { roles = refl; sets = refl; redrawn = refl; conflicts = refl; seats = refl }

pub says : (s : seats.State) (c : Call) → Invariant s → Passes (checks s c (after s c)) → Says c s (after s c)
unfolding after with_graph with_conflicts with_seats
says s c v t = record {
  present = λ r. call_ordinary r s c t;
  declares = λ p q. call_declared p q s c v t;
  assigns = λ i r. call_assigned i r s c v t;
  draws_nothing = stays c;
}
  where
    stays : (c : Call) → ((k : Change) → c ≡ change k → ⊥) → ((after s c).graph.roles ≡ s.graph.roles) × ((after s c).graph.sets ≡ s.graph.sets)
    stays (change k) f = absurd (f k refl)
    stays (declare a b) f = (refl, refl)
    stays (lift a b) f = (refl, refl)
    stays (assign a b) f = (refl, refl)
    stays (unassign a b) f = (refl, refl)
    stays (ask a b) f = (refl, refl)

-- The sets after an accepted change close the edited drawing, and no others do.
pub closes : (s t : seats.State) (c : Change) → Laid (edit c (redraw s.graph)) → t ≡ after s (change c)
    → Closes (edit c (redraw s.graph)) (effective t.graph)
    × ((F : ℕ → ℕ) → Closes (edit c (redraw s.graph)) F → (r : ℕ) → r < role_count → effective t.graph r ≡ F r)
unfolding after with_graph changed effective
closes s t c w e =
    let d = edit c (redraw s.graph) in
    subst (λ (t : seats.State). Closes d (effective t.graph) × ((F : ℕ → ℕ) → Closes d F → (r : ℕ) → r < role_count → effective t.graph r ≡ F r)) (sym e)
    (closed_equation d w, closed_unique d w)

change_laid : (s : seats.State) (l : List ℕ) (c : Change) → Invariant s → Bytes l → decode l ≡ well_formed (change c) → Passes (checks s (change c) (after s (change c))) → Laid (edit c (redraw s.graph))
unfolding checks FitsDecoded FitsCall
change_laid s l c v b q t =
    let (x, u) = parts (input_checks c) _ t in
    let (y, _) = parts (state_checks s.graph c) _ u in
    laid s.graph v.graph.formed c (subst FitsDecoded q (decode_fits l b)) x y

over_alone : (h : seats.State) (before l : List ℕ) → least_image ≤ length l → far_at l (length l) ≤ length l → load_over h (before ++ l) ≡ load_over h l
unfolding load_over
over_alone h before l k d = ap (settle_load h) (load_alone before l k d)

-- Demand 2.
pub demand_two : DemandTwo
unfolding is_refusal
demand_two = record {
  call_refused_iff = λ s t l a n p e. record_refused_iff (read_state s) (read_outcome (a, t)) l e n p;
  first_in_order = λ s t l a n p c e r q. record_first (read_state s) (read_outcome (a, t)) l e c q n p r;
  call_accepted_iff = λ s t l a e. record_accepted_iff (read_state s) (read_outcome (a, t)) l e;
  call_accepted = λ s t l a c e q r. by_part (record_accepted (read_state s) (read_outcome (a, t)) l e c q r);
  change_accepted = λ s t l a c e q r. subst (ChangedBy c (read_state s)) (sym (left s t l a (change c) e q r)) (changed_by (read_state s) c);
  change_closes = λ s t l a c k b e q r.
      let w = change_laid (read_state s) l c (reached_keeps s k) b q (record_passes (read_state s) (read_outcome (a, t)) l e (change c) q r) in
      closes (read_state s) (read_state t) c w (left s t l a (change c) e q r);
  call_says = λ s t l a c k e q r.
      subst (Says c (read_state s)) (sym (left s t l a c e q r)) (says (read_state s) c (reached_keeps s k) (record_passes (read_state s) (read_outcome (a, t)) l e c q r));
  declare_whole = λ start from l b. declare_by_whole (end start l) (list_theorem start from l b).invariant;
  assign_whole = λ start from l b. assign_by_whole (end start l) (list_theorem start from l b).invariant;
  load_refused_iff = λ s t l a n p e. (load_settled s t l a e).refused_iff n p;
  load_first_in_order = λ s t l a n p e r.
      first_in_order load_order (load_checks l) n p (load_checks_in_order l) (first_refuses (load_checks l) n p (((load_settled s t l a e).refused_iff n p).0 r));
  load_accepted_iff = λ s t l a e.
      let z = load_settled s t l a e in (
        λ r. z.accepted_iff.0 (no_refusal a r),
        λ x. (by_part (z.accepted_gives (z.accepted_iff.1 x))).0,
      );
  load_accepted = λ s t l a e r. (by_part ((load_settled s t l a e).accepted_gives (no_refusal a r))).1;
  read_refused_iff = λ l r n p e.
      let q : (read_image r).0 ≡ verdict (load_checks l) = ap (λ (x : Verdict × seats.State). x.0) e ∙ read_judged l in (
        λ w. refuses_first (load_checks l) n p (sym q ∙ w),
        λ f. q ∙ first_refuses (load_checks l) n p f,
      );
  read_accepted = λ l r e t. e ∙ read_passed l (verdict_passes (load_checks l) t);
  measure_refused_iff = λ l m n p e. (
    λ r. refuses_first (load_checks l) n p ((measure-refuses l n p).0 (sym e ∙ r)),
    λ f. e ∙ (measure-refuses l n p).1 (first_refuses (load_checks l) n p f),
  );
  measure_accepted = λ l m b e t. e ∙ measure_loads l b (verdict_passes (load_checks l) t);
  save_refused_iff = λ s buffer left f n p e. elim (saves s buffer left (read_filled f) e) [
    | has_room k q _ ↦ (λ r. absurd (no_written (sym q ∙ r)), λ (x, y, l). absurd (omega arith))
    | no_room l q _ ↦ (λ r. let (x, y) = same_short (sym q ∙ r) in (sym x, sym y, l), λ (x, y, _). q ∙ rw (x, y))
  ];
  save_accepted = λ s buffer left f e k. elim (saves s buffer left (read_filled f) e) [
    | has_room _ q m ↦ (q, ap (take (length (image s))) m ∙ take-append_seam (image s) _, ap (drop (length (image s))) m ∙ drop-append_seam (image s) _)
    | no_room l _ _ ↦ absurd (omega arith)
  ];
  saved_loads = λ s h t buffer left before f n a r e w p.
      by_part (p ∙ front_loads (read_state s) buffer left (read_filled f) e n w (reached_keeps s r) (read_state h) before);
  loaded_saves = λ h s l buffer left a f n b p r e w.
      front_same (read_state s) buffer left (read_filled f) e n w l b
      (accepted_load (read_state h) (read_state s) l (ap (λ (x : calls.Answer). (x, read_state s)) (sym r) ∙ p));
  image_alone = λ h t u before l a b k d e f. by_part (e ∙ over_alone (read_state h) before l k d ∙ sym f);
}
  where
    left : (s t : State) (l : List ℕ) (a : Answer) (c : Call) → StepPromise s l a t → decode l ≡ well_formed c → refuses a ≡ false → read_state t ≡ after (read_state s) c
    left s t l a c e q r = (by_part (record_accepted (read_state s) (read_outcome (a, t)) l e c q r)).1

-- Demand 3.
pub demand_three : DemandThreeWithShorter
demand_three = record {
  every_chain = keeper_theorem;
  shorter_chain = λ c d e l m k. chain_unrefused step is_refusal refused_leaves read_state read_answer StepPromise (λ s r a t p. sym p);
}

-- All three.
pub demands : Demands
demands = record { one = demand_one; two = demand_two; three = demand_three }
