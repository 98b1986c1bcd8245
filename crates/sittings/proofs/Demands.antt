-- The three demands on sittings hold.
-- Assumes nothing.
use mathlib.Core.Path.{◌≡◌, refl, sym, ap, ◌∙◌, subst}
use mathlib.Core.Bool.{Bool, false}
use mathlib.Core.Logic.{inl, inr}
use mathlib.Core.List.{List, ◌++◌}
use Prim.Native.Nat.{ℕ, ◌≤◌}
use lib.ListN.{length}
use Rattle.std.specs.Prelude.{Ok, Err}
use Rattle.lists.specs.Settling as settling
use Rattle.lists.proofs.Runs.{chain_unrefused}
use Rattle.graph.specs.Drawing.{redraw}
use Rattle.graph.specs.Editing.{Change, edit}
use Rattle.graph.specs.Refusing.{Verdict, passed, refused, verdict, input_checks, state_checks, Passes, First}
use Rattle.graph.specs.declared.Reason.TheVariants as reasons
use Rattle.graph.proofs.Closing.{Laid}
use Rattle.graph.proofs.Edits.{laid}
use Rattle.graph.proofs.Refusals.{parts, first_in_order}
use Rattle.seats.specs.Bytes.{Bytes}
use Rattle.seats.specs.Seats.{State}
use Rattle.seats.specs.Calls.{change, accepted, answered, judged, settle, is_refusal}
use Rattle.seats.specs.Calls as base
use Rattle.seats.specs.Images.{least_image, far_at, restored}
use Rattle.seats.specs.Demands.{One, refuses, contents_in, load_order, load_checks, ChangedBy}
use Rattle.seats.specs.Demands as state-demands
use Rattle.seats.specs.Reading.{read_answer, read_asked, read_filled}
use Rattle.seats.specs.Replies.{Answer}
use Rattle.seats.proofs.CallInvariant as base-keeping
use Rattle.seats.proofs.FirstChecks.{first_refuses, refuses_first, Settles, settles}
use Rattle.seats.proofs.LoadVerdict.{load_checks_in_order}
use Rattle.seats.proofs.ImageAlone.{load_alone}
use Rattle.seats.proofs.OneOutcome.{one, Reasoned, call_reasoned, load_reasoned, Told, told}
use Rattle.seats.proofs.OneOutcome as base-outcomes
use Rattle.seats.proofs.SaveOutcomes.{front_loads, front_same}
use Rattle.seats.proofs.Demands.{changed_by, says, closes}
use Rattle.sittings.specs.Sittings.{begun, may_use_active}
use Rattle.sittings.specs.Sittings as sittings
use Rattle.sittings.specs.Calls.{Call, call, checks, after, ask_active}
use Rattle.sittings.specs.Records.{well_formed, decode, step}
use Rattle.sittings.specs.Images.{settle_load, load_over}
use Rattle.sittings.specs.Invariants.{Invariant}
use Rattle.sittings.specs.Promises.{StepPromise, LoadPromise}
use Rattle.sittings.specs.Demands.{read_outcome, question_checks, Reached, Says, DemandOne, DemandTwo, DemandThreeWithShorter, Demands}
use Rattle.sittings.specs.Reading.{sitting_of, read_sitting}
use Rattle.sittings.specs.declared.Sitting.{Sitting}
use Rattle.sittings.proofs.Settling.{refused_leaves}
use Rattle.sittings.proofs.CallInvariant.{FitsCall, base_passes}
use Rattle.sittings.proofs.RecordInvariant.{FitsDecoded, decode_fits}
use Rattle.sittings.proofs.History.{call_excludes, call_activates}
use Rattle.sittings.proofs.Question.{question_settles}
use Rattle.sittings.proofs.LoadOver.{load_settles, load_begins, accepted_load, load_number}
use Rattle.sittings.proofs.KeeperTheorem.{keeper_theorem}
use Rattle.sittings.proofs.PartDemands.{part_answered, tape_answered, part_refused, part_uncounted, part_refused_iff, part_uncounted_iff, part_accepted}
use Rattle.sittings.proofs.RecordVerdict.{record_refused_iff, record_refused, record_accepted_iff, record_first, record_accepted, record_passes}

-- Two outcomes that are the same have the same answer and the same sitting.
by_part : {x y : base.Answer × sittings.Sitting} → x ≡ y → (x.0 ≡ y.0) × (x.1 ≡ y.1)
by_part e = (ap (λ (k : base.Answer × sittings.Sitting). k.0) e, ap (λ (k : base.Answer × sittings.Sitting). k.1) e)

-- ---- every promise can be kept, and whatever keeps it reads alike
one_outcome : (y : base.Answer × sittings.Sitting) → Told y.0 → One read_outcome (λ x. read_outcome x ≡ y)
one_outcome (a, z) t =
    let x = base-outcomes.one_outcome (a, z.state) t in
    one read_outcome (x.some.0, record { state = x.some.1; pairs = z.pairs; active = z.active })
    (ap {B = base.Answer × sittings.Sitting} (λ (k : base.Answer × State). (k.0, sitting_of k.1 z.pairs z.active)) x.kept)

-- What the question is answered, by its verdict.
one_asked : (z : sittings.Sitting) (b : Bool) (v : Verdict) → ((n p : ℕ) → v ≡ refused n p → Reasoned n) → One read_asked (λ x. read_asked x ≡ (settle v (answered b) z z).0)
unfolding settle judged settling.settle read_asked
one_asked z b passed h = one read_asked (Ok b) refl
one_asked z b (refused n p) h =
    let t = h n p refl in
    one read_asked (Err (record { reason = t.reason; place = p })) (ap (λ (m : ℕ). base.refused m p) t.number)

-- Each number that refuses a record, a load or the question is a reason's.
step_told : (z : sittings.Sitting) (l : List ℕ) → Told (step z l).0
step_told z l = told (step z l).0 (λ n p r. call_reasoned n (record_refused z (step z l) l refl n p r).0)

load_told : (z : sittings.Sitting) (l : List ℕ) → Told (load_over z l).0
load_told z l = told (load_over z l).0 (λ n p r. load_reasoned n (load_number z l n p r).0)

question_number : (i k n p : ℕ) → First (question_checks i k) n p → n ≡ 2
unfolding First
question_number i k n p f = elim f [
  | inl (_, q, _) ↦ sym q
  | inr (_, f) ↦ elim f [ inl (_, q, _) ↦ sym q | inr (_, x) ↦ absurd x ]
]

question_told : (i k n p : ℕ) → verdict (question_checks i k) ≡ refused n p → Reasoned n
question_told i k n p e = record { reason = reasons.UnknownNumber; number = sym (question_number i k n p (refuses_first (question_checks i k) n p e)) }

-- ---- loads and the question
load_settled : (z y : Sitting) (l : List ℕ) (a : Answer) → LoadPromise z l a y → Settles (load_checks l) accepted (read_sitting z) (begun (restored (contents_in l))) (read_outcome (a, y))
unfolding is_refusal
load_settled z y l a e = settles (load_checks l) accepted refl (read_sitting z) (begun (restored (contents_in l))) (read_outcome (a, y)) (e ∙ load_settles (read_sitting z) l)

-- An answer that is accepted is no refusal.
no_refusal : (a : Answer) → read_answer a ≡ accepted → refuses a ≡ false
unfolding is_refusal
no_refusal a e = ap is_refusal e

-- What an accepted load gives.
loads : (z y : Sitting) (l : List ℕ) (a : Answer) → LoadPromise z l a y → read_answer a ≡ accepted → (accepted, read_sitting y) ≡ load_over (read_sitting z) l
loads z y l a p r = ap (λ (x : base.Answer). (x, read_sitting y)) (sym r) ∙ p

over_alone : (z : sittings.Sitting) (before l : List ℕ) → least_image ≤ length l → far_at l (length l) ≤ length l → load_over z (before ++ l) ≡ load_over z l
unfolding load_over
over_alone z before l k d = ap (settle_load z) (load_alone before l k d)

-- Demand 1.
pub demand_one : DemandOne
unfolding ask_active
demand_one = record {
  call_answered = λ z l. one_outcome (step (read_sitting z) l) (step_told (read_sitting z) l);
  load_answered = λ z l. one_outcome (load_over (read_sitting z) l) (load_told (read_sitting z) l);
  question_answered = λ z i p. one_asked z (may_use_active z i p) (verdict (question_checks i p)) (question_told i p);
  part_answered = part_answered;
  tape_answered = tape_answered;
  call_refused = λ z y l a n p e r. record_refused (read_sitting z) (read_outcome (a, y)) l e n p r;
  load_refused = λ z y l a n p e r.
      let (x, w) = load_number (read_sitting z) l n p (sym (by_part e).0 ∙ r) in
      (x, w, (load_settled z y l a e).refused_leaves n p r);
  question_refused = λ z i k a n p e r. question_number i k n p (((question_settles z i k (read_asked a) e).refused_iff n p).0 r);
  part_refused = part_refused;
  part_uncounted = part_uncounted;
}

-- ---- what a keeper reaches
reached_keeps : (d : Sitting) → Reached d → Invariant (read_sitting d)
reached_keeps d r =
    let k = keeper_theorem r.start d r.records r.answers r.starts r.bytes r.chain in
    subst Invariant (sym k.same_end) k.definitions.invariant

-- ---- accepted calls
-- A record of kinds 1 to 7 that nothing refuses edits the drawing into one that closes.
change_laid : (z : sittings.Sitting) (l : List ℕ) (c : Change) → Invariant z → Bytes l → decode l ≡ well_formed (call (change c)) → Passes (checks z (call (change c)) (after z (call (change c))))
    → Laid (edit c (redraw z.state.graph))
unfolding base.checks FitsDecoded FitsCall base-keeping.FitsCall
change_laid z l c v b q t =
    let (x, u) = parts (input_checks c) _ (base_passes z (change c) t).0 in
    let (y, _) = parts (state_checks z.state.graph c) _ u in
    laid z.state.graph v.state.graph.formed c (subst FitsDecoded q (decode_fits l b)) x y

chosen : (z : sittings.Sitting) (c : Call) → Invariant z → Passes (checks z c (after z c)) → Says c z (after z c)
chosen z c v t = record { excludes = λ p q. call_excludes p q z c v t; activates = λ i r. call_activates i r z c v t }

-- What an accepted record that carries the call c comes to.
module _ (z y : Sitting) (l : List ℕ) (a : Answer) (e : StepPromise z l a y) (r : refuses a ≡ false) where
  carried : (c : Call) → decode l ≡ well_formed c → Passes (checks (read_sitting z) c (after (read_sitting z) c))
  carried c q = record_passes (read_sitting z) (read_outcome (a, y)) l e c q r

  left : (c : Call) → decode l ≡ well_formed c → read_sitting y ≡ after (read_sitting z) c
  left c q = (by_part (record_accepted (read_sitting z) (read_outcome (a, y)) l e c q r)).1

  state_left : (c : base.Call) → decode l ≡ well_formed (call c) → (read_sitting y).state ≡ base.after (read_sitting z).state c
  unfolding after
  state_left c q = ap (λ (k : sittings.Sitting). k.state) (left (call c) q)

-- Demand 2.
pub demand_two : DemandTwo
demand_two = record {
  call_refused_iff = λ z y l a n p e. record_refused_iff (read_sitting z) (read_outcome (a, y)) l e n p;
  first_in_order = λ z y l a n p c e r q. record_first (read_sitting z) (read_outcome (a, y)) l e c q n p r;
  call_accepted_iff = λ z y l a e. record_accepted_iff (read_sitting z) (read_outcome (a, y)) l e;
  call_accepted = λ z y l a c e q r. by_part (record_accepted (read_sitting z) (read_outcome (a, y)) l e c q r);
  change_accepted = λ z y l a c e q r. subst (ChangedBy c (read_sitting z).state) (sym (state_left z y l a e r (change c) q)) (changed_by (read_sitting z).state c);
  change_closes = λ z y l a c k b e q r.
      let w = change_laid (read_sitting z) l c (reached_keeps z k) b q (carried z y l a e r (call (change c)) q) in
      closes (read_sitting z).state (read_sitting y).state c w (state_left z y l a e r (change c) q);
  call_says = λ z y l a c k e q r.
      let t = (base_passes (read_sitting z) c (carried z y l a e r (call c) q)).0 in
      subst (state-demands.Says c (read_sitting z).state) (sym (state_left z y l a e r c q)) (says (read_sitting z).state c (reached_keeps z k).state t);
  choice_says = λ z y l a c k e q r.
      subst (Says c (read_sitting z)) (sym (left z y l a e r c q)) (chosen (read_sitting z) c (reached_keeps z k) (carried z y l a e r c q));
  load_refused_iff = λ z y l a n p e. (load_settled z y l a e).refused_iff n p;
  load_first_in_order = λ z y l a n p e r.
      first_in_order load_order (load_checks l) n p (load_checks_in_order l) (first_refuses (load_checks l) n p (((load_settled z y l a e).refused_iff n p).0 r));
  load_accepted_iff = λ z y l a e.
      let w = load_settled z y l a e in (
        λ r. w.accepted_iff.0 (no_refusal a r),
        λ x. (by_part (w.accepted_gives (w.accepted_iff.1 x))).0,
      );
  load_accepted = λ z y l a e r. (by_part ((load_settled z y l a e).accepted_gives (no_refusal a r))).1;
  question_refused_iff = λ z i k a n p e. (question_settles z i k (read_asked a) e).refused_iff n p;
  question_accepted = λ z i k a e t. let w = question_settles z i k (read_asked a) e in (by_part (w.accepted_gives (w.accepted_iff.1 t))).0;
  part_refused_iff = part_refused_iff;
  part_uncounted_iff = part_uncounted_iff;
  part_accepted = part_accepted;
  saved_loads = λ z h y buffer left before f n a r e w p.
      let s = (read_sitting z).state in
      by_part (p ∙ load_begins (read_sitting h) _ s (front_loads s buffer left (read_filled f) e n w (reached_keeps z r).state (read_sitting h).state before));
  loaded_saves = λ h y l buffer left a f n b p r e w.
      front_same (read_sitting y).state buffer left (read_filled f) e n w l b (accepted_load (read_sitting h) l (read_sitting y) (loads h y l a p r)).0;
  image_alone = λ h y w before l a b k d e f. by_part (e ∙ over_alone (read_sitting h) before l k d ∙ sym f);
}

-- Demand 3.
pub demand_three : DemandThreeWithShorter
demand_three = record {
  every_chain = keeper_theorem;
  shorter_chain = λ c d e l m k. chain_unrefused step is_refusal refused_leaves read_sitting read_answer StepPromise (λ z r a y p. sym p);
}

-- All three.
pub demands : Demands
demands = record { one = demand_one; two = demand_two; three = demand_three }
