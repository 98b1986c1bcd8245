-- Demand 3: the list theorem holds from every start, for every list of records.
-- Assumes nothing.
use mathlib.Core.Path.{◌≡◌, sym, ap, ◌∙◌, subst}
use mathlib.Core.Bool.{Bool}
use mathlib.Core.Logic.{◌↔◌, ◌≢◌, inl, inr}
use mathlib.Core.List.{List, map}
use Prim.Native.Nat.{ℕ}
use native.Mathlib.Omega.{arith}
use lib.Dec.{T}
use Rattle.sets.specs.Sets.{member}
use Rattle.sets.proofs.Tests.{either, or_left, or_right}
use Rattle.order.specs.Paths.{Between, SamePaths}
use Rattle.lists.specs.Runs.{run, Each, Chain}
use Rattle.lists.proofs.Runs.{run_keeps, answers_length, chain_runs, run_unrefused}
use Rattle.graph.specs.Graph.{max_role, is_end, ordinary, present, effective}
use Rattle.graph.specs.Conflicts.{declared, holds_pair}
use Rattle.graph.specs.Drawing.{edge}
use Rattle.graph.proofs.Order.{Edge, is_end-lt, lt-is_end, present_cases, end_present, ordinary_present, path_iff_below, no_circle, path_iff_included, fewest}
use Rattle.graph.proofs.DrawnSets.{Reached}
use Rattle.graph.proofs.Conflicts.{pair_holds, conflict-lt, declared-parts}
use Rattle.seats.specs.Bytes.{Bytes}
use Rattle.seats.specs.Seats.{State, assigned, held, may_use, pair_seat}
use Rattle.seats.specs.Calls.{Answer, is_refusal}
use Rattle.seats.specs.Records.{step}
use Rattle.seats.specs.Lists.{answers, end, without_refused}
use Rattle.seats.specs.ListTheorem.{Start, from_fresh, from_image, Present, present_by_calls, Declared, Assigned, MayUse, by_list, ListTheorem, DemandThree}
use Rattle.seats.specs.Invariants.{Invariant}
use Rattle.seats.proofs.Settling.{refused_leaves}
use Rattle.seats.proofs.FreshInvariant.{fresh_keeps}
use Rattle.seats.proofs.LoadInvariant.{loaded_keeps}
use Rattle.seats.proofs.CallInvariant.{seat_lt}
use Rattle.seats.proofs.RecordInvariant.{step_keeps}
use Rattle.seats.proofs.AskMeaning.{may_use_means, holds_iff}
use Rattle.seats.proofs.History.{roles_after, conflicts_after, seats_after}

-- Equal tests pass together.
both_ways : {a b : Bool} → a ≡ b → T b ↔ T a
both_ways e = (λ t. subst T (sym e) t, λ t. subst T e t)

module _ (start : State) (v : Invariant start) (l : List (List ℕ)) (o : Each Bytes l) where
  e : State
  e = end start l

  kept : Invariant e
  unfolding e end
  kept = run_keeps step Bytes Invariant step_keeps start l o v

  roles : (r : ℕ) → Present start (by_list start l) r ↔ T (ordinary e.graph r)
  unfolding e
  roles r = both_ways (roles_after r start l o v)

  conflicts : (p q : ℕ) → Declared start (by_list start l) p q ↔ T (declared e.graph.conflicts p q)
  unfolding e
  conflicts p q = both_ways (conflicts_after p q start l o v)

  seats : (i r : ℕ) → Assigned start (by_list start l) i r ↔ T (assigned e i r)
  unfolding e
  seats i r = both_ways (seats_after i r start l o v)

  -- Being present by the calls is being present in the state.
  to_present : (r : ℕ) → T (present_by_calls start (by_list start l) r) → T (present e.graph r)
  to_present r t = elim (either (is_end r) _ t) [
    | inl x ↦ end_present e.graph r (is_end-lt r x)
    | inr x ↦ ordinary_present e.graph r ((roles r).0 x)
  ]

  from_present : (r : ℕ) → T (present e.graph r) → T (present_by_calls start (by_list start l) r)
  from_present r t = elim (present_cases e.graph r t) [
    | inl x ↦ or_left (is_end r) _ (lt-is_end r x)
    | inr x ↦ or_right (is_end r) _ ((roles r).1 x)
  ]

  smallest : (E : ℕ → ℕ → Type 0) → Between (present_by_calls start (by_list start l)) E → SamePaths (present_by_calls start (by_list start l)) E (Edge e.graph)
      → (r s : ℕ) → Edge e.graph r s → E r s
  smallest E between same =
      fewest e.graph kept.graph.formed.roles_lt E (λ r s x. let (a, b) = between r s x in (to_present r a, to_present s b))
      (λ r s a b. same r s (from_present r a) (from_present s b))

  -- A set that no declared pair lies in has not both privileges of one.
  apart : (x p q : ℕ) → (T (holds_pair e.graph.conflicts x) → ⊥) → Declared start (by_list start l) p q → T (member p x) → T (member q x) → ⊥
  apart x p q free d m n = elim (declared-parts e.graph.conflicts p q ((conflicts p q).0 d)) [
    | inl c ↦ free (pair_holds e.graph.conflicts x p q (conflict-lt kept.graph.paired p q c) m n c)
    | inr c ↦ free (pair_holds e.graph.conflicts x q p (conflict-lt kept.graph.paired q p c) n m c)
  ]

  -- A role other than MaxRole that holds anything is ordinary.
  holder : (r p : ℕ) → r ≢ max_role → T (member p (effective e.graph r)) → T (ordinary e.graph r)
  holder r p n m =
      let (a, b) = kept.graph.formed.held p r m in
      elim (present_cases e.graph r a) [ inl x ↦ absurd (omega (arith, n)) | inr x ↦ x ]

  role_apart : (r p q : ℕ) → r ≢ max_role → Declared start (by_list start l) p q → T (member p (effective e.graph r)) → T (member q (effective e.graph r)) → ⊥
  role_apart r p q n d m k = apart (effective e.graph r) p q (kept.graph.pair_free r (holder r p n m)) d m k

  seat_apart : (i p q : ℕ) → Declared start (by_list start l) p q → MayUse e i p → MayUse e i q → ⊥
  unfolding may_use pair_seat held
  seat_apart i p q d m k =
      let x = (may_use_means e kept i p).0 m in
      let (r, a, _) = (holds_iff e kept i p).0 x in
      apart (held e i) p q (kept.seat_free i (seat_lt e kept i r a)) d x ((may_use_means e kept i q).0 k)

  uses : (i p : ℕ) → MayUse e i p ↔ ((r : ℕ) × Assigned start (by_list start l) i r × Reached e.graph p r)
  uses i p = (
    λ m. let (r, a, x) = (holds_iff e kept i p).0 ((may_use_means e kept i p).0 m) in (r, (seats i r).1 a, x),
    λ (r, a, x). (may_use_means e kept i p).1 ((holds_iff e kept i p).1 (r, (seats i r).0 a, x)),
  )

  agrees : {C B : Type 0} (read : C → State) (told : B → Answer) (Promise : C → List ℕ → B → C → Type 0)
      → ((c : C) (r : List ℕ) (b : B) (d : C) → Promise c r b d → step (read c) r ≡ (told b, read d))
      → (c d : C) (m : List B) → read c ≡ start → Chain Promise c l m d
      → (map told m ≡ answers start l) × (read d ≡ end start l) × ((r s : ℕ) → edge (read d).graph r s ≡ edge (end start l).graph r s)
  unfolding answers end
  agrees read told Promise meets c d m q chain =
      let z = ap (λ (s : State). run step s l) (sym q) ∙ chain_runs step read told Promise meets chain in
      let same : read d ≡ (run step start l).1 = sym (ap (λ (p : List Answer × State). p.1) z) in
      (sym (ap (λ (p : List Answer × State). p.0) z), same, λ r s. ap (λ (g : State). edge g.graph r s) same)

  pub from_invariant : ListTheorem start l
  unfolding e end answers without_refused
  from_invariant = record {
    all_answered = answers_length step start l;
    keeper_agrees = agrees;
    state_theorem = record {
      roles_by_calls = roles;
      conflicts_by_calls = conflicts;
      seats_by_calls = seats;
      no_return = no_circle e.graph kept.graph.formed.roles_lt;
      path_iff_below = path_iff_below e.graph kept.graph.formed.roles_lt;
      path_iff_included = λ r s a b. path_iff_included e.graph kept.graph.formed.roles_lt r s ((roles r).0 a) ((roles s).0 b);
      fewest_edges = smallest;
      no_role_holds_pair = role_apart;
      no_seat_holds_pair = seat_apart;
      may_use_iff = uses;
    };
    without_refused_answers = ap (λ (p : List Answer × State). p.0) (run_unrefused step is_refusal refused_leaves start l);
    without_refused_end = ap (λ (p : List Answer × State). p.1) (run_unrefused step is_refusal refused_leaves start l);
    invariant = kept;
  }

pub start_keeps : (s : State) → Start s → Invariant s
start_keeps _ from_fresh = fresh_keeps
start_keeps _ (from_image bytes s b e) = loaded_keeps bytes b s e

-- Demand 3.
pub list_theorem : DemandThree
list_theorem start from l o = from_invariant start (start_keeps start from) l o
