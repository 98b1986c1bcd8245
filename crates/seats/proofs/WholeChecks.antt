-- Kinds 8 and 10 on a state with the invariants: every check after closing together finds what the call's own checks find.
-- Assumes nothing.
use mathlib.Core.Path.{◌≡◌, refl, sym, ap₂, ◌∙◌, subst}
use mathlib.Core.Bool.{Bool, true, false, ◌&&◌}
use mathlib.Core.Logic.{◌≢◌, inl, inr}
use mathlib.Core.List.{List, [], ◌∷◌, ◌++◌}
use Prim.Native.Nat.{ℕ, ◌<◌}
use lib.Dec.{T, eqb_refl, eqb}
use Rattle.sets.proofs.Tests.{both, join, or_left, or_right, same_test, passes, fails, decide}
use Rattle.sets.proofs.Counting.{any_cong, lowest_cong}
use Rattle.sets.specs.Counting.{any}
use Rattle.sets.specs.Sets.{member}
use Rattle.graph.specs.Graph.{role_count, privilege_count, ordinary, effective}
use Rattle.graph.specs.Conflicts.{declared, same_pair, holds_both, holds_pair}
use Rattle.graph.specs.Conflicts as conflicts
use Rattle.graph.specs.Refusing.{Check, refuse, refuse_lowest, verdict, no_privilege_number, pair_of_one, empty_role, twin_role, pair_role, offered_role, closed_checks, declare_checks, Passes}
use Rattle.graph.specs.Invariants.{Paired}
use Rattle.graph.proofs.Conflicts.{pair_holds, conflict-lt, declared-parts, declare_test, declare_paired}
use Rattle.graph.proofs.Judging.{stops, moves_on}
use Rattle.graph.proofs.Refusals.{number_lt, not_equal}
use Rattle.seats.specs.Seats.{State, seat_count, assigned, held, pair_seat, offered_seat}
use Rattle.seats.specs.Calls.{declare, assign, seat_role_checks, checks, with_graph, with_conflicts, with_seats, after}
use Rattle.seats.specs.Demands.{closing_checks, whole_declare, whole_assign}
use Rattle.seats.specs.Invariants.{Invariant}
use Rattle.seats.proofs.CallInvariant.{new_pair, unjudged_finds_nothing}

-- ---- verdicts
-- Behind checks that pass, the others decide.
behind : (l m : List Check) → Passes l → verdict (l ++ m) ≡ verdict m
unfolding Passes
behind [] m t = refl
behind (c ∷ l) m (f, t) = moves_on c (l ++ m) (fails c.holds f) ∙ behind l m t

-- Two lists that agree where those before them pass agree behind them.
same_behind : (l m k : List Check) → (Passes l → verdict m ≡ verdict k) → verdict (l ++ m) ≡ verdict (l ++ k)
unfolding Passes
same_behind [] m k e = e tt
same_behind (c ∷ l) m k e =
    elim (decide c.holds) [
      | inl t ↦ stops c (l ++ m) (passes c.holds t) ∙ sym (stops c (l ++ k) (passes c.holds t))
      | inr f ↦ moves_on c (l ++ m) (fails c.holds f) ∙ same_behind l m k (λ t. e (f, t)) ∙ sym (moves_on c (l ++ k) (fails c.holds f))
    ]

-- The lowest number that two tests pass is the same where they agree.
same_lowest : (n k : ℕ) (f g : ℕ → Bool) → ((i : ℕ) → i < k → f i ≡ g i) → refuse_lowest n k f ≡ refuse_lowest n k g
same_lowest n k f g e = let a = any_cong k f g e in let b = lowest_cong k f g e in λ i. record { number = n; holds = a i; place = b i }

and_same : (x : Bool) {y z : Bool} → (T x → y ≡ z) → x && y ≡ x && z
and_same true e = e tt
and_same false e = refl

-- ---- kind 8
-- A set that holds both privileges of a pair holds a pair once that one is declared.
offered_holds : {C : List ℕ} → Paired privilege_count C → (a b : ℕ) → a < privilege_count → b < privilege_count → a ≢ b → (x : ℕ)
    → T (holds_both a b x) → T (holds_pair (conflicts.declare C a b) x)
unfolding holds_both
offered_holds {C} w a b ka kb d x t =
    let D = conflicts.declare C a b in
    let v = declare_paired w a b ka kb d in
    let (m, n) = both (member a x) (member b x) t in
    let same : T (same_pair a b a b) = or_left (eqb a a && eqb b b) (eqb a b && eqb b a) (join (eqb a a) (eqb b b) (eqb_refl a) (eqb_refl b)) in
    let u : T (declared D a b) = subst T (sym (declare_test w a b ka kb d a b)) (or_right (declared C a b) (same_pair a b a b) same) in
    elim (declared-parts D a b u) [
      | inl c ↦ pair_holds D x a b (conflict-lt v a b c) m n c
      | inr c ↦ pair_holds D x b a (conflict-lt v b a c) n m c
    ]

-- In a set without a declared pair a pair is found after declaring exactly where the one offered is.
offered_pair : {C : List ℕ} → Paired privilege_count C → (a b : ℕ) → a < privilege_count → b < privilege_count → a ≢ b → (x : ℕ)
    → (T (holds_pair C x) → ⊥) → holds_pair (conflicts.declare C a b) x ≡ holds_both a b x
offered_pair {C} w a b ka kb d x free =
    same_test (holds_pair (conflicts.declare C a b) x) (holds_both a b x)
    (λ t. elim (new_pair w a b ka kb d x t) [ inl u ↦ absurd (free u) | inr u ↦ u ])
    (offered_holds w a b ka kb d x)

module _ (s : State) (v : Invariant s) (a b : ℕ) where
  h : State
  h = after s (declare a b)

  module _ (ka : a < privilege_count) (kb : b < privilege_count) (d : a ≢ b) where
    role_offered : (r : ℕ) → pair_role h.graph r ≡ offered_role s.graph a b r
    unfolding h after with_conflicts with_graph pair_role offered_role ordinary effective
    role_offered r =
        and_same (ordinary s.graph r) (λ o. offered_pair v.graph.paired a b ka kb d (effective s.graph r) (v.graph.pair_free r o))

    seat_offered : (i : ℕ) → i < seat_count → pair_seat h i ≡ offered_seat s a b i
    unfolding h after with_conflicts with_graph pair_seat offered_seat held assigned effective
    seat_offered i l = offered_pair v.graph.paired a b ka kb d (held s i) (v.seat_free i l)

    -- 27 and 28 find nothing, and 29 and 30 find what is offered.
    closing_offered : verdict (closing_checks h) ≡ verdict (refuse_lowest 29 role_count (offered_role s.graph a b) ∷ refuse_lowest 30 seat_count (offered_seat s a b) ∷ [])
    unfolding h after with_conflicts with_graph closed_checks empty_role twin_role ordinary effective Passes
    closing_offered =
        let (none_empty, (none_twin, _)) = unjudged_finds_nothing s v in
        let g = s.graph in
        moves_on (refuse_lowest 27 role_count (empty_role h.graph)) _ (fails (any role_count (empty_role h.graph)) none_empty)
        ∙ moves_on (refuse_lowest 28 role_count (twin_role h.graph)) _ (fails (any role_count (twin_role h.graph)) none_twin)
        ∙ ap₂ (λ (x y : Check). verdict (x ∷ y ∷ [])) (same_lowest 29 role_count (pair_role h.graph) (offered_role g a b) (λ r l. role_offered r))
        (same_lowest 30 seat_count (pair_seat h) (offered_seat s a b) seat_offered)

  pub declare_by_whole : verdict (whole_declare s a b) ≡ verdict (checks s (declare a b) (after s (declare a b)))
  unfolding whole_declare checks declare_checks Passes h
  declare_by_whole =
      same_behind (no_privilege_number a ∷ no_privilege_number b ∷ pair_of_one a b ∷ refuse 22 (declared s.graph.conflicts a b) a ∷ []) (closing_checks h)
      (refuse_lowest 29 role_count (offered_role s.graph a b) ∷ refuse_lowest 30 seat_count (offered_seat s a b) ∷ [])
      (λ (na, (nb, (d, _))). closing_offered (number_lt privilege_count a na) (number_lt privilege_count b nb) (not_equal a b d))

  -- ---- kind 10
  pub assign_by_whole : verdict (whole_assign s a b) ≡ verdict (checks s (assign a b) (after s (assign a b)))
  unfolding whole_assign checks after with_seats
  assign_by_whole =
      let k = after s (assign a b) in
      same_behind (seat_role_checks s.graph a b ++ (refuse 22 (assigned s a b) a ∷ [])) (closing_checks k)
      (refuse_lowest 30 seat_count (pair_seat k) ∷ [])
      (λ _. behind (closed_checks s.graph) (refuse_lowest 30 seat_count (pair_seat k) ∷ []) (unjudged_finds_nothing s v))
