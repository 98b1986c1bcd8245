-- A change of the graph judged in three parts: before closing, by the seats, and after closing; and the state that an answer leaves.
-- Assumes nothing.
use mathlib.Core.Bool.{cond}
use mathlib.Core.Path.{◌≡◌, refl, sym, ap, ◌∙◌}
use mathlib.Core.List.{List, [], ◌∷◌, ◌++◌, append_assoc}
use Prim.Native.Nat.{ℕ}
use native.Mathlib.Omega.{arith}
use Rattle.graph.specs.Editing.{Change, add_by_place, add_by_privileges, remove_role, grant, withdraw, add_edge, remove_edge}
use Rattle.graph.specs.Refusing.{Check, Verdict, passed, verdict, early, input_checks, at_or_below, state_checks, still_below, closed_checks}
use Rattle.graph.specs.Refusing as refusing
use Rattle.graph.specs.Reading.{sets_in, drawn_from, read_verdict}
use Rattle.graph.specs.Graph.{Graph}
use Rattle.graph.specs.Editing.{changed}
use Rattle.graph.proofs.Attempts.{bare, changed_bare, early_any}
use Rattle.graph.specs.declared.Refusal.{Refusal}
use Rattle.std.specs.Prelude.{Result, Ok, Err}
use Rattle.graph.proofs.Refusals.{parts, passed_passes, verdict_passes}
use Rattle.graph.proofs.Judging.{refused_first, passed_first}
use Rattle.seats.specs.Seats.{State}
use Rattle.lists.specs.Settling as settling
use Rattle.seats.specs.Calls.{change, accepted, seat_checks, checks, after, judged, settle, perform, reply, with_graph}
use Rattle.seats.specs.Reading.{read_refusal}
use Rattle.seats.specs.Working.{removal_checks, after_checks}

-- Checks in the middle that refuse nothing do not count.
skipped : (l m n : List Check) → verdict m ≡ passed → verdict (l ++ n) ≡ verdict ((l ++ m) ++ n)
unfolding verdict read_verdict
skipped [] m n e = sym (passed_first m n {v = Ok tt} (sym e) refl)
skipped (c ∷ l) m n e = ap (cond c.holds (refusing.refused c.number c.place)) (skipped l m n e)

-- Checks at the end that refuse nothing do not count.
ended : (l m : List Check) → verdict m ≡ passed → verdict l ≡ verdict (l ++ m)
unfolding verdict
ended [] m e = sym e
ended (c ∷ l) m e = ap (cond c.holds (refusing.refused c.number c.place)) (ended l m e)

-- What passes is not refused.
none_refused : {n p : ℕ} → passed ≡ refusing.refused n p → ⊥
none_refused e = let z : ◌≡◌ {A = ℕ} 0 1 = cc in omega arith

-- The checks of the change before closing, but for that of the seats.
abbrev pub before_checks : State → Change → List Check
before_checks s c = input_checks c ++ state_checks s.graph c

-- What the checks of a removal refuse is refused by those before closing, that of the seats among them.
removal_stops : (s : State) (c : Change) {n p : ℕ} → verdict (removal_checks s c) ≡ refusing.refused n p → verdict (removal_checks s c) ≡ verdict (before_checks s c ++ seat_checks s c)
unfolding removal_checks verdict
removal_stops s (remove_role a b) e = refl
removal_stops s (add_by_place a own juniors seniors) e = absurd (none_refused e)
removal_stops s (add_by_privileges a own) e = absurd (none_refused e)
removal_stops s (grant a b) e = absurd (none_refused e)
removal_stops s (withdraw a b) e = absurd (none_refused e)
removal_stops s (add_edge a b) e = absurd (none_refused e)
removal_stops s (remove_edge a b) e = absurd (none_refused e)

-- What the checks of a removal let pass, that of the seats does.
removal_goes : (s : State) (c : Change) → verdict (removal_checks s c) ≡ passed → verdict (seat_checks s c) ≡ passed
unfolding removal_checks seat_checks
removal_goes s (remove_role a b) e =
    let l = before_checks s (remove_role a b) in
    let m = seat_checks s (remove_role a b) in
    verdict_passes m (parts l m (passed_passes (l ++ m) e)).1
removal_goes s (add_by_place a own juniors seniors) e = e
removal_goes s (add_by_privileges a own) e = e
removal_goes s (grant a b) e = e
removal_goes s (withdraw a b) e = e
removal_goes s (add_edge a b) e = e
removal_goes s (remove_edge a b) e = e

module _ (s : State) (c : Change) where
  -- The state that the change would leave.
  abbrev pub next : State
  next = after s (change c)

  -- All checks of the change are those of the three parts.
  in_parts : verdict (checks s (change c) next) ≡ verdict ((before_checks s c ++ seat_checks s c) ++ after_checks next c)
  unfolding checks
  in_parts =
      sym (ap verdict (ap (λ (l : List Check). (before_checks s c ++ seat_checks s c) ++ l) (append_assoc (still_below next.graph c) (closed_checks next.graph) _)
      ∙ append_assoc (before_checks s c) (seat_checks s c) _ ∙ append_assoc (input_checks c) (state_checks s.graph c) _))

  module _ {v : Result (Unit {0}) Refusal} (e : read_verdict v ≡ verdict (removal_checks s c)) where
    -- What the checks of a removal refuse, all checks do.
    pub removal_refused : {r : Refusal} → v ≡ Err r → read_verdict (Err r) ≡ verdict (checks s (change c) next)
    unfolding read_verdict
    removal_refused d = refused_first (before_checks s c ++ seat_checks s c) (after_checks next c) (e ∙ removal_stops s c (sym e ∙ ap read_verdict d)) d ∙ sym in_parts

    -- And those before closing do.
    pub removal_first : {r : Refusal} → v ≡ Err r → read_verdict (Err r) ≡ verdict (before_checks s c ++ seat_checks s c)
    unfolding read_verdict
    removal_first d = sym (ap read_verdict d) ∙ e ∙ removal_stops s c (sym e ∙ ap read_verdict d)

    -- Where they pass, those before closing are those without that of the seats.
    pub before_alone : v ≡ Ok tt → verdict (before_checks s c) ≡ verdict (before_checks s c ++ seat_checks s c)
    unfolding read_verdict
    before_alone d = ended (before_checks s c) (seat_checks s c) (removal_goes s c (sym e ∙ ap read_verdict d))

    -- Where they pass, all checks are those without that of the seats.
    pub checks_without : v ≡ Ok tt → verdict (before_checks s c ++ after_checks next c) ≡ verdict (checks s (change c) next)
    unfolding read_verdict
    checks_without d = skipped (before_checks s c) (seat_checks s c) (after_checks next c) (removal_goes s c (sym e ∙ ap read_verdict d)) ∙ sym in_parts

-- A verdict that refuses leaves the state, and one that passes has h.
module _ {w : Verdict} (s h : State) where
  pub settled_refused : (r : Refusal) → read_verdict (Err r) ≡ w → (read_refusal r, s) ≡ settle w accepted s h
  unfolding settle judged settling.settle read_verdict
  settled_refused r e = ap (λ (x : Verdict). settle x accepted s h) e

  pub settled_passed : passed ≡ w → {k : State} → k ≡ h → (accepted, k) ≡ settle w accepted s h
  unfolding settle judged settling.settle
  settled_passed e p = ap (λ (k : State). (accepted, k)) p ∙ ap (λ (x : Verdict). settle x accepted s h) e

-- The state s with these roles and sets.
abbrev pub redrawn : State → ℕ → List ℕ → State
redrawn s r S = record { graph = record { roles = r; sets = sets_in S; conflicts = s.graph.conflicts }; seats = s.seats }

-- The state s is lent as y, and the change c is judged and carried out on y.
module _ {y s : State} (l : y ≡ s) (c : Change) where
  -- What is judged of the change before closing is the same on both.
  same_early : verdict (before_checks y c ++ seat_checks y c) ≡ verdict (before_checks s c ++ seat_checks s c)
  same_early = ap (λ (z : State). verdict (before_checks z c ++ seat_checks z c)) l

  -- What the checks before closing refuse, the call does, and it leaves the state; what they pass on y passes on s.
  module _ {v : Result (Unit {0}) Refusal} (e : read_verdict v ≡ verdict (before_checks y c ++ seat_checks y c)) where
    pub early_refused : {r : Refusal} → v ≡ Err r → (read_refusal r, s) ≡ perform s (change c)
    unfolding perform reply
    early_refused {r} d =
        settled_refused s (next s c) r (refused_first (before_checks s c ++ seat_checks s c) (after_checks (next s c) c) (e ∙ same_early) d ∙ sym (in_parts s c))

    pub early_passed : v ≡ Ok tt → passed ≡ verdict (before_checks s c ++ seat_checks s c)
    unfolding read_verdict
    early_passed d = sym (ap read_verdict d) ∙ e ∙ same_early

  -- What carries the change out on y leaves the state after it.
  pub carried_out : (r : ℕ) (S : List ℕ) → drawn_from r S ≡ changed (bare y.graph) c → redrawn s r S ≡ next s c
  unfolding after with_graph
  carried_out r S m =
      ap (λ (g : Graph). with_graph s (record { roles = g.roles; sets = g.sets; conflicts = s.graph.conflicts })) (m ∙ ap (λ (z : State). changed (bare z.graph) c) l)
      ∙ ap (with_graph s) (changed_bare s.graph c)

  -- Nothing refuses the change early.
  module _ (e : passed ≡ verdict (before_checks s c ++ seat_checks s c)) where
    -- So nothing refuses it on the graph alone.
    pub graph_passes : early (bare y.graph) c ≡ passed
    unfolding early sets_in
    graph_passes =
        let b = before_checks y c in
        early_any y.graph.roles y.graph.sets y.graph.conflicts c ∙ verdict_passes b (parts b (seat_checks y c) (passed_passes (b ++ seat_checks y c) (same_early ∙ sym e))).0

    -- These roles and sets are the graph after it, and v is what is judged of them on x, which is s lent again.
    module _ (r : ℕ) (S : List ℕ) (m : drawn_from r S ≡ changed (bare y.graph) c) {x : State} (k : x ≡ s) (v : Result (Unit {0}) Refusal) (f : read_verdict v ≡ verdict (after_checks (redrawn x r S) c)) where
      -- All checks come to what is judged after it.
      last : read_verdict v ≡ verdict (checks s (change c) (next s c))
      unfolding read_verdict
      last =
          f
          ∙ ap (λ (z : State). verdict (after_checks z c)) (ap (λ (z : State). redrawn z r S) k ∙ carried_out r S m)
          ∙ sym (passed_first (before_checks s c ++ seat_checks s c) (after_checks (next s c) c) {v = Ok tt} e refl)
          ∙ sym (in_parts s c)

      pub after_refused : {i : Refusal} → v ≡ Err i → (read_refusal i, s) ≡ perform s (change c)
      unfolding perform reply
      after_refused {i} d = settled_refused s (next s c) i (sym (ap read_verdict d) ∙ last)

      pub after_accepted : v ≡ Ok tt → (accepted, redrawn s r S) ≡ perform s (change c)
      unfolding perform reply read_verdict
      after_accepted d = settled_passed s (next s c) (sym (ap read_verdict d) ∙ last) (carried_out r S m)
