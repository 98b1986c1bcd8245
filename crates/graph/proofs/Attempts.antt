-- What an attempted change comes to, taken apart: its verdict before closing, and the roles and sets after it.
-- Assumes nothing.
use mathlib.Core.Path.{◌≡◌, refl, sym, ap, ◌∙◌}
use mathlib.Core.List.{List, [], ◌++◌}
use Prim.Native.Nat.{ℕ}
use Rattle.std.specs.Prelude.{Result, Ok, Err}
use Rattle.graph.specs.Graph.{Graph, ordinary, present, effective}
use Rattle.graph.specs.Drawing.{below, edge, direct, redraw}
use Rattle.graph.specs.Editing.{Change, add_by_place, add_by_privileges, remove_role, grant, withdraw, add_edge, remove_edge, changed}
use Rattle.graph.specs.Refusing.{Verdict, passed, refused, verdict, input_checks, at_or_below, state_checks, early, keep}
use Rattle.graph.specs.Reading.{sets_in, drawn_from, graph_of, read_verdict, read_attempt}
use Rattle.graph.specs.declared.Redrawn.{Redrawn}
use Rattle.graph.specs.declared.Refusal.{Refusal}

-- The verdict of a call.
keep-verdict : (v : Verdict) (g h : Graph) → (keep v g h).0 ≡ v
unfolding keep
keep-verdict passed g h = refl
keep-verdict (refused n p) g h = refl

-- ---- the conflicts do not matter before 29
-- The graph without its conflicts.
abbrev pub bare : Graph → Graph
bare g = record { roles = g.roles; sets = g.sets; conflicts = [] }

-- A change leaves the conflicts, and what it makes of the roles and the sets does not depend on them.
pub changed_bare : (g : Graph) (c : Change) → record { roles = (changed (bare g) c).roles; sets = (changed (bare g) c).sets; conflicts = g.conflicts } ≡ changed g c
unfolding changed redraw present ordinary effective below edge direct
changed_bare g c = refl

module _ (roles : ℕ) (sets C : List ℕ) where
  -- The graph of these roles and sets.
  abbrev G : Graph
  G = drawn_from roles sets

  -- The conflicts do not matter before closing.
  pub early_any : (c : Change) → early (drawn_from roles sets) c ≡ early (graph_of roles sets C) c
  unfolding early state_checks present ordinary effective below edge direct at_or_below
  early_any (add_by_place a own juniors seniors) = refl
  early_any (add_by_privileges a own) = refl
  early_any (remove_role a b) = refl
  early_any (grant a b) = refl
  early_any (withdraw a b) = refl
  early_any (add_edge a b) = refl
  early_any (remove_edge a b) = refl

  changed_any : (c : Change) → record { roles = (changed G c).roles; sets = (changed G c).sets; conflicts = sets_in C } ≡ changed (graph_of roles sets C) c
  changed_any = changed_bare (graph_of roles sets C)

  -- A change was attempted, and r is what came of it.
  module _ (c : Change) (r : Result Redrawn Refusal) (e : read_attempt G r ≡ keep (early G c) G (changed G c)) where
    -- The verdict is that of the checks before closing.
    judged : (read_attempt G r).0 ≡ verdict (input_checks c ++ state_checks (graph_of roles sets C) c)
    unfolding early
    judged = ap (λ (z : Verdict × Graph). z.0) e ∙ keep-verdict (early G c) G (changed G c) ∙ early_any c

    pub refused_early : {f : Refusal} → r ≡ Err f → read_verdict (Err f) ≡ verdict (input_checks c ++ state_checks (graph_of roles sets C) c)
    unfolding read_attempt read_verdict
    refused_early d = sym (ap (λ (x : Result Redrawn Refusal). (read_attempt G x).0) d) ∙ judged

    pub passed_early : {d : Redrawn} → r ≡ Ok d → read_verdict (Ok tt) ≡ verdict (input_checks c ++ state_checks (graph_of roles sets C) c)
    unfolding read_attempt read_verdict
    passed_early d = sym (ap (λ (x : Result Redrawn Refusal). (read_attempt G x).0) d) ∙ judged

    -- Where nothing refused, the roles and sets are those after the change.
    pub after_passed : {d : Redrawn} → r ≡ Ok d → graph_of d.roles d.sets C ≡ changed (graph_of roles sets C) c
    unfolding read_attempt keep
    after_passed {d} q =
        let early_passed : passed ≡ early G c = sym (ap (λ (x : Result Redrawn Refusal). (read_attempt G x).0) q) ∙ ap (λ (z : Verdict × Graph). z.0) e ∙ keep-verdict (early G c) G (changed G c) in
        let same : (passed, drawn_from d.roles d.sets) ≡ (passed, changed G c) = sym (ap (read_attempt G) q) ∙ e ∙ ap (λ (v : Verdict). keep v G (changed G c)) (sym early_passed) in
        ap (λ (z : Verdict × Graph). record { roles = z.1.roles; sets = z.1.sets; conflicts = sets_in C }) same ∙ changed_any c
