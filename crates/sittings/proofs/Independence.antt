-- Which tables of a sitting its operations do not look at: whatever these hold, the question, a choice and what follows a call come to the same.
-- Assumes nothing.
use mathlib.Core.Path.{◌≡◌, refl, sym, ap, ◌∙◌}
use mathlib.Core.List.{List}
use Prim.Native.Nat.{ℕ}
use Rattle.std.specs.Prelude.{Result, Ok, Err}
use Rattle.lists.specs.Settling as settling
use Rattle.graph.specs.Graph.{present, ordinary, effective}
use Rattle.graph.specs.Drawing.{below}
use Rattle.graph.specs.Refusing.{Verdict, passed, refused, at_or_below}
use Rattle.graph.specs.declared.Refusal.{Refusal}
use Rattle.seats.specs.Seats.{State}
use Rattle.seats.specs.Calls.{Answer, judged, settle}
use Rattle.seats.specs.Asks.{is_yes}
use Rattle.seats.specs.Reading.{state_of}
use Rattle.sittings.specs.Sittings.{Sitting, excluded, is_active, reaches, covered, in_use, still_covered, still_active, together, clashing, may_use_active}
use Rattle.sittings.specs.Calls.{pair_together, checks, after, reply, perform, ask_active}
use Rattle.sittings.specs.Reading.{sitting_of, read_choice, read_chosen}
use Rattle.sittings.specs.declared.Choice.{Choice}
use Rattle.sittings.specs.declared.Choice.TheVariants as choices
use Rattle.sittings.specs.declared.Chosen.{Chosen}
use Rattle.sittings.specs.declared.Chosen.TheVariants as chosen

-- ---- another state under the same pairs and active roles

-- An answer and a sitting, with the state in place of that sitting's.
unfoldable pub over : State → Answer × Sitting → Answer × Sitting
over t (a, z) = (a, sitting_of t z.pairs z.active)

-- A call that the same verdict judges is settled alike over both states.
settled_over : (s t : State) (v : Verdict) (a : Answer) (P A Q B : List ℕ) → settle v a (sitting_of t P A) (sitting_of t Q B) ≡ over t (settle v a (sitting_of s P A) (sitting_of s Q B))
unfolding over settle judged settling.settle
settled_over s t passed a P A Q B = refl
settled_over s t (refused n p) a P A Q B = refl

chosen_over : (s t : State) (P A : List ℕ) (r : Result Chosen Refusal) → read_chosen (sitting_of t P A) r ≡ over t (read_chosen (sitting_of s P A) r)
unfolding over read_chosen
chosen_over s t P A (Ok (chosen.Pairs e)) = refl
chosen_over s t P A (Ok (chosen.Active e)) = refl
chosen_over s t P A (Err r) = refl

-- Of a question only the answer is kept.
asked_alike : (v : Verdict) (a : Answer) (z y : Sitting) → (settle v a z z).0 ≡ (settle v a y y).0
unfolding settle judged settling.settle
asked_alike passed a z y = refl
asked_alike (refused n p) a z y = refl

module _ (roles : ℕ) (sets : List ℕ) where
  -- ---- the question looks at neither the conflicts, the seats' roles nor the pairs

  pub ask_alike : (C D W V P Q A : List ℕ) (i p : ℕ) → ask_active (sitting_of (state_of roles sets C W) P A) i p ≡ ask_active (sitting_of (state_of roles sets D V) Q A) i p
  unfolding ask_active may_use_active in_use reaches at_or_below below present ordinary effective
  ask_alike C D W V P Q A i p = asked_alike _ _ _ _

  -- As a test.
  pub may_alike : (C D W V P Q A : List ℕ) (i p : ℕ) → is_yes (ask_active (sitting_of (state_of roles sets C W) P A) i p) ≡ is_yes (ask_active (sitting_of (state_of roles sets D V) Q A) i p)
  may_alike C D W V P Q A i p = ap is_yes (ask_alike C D W V P Q A i p)

  -- ---- what follows a call does not look at the conflicts

  pub unassigned_alike : (C D W : List ℕ) (i held : ℕ) → still_covered (state_of roles sets C W) i held ≡ still_covered (state_of roles sets D W) i held
  unfolding still_covered covered reaches at_or_below below present ordinary effective
  unassigned_alike C D W i held = refl

  pub active_alike : (C D W A : List ℕ) → still_active (state_of roles sets C W) A ≡ still_active (state_of roles sets D W) A
  unfolding still_active still_covered covered reaches at_or_below below present ordinary effective
  active_alike C D W A = refl

  -- Nor does refusal 35, which looks at no seat's roles either.
  pub together_alike : (C D W V P A : List ℕ) → pair_together (sitting_of (state_of roles sets C W) P A) ≡ pair_together (sitting_of (state_of roles sets D V) P A)
  unfolding clashing together in_use reaches at_or_below below present ordinary effective
  together_alike C D W V P A = refl

  -- ---- a choice does not look at the conflicts

  perform_over : (C D W P A : List ℕ) (c : Choice) → perform (sitting_of (state_of roles sets D W) P A) (read_choice c) ≡ over (state_of roles sets D W) (perform (sitting_of (state_of roles sets C W) P A) (read_choice c))
  unfolding perform checks after reply read_choice excluded is_active clashing together in_use covered reaches at_or_below below present ordinary effective
  perform_over C D W P A (choices.Exclude a b) = settled_over (state_of roles sets C W) (state_of roles sets D W) _ _ _ _ _ _
  perform_over C D W P A (choices.Activate a b) = settled_over (state_of roles sets C W) (state_of roles sets D W) _ _ _ _ _ _
  perform_over C D W P A (choices.Deactivate a b) = settled_over (state_of roles sets C W) (state_of roles sets D W) _ _ _ _ _ _

  -- What deciding gives on one sitting it gives on each with the same roles, sets, seats, pairs and active roles.
  pub decide_alike : (C D W P A : List ℕ) (c : Choice) (r : Result Chosen Refusal) → read_chosen (sitting_of (state_of roles sets C W) P A) r ≡ perform (sitting_of (state_of roles sets C W) P A) (read_choice c)
      → read_chosen (sitting_of (state_of roles sets D W) P A) r ≡ perform (sitting_of (state_of roles sets D W) P A) (read_choice c)
  decide_alike C D W P A c r e =
      let s = state_of roles sets C W in
      let t = state_of roles sets D W in
      chosen_over s t P A r ∙ ap (over t) e ∙ sym (perform_over C D W P A c)
