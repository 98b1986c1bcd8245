-- `seats::loading::read_state` meets its contract: the entries, then the state that they describe are tested, with one return each.
-- Assumes nothing.
use mathlib.Core.Path.{◌≡◌, sym, ap, ◌∙◌}
use mathlib.Core.Bool.{cond}
use Rattle.graph.specs.Graph as graph
use Rattle.graph.specs.Refusing.{passed, refused, verdict}
use Rattle.graph.specs.Reading.{sets_in}
use Rattle.seats.specs.Seats.{State, fresh}
use Rattle.seats.specs.Images.{content_checks}
use Rattle.seats.specs.Reading.{state_of, read_image}
use Rattle.seats.proofs.LoadChecks.{entries_refused, state_refused, state_loaded, read_refused, read_passed}
use Rattle.seats.proofs.loading.read_state.Goals as goal
use Rattle.seats.proofs.loading.read_state.Goals.{After-is_sound}

pub read_contents-read-requires : goal.read_contents-read-requires
unfolding sets_in fresh graph.fresh
read_contents-read-requires c =
    let e = c.fresh-state.ensures in
    record {
      counts_in_bounds = c.requires;
      empty_sets = ap (λ (s : State). s.graph.sets) e;
      empty_conflicts = ap (λ (s : State). s.graph.conflicts) e;
      empty_seats = ap (λ (s : State). s.seats) e;
    }

pub returns-in_default : goal.returns-in_default
unfolding read_image
returns-in_default c =
    let e = c.in_default.ensures in
    rw c.unplaced.ensures (read_refused _ 7 (entries_refused _ e))

-- The verdict on the state is the one on the state lent.
sound : (c : After-is_sound) → verdict (content_checks (state_of c.in-Some.roles c.read_contents-read.new.sets c.read_contents-read.new.conflicts c.read_contents-read.new.seats)) ≡ cond c.is_sound.result passed (refused 8 0)
sound c = ap (λ (s : State). verdict (content_checks s)) (sym c.lent.ensures) ∙ c.is_sound.ensures

pub returns-then-not-is_sound : goal.returns-then-not-is_sound
unfolding read_image
returns-then-not-is_sound c =
    rw c.unplaced-then-not-is_sound.ensures (read_refused _ 8 (state_refused _ c.in-Some.ensures c.is_sound.result (sound (goal.at.returns-then-not-is_sound c).After-is_sound) c.if-not-is_sound.true))

pub returns : goal.returns
unfolding read_image
returns c =
    read_passed _ _ (state_loaded _ c.in-Some.ensures c.is_sound.result (sound (goal.at.returns c).After-is_sound) c.if-not-is_sound.false)
