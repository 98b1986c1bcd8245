-- `seats::LentState::pair_seat` meets its contract: it is the search with nothing added.
-- Assumes nothing.
use mathlib.Core.Path.{ap, ◌∙◌}
use Rattle.graph.specs.Graph.{effective}
use Rattle.graph.specs.Conflicts.{holds_pair}
use Rattle.graph.specs.Reading.{sets_in}
use Rattle.graph.proofs.Searches.{found_cong}
use Rattle.seats.specs.Seats.{seat_count, assigned, held, pair_seat}
use Rattle.seats.proofs.Requests.{joint_none}
use Rattle.seats.proofs.LentState.pair_seat.Goals as goal

pub returns : goal.returns
unfolding pair_seat held assigned effective
returns c =
    let g = c.args in
    c.pair_seat_with.ensures
    ∙ found_cong seat_count _ _ (λ i h. ap (holds_pair (sets_in g.self.conflicts.now)) (joint_none (sets_in g.self.graph.sets.now) g.self.seats.now 0 i))
