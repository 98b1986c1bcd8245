-- `seats::LentState::pair_seat_after` meets its contract: the role is added to the seat where the table has such an entry.
-- Assumes nothing.
use mathlib.Core.Path.{ap, ◌∙◌}
use Prim.Native.Nat.{ℕ}
use lib.Dec.{eqb, ltb}
use lib.ListN.{length}
use Rattle.sets.specs.Sets.{union, when}
use Rattle.graph.specs.Tables.{at}
use Rattle.graph.specs.Graph.{effective}
use Rattle.graph.specs.Conflicts.{holds_pair}
use Rattle.graph.specs.Reading.{sets_in}
use Rattle.graph.specs.Searching.{lowest_found}
use Rattle.graph.proofs.Searches.{found_cong}
use Rattle.seats.specs.Seats.{seat_count, assigned, held, pair_seat}
use Rattle.seats.proofs.Requests.{joint, joint_put}
use Rattle.seats.proofs.LentState.pair_seat_after.Goals as goal

pub returns : goal.returns
unfolding pair_seat held assigned effective
returns c =
    let g = c.args in
    c.pair_seat_with.ensures
    ∙ ap (λ (added : ℕ). lowest_found seat_count (λ i. holds_pair (sets_in g.self.conflicts.now) (joint (sets_in g.self.graph.sets.now) (union (at g.self.seats.now i) (when (eqb i g.a.0) added)))))
    (c.when.ensures ∙ ap (when (ltb g.a.0 (length g.self.seats.now))) c.single.ensures)
    ∙ found_cong seat_count _ _ (λ i h. ap (holds_pair (sets_in g.self.conflicts.now)) (joint_put (sets_in g.self.graph.sets.now) g.self.seats.now g.a.0 g.b.0 i))
