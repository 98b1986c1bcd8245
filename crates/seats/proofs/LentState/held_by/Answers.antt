-- `seats::LentState::held_by` meets its contract: what a seat holds is the union of its roles' sets.
-- Assumes nothing.
use mathlib.Core.Path.{ap, ◌∙◌}
use Prim.Native.Nat.{ℕ}
use Rattle.sets.specs.Sets.{member, gather}
use Rattle.graph.specs.Graph.{role_count, effective}
use Rattle.graph.specs.Tables.{at}
use Rattle.graph.specs.Reading.{sets_in}
use Rattle.seats.specs.Seats.{assigned, held}
use Rattle.seats.proofs.LentState.held_by.Goals as goal

pub returns : goal.returns
unfolding held assigned effective
returns c =
    c.union_at.ensures
    ∙ ap (λ (roles : ℕ). gather role_count (λ r. member r roles) (at (sets_in c.args.self.graph.sets.now))) c.roles_of.ensures
