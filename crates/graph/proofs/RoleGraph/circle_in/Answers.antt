-- `graph::RoleGraph::circle_in` meets its contract: the first junior at which a circle closes is found.
-- Assumes nothing.
use borrow.Author.Rules.{rules}
use mathlib.Core.Bool.{◌&&◌}
use Rattle.sets.specs.Counting.{any}
use Rattle.sets.specs.Sets.{member}
use Rattle.sets.proofs.Walking.{first_member}
use Rattle.graph.specs.Graph.{role_count}
use Rattle.graph.specs.Refusing.{at_or_below}
use Rattle.graph.specs.Reading.{drawn}
use Rattle.graph.proofs.Searches.{read_first}
use Rattle.graph.proofs.RoleGraph.circle_in.Goals as goal

pub returns : goal.returns
returns c =
    let a = c.args in
    let circle = λ (j : _). any role_count (λ s. member s a.seniors && at_or_below (drawn a.self) s j) in
    read_first role_count (λ j. member j a.juniors && circle j) (first_member c.members.ensures circle _ _ _ c.find.ensures.ran (λ r b q k. search rules))
