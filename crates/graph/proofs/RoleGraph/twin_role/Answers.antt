-- `graph::RoleGraph::twin_role` meets its contract: the first ordinary role with a twin above it is the lowest with a twin.
-- Assumes nothing.
use borrow.Author.Rules.{rules}
use Rattle.sets.proofs.Walking.{first_member}
use Rattle.graph.specs.Graph.{effective}
use Rattle.graph.specs.Refusing.{twin_role}
use Rattle.graph.specs.Reading.{drawn}
use Rattle.graph.proofs.Searches.{first_twin, twin_among}
use Rattle.graph.proofs.RoleGraph.twin_role.Goals as goal

pub returns : goal.returns
unfolding effective twin_role
returns c =
    let g = drawn c.args.self in
    first_twin g c.ordinary_roles-ordinary.ensures (first_member c.members.ensures (twin_among g c.ordinary_roles-ordinary.result) _ _ _ c.find.ensures.ran (λ r b q k. search rules))
