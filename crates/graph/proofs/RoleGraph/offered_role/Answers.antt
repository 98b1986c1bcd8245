-- `graph::RoleGraph::offered_role` meets its contract: the first ordinary role that holds both privileges is found.
-- Assumes nothing.
use borrow.Author.Rules.{rules}
use Rattle.sets.proofs.Walking.{first_member}
use Rattle.graph.specs.Tables.{at}
use Rattle.graph.specs.Graph.{effective}
use Rattle.graph.specs.Refusing.{offered_role}
use Rattle.graph.specs.Reading.{sets_in, drawn}
use Rattle.graph.proofs.Searches.{first_ordinary}
use Rattle.graph.specs.Conflicts.{holds_both}
use Rattle.graph.proofs.RoleGraph.offered_role.Goals as goal

pub returns : goal.returns
unfolding effective offered_role
returns c =
    let g = c.args.self in
    first_ordinary (drawn g) (λ r. holds_both c.args.a.0 c.args.b.0 (at (sets_in g.sets.now) r)) c.ordinary_roles.ensures
    (first_member c.members.ensures _ _ _ _ c.find.ensures.ran (λ r b q k. search rules))
