-- `graph::RoleGraph::empty_role` meets its contract: the first ordinary role whose set is empty is found.
-- Assumes nothing.
use borrow.Author.Rules.{rules}
use lib.Dec.{eqb}
use Rattle.sets.proofs.Walking.{first_member}
use Rattle.graph.specs.Tables.{at}
use Rattle.graph.specs.Graph.{effective}
use Rattle.graph.specs.Refusing.{empty_role}
use Rattle.graph.specs.Reading.{sets_in, drawn}
use Rattle.graph.proofs.Searches.{first_ordinary}
use Rattle.graph.proofs.RoleGraph.empty_role.Goals as goal

pub returns : goal.returns
unfolding effective empty_role
returns c =
    let g = c.args.self in
    first_ordinary (drawn g) (λ r. eqb (at (sets_in g.sets.now) r) 0) c.ordinary_roles.ensures
    (first_member c.members.ensures _ _ _ _ c.find.ensures.ran (λ r b q k. search rules))
