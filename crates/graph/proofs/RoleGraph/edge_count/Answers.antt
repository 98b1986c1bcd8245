-- `graph::RoleGraph::edge_count` meets its contract: the immediate juniors of all roles are as many as the edges.
-- Assumes nothing.
use borrow.Author.Rules.{rules}
use mathlib.Core.Path.{◌∙◌}
use Rattle.graph.specs.Reading.{drawn}
use Rattle.graph.proofs.DrawingCode.{seniors_cover, edges_counted}
use Rattle.graph.proofs.RoleGraph.edge_count.Goals as goal

pub returns : goal.returns
returns c =
    let g = drawn c.args.self in
    c.total_size.ensures ∙ rw (c.senior_roles.ensures, c.draw-juniors.ensures) (edges_counted g (search rules) _ (seniors_cover g))
