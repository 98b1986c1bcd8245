-- `graph::RoleGraph::seniors_of` meets its contract: the roles whose immediate juniors have r are its immediate seniors.
-- Assumes nothing.
use borrow.Author.Rules.{rules}
use mathlib.Core.Path.{◌∙◌}
use Rattle.graph.specs.Reading.{drawn}
use Rattle.graph.proofs.DrawingCode.{seniors_cover, seniors_found}
use Rattle.graph.proofs.RoleGraph.seniors_of.Goals as goal

pub returns : goal.returns
returns c =
    let a = c.args in
    let g = drawn a.self in
    c.seniors_in.ensures ∙ rw (c.senior_roles.ensures, c.draw-joins.ensures) (seniors_found g (search rules) _ (seniors_cover g) a.r.0)
