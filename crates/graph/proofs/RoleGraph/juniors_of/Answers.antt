-- `graph::RoleGraph::juniors_of` meets its contract: taking from the roles below s those below these leaves the immediate juniors.
-- Assumes nothing.
use mathlib.Core.Path.{◌∙◌}
use Rattle.graph.specs.Reading.{drawn}
use Rattle.graph.proofs.DrawingCode.{juniors_picked}
use Rattle.graph.proofs.RoleGraph.juniors_of.Goals as goal

pub returns : goal.returns
returns c =
    let a = c.args in
    c.difference.ensures ∙ rw (c.all_lower.ensures, c.lower-under.ensures) (juniors_picked (drawn a.self) a.s.0)
