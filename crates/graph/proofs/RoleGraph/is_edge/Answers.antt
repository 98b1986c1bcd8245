-- `graph::RoleGraph::is_edge` meets its contract: r is below s, and no role lies between.
-- Assumes nothing.
use Rattle.order.specs.Paths.{drawn}
use Rattle.graph.specs.Drawing.{edge}
use Rattle.graph.proofs.RoleGraph.is_edge.Goals as goal

pub returns-then-is_below : goal.returns-then-is_below
unfolding edge drawn
returns-then-is_below c = rw (c.has_between.ensures, ← c.is_below.ensures, c.if-is_below.true)

pub returns-else-is_below : goal.returns-else-is_below
unfolding edge drawn
returns-else-is_below c = rw (← c.is_below.ensures, c.if-is_below.false)
