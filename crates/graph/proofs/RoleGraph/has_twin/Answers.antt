-- `graph::RoleGraph::has_twin` meets its contract: some role above r has its set.
-- Assumes nothing.
use mathlib.Core.Path.{◌∙◌}
use Rattle.graph.proofs.RoleGraph.has_twin.Goals as goal

pub returns : goal.returns
returns c = c.has_set.ensures ∙ rw (c.above.ensures, c.effective_of.ensures)
