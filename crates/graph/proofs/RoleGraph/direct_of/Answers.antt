-- `graph::RoleGraph::direct_of` meets its contract: taking from the set of s what its immediate juniors have leaves its direct privileges.
-- Assumes nothing.
use mathlib.Core.Path.{◌∙◌}
use Rattle.graph.specs.Graph.{effective}
use Rattle.graph.specs.Drawing.{direct}
use Rattle.graph.proofs.RoleGraph.direct_of.Goals as goal

pub returns : goal.returns
unfolding direct effective
returns c = c.difference.ensures ∙ rw (c.effective_of.ensures, c.inherited-held.ensures)
