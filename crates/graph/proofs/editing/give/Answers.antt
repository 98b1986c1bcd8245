-- `graph::editing::give` meets its contract: an exchange that takes nothing away.
-- Assumes nothing.
use mathlib.Core.Path.{◌∙◌}
use Rattle.graph.proofs.Holding.{joined_all}
use Rattle.graph.proofs.editing.give.Goals as goal

pub returns : goal.returns
returns c = joined_all _ _ _ (c.exchange.ensures ∙ rw c.empty.ensures)
