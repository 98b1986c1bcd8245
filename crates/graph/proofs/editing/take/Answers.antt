-- `graph::editing::take` meets its contract: an exchange that joins nothing.
-- Assumes nothing.
use mathlib.Core.Path.{◌∙◌}
use Rattle.graph.proofs.Holding.{taken_all}
use Rattle.graph.proofs.editing.take.Goals as goal

pub returns : goal.returns
returns c = taken_all _ _ _ (c.exchange.ensures ∙ rw c.empty.ensures)
