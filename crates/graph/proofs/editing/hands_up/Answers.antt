-- `graph::editing::hands_up` meets its contract: b is 1 where the direct privileges go to the immediate seniors.
-- Assumes nothing.
use Rattle.graph.specs.Reading.{read_removal}
use Rattle.graph.proofs.editing.hands_up.Goals as goal

pub returns-in-Dropped : goal.returns-in-Dropped
unfolding read_removal
returns-in-Dropped c = rw c.in-Dropped.is

pub returns-in-HandedUp : goal.returns-in-HandedUp
unfolding read_removal
returns-in-HandedUp c = rw c.in-HandedUp.is
