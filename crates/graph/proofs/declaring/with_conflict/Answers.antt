-- `graph::declaring::with_conflict` meets its contract: the higher privilege is put into the entry of the lower one, and a number beyond the privileges puts nothing in.
-- Assumes nothing.
use mathlib.Core.Path.{◌∙◌}
use Rattle.graph.proofs.declaring.with_conflict.Goals as goal

pub returns : goal.returns
returns c = (c.min-at.ensures, c.union-set.ensures ∙ rw (c.entry.ensures, c.min-at.ensures, c.single.ensures, c.max.ensures))
