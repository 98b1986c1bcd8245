-- `graph::declaring::has_pair` meets its contract: the code looks for the higher number in the entry of the lower one.
-- Assumes nothing.
use borrow.Author.Tests.{lt-ltb, le-ltb}
use mathlib.Core.Path.{◌∙◌, ap₂}
use Rattle.sets.specs.Sets.{member}
use Rattle.graph.specs.Conflicts.{conflict, declared}
use Rattle.graph.proofs.declaring.has_pair.Goals as goal

pub returns-then-lower-higher : goal.returns-then-lower-higher
unfolding conflict declared
returns-then-lower-higher g c =
    rw (← c.min-lower.ensures, ← c.max-higher.ensures, lt-ltb _ _ c.if-lower-higher.true)
    (c.member.ensures ∙ ap₂ member c.member_of.ensures c.entry.ensures)

pub returns-else-lower-higher : goal.returns-else-lower-higher
unfolding conflict declared
returns-else-lower-higher g c = rw (← c.min-lower.ensures, ← c.max-higher.ensures, le-ltb _ _ c.if-lower-higher.false)
