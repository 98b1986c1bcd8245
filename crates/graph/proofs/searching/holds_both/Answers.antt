-- `graph::searching::holds_both` meets its contract: the two tests are those of the definition.
-- Assumes nothing.
use Rattle.graph.specs.Conflicts.{holds_both}
use Rattle.graph.proofs.searching.holds_both.Goals as goal

pub returns-then-member : goal.returns-then-member
unfolding holds_both
returns-then-member c = rw (← c.member.ensures, c.if-member.true) c.member-then-member.ensures

pub returns-else-member : goal.returns-else-member
unfolding holds_both
returns-else-member c = rw (← c.member.ensures, c.if-member.false)
