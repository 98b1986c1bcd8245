-- `refusing::is_present` meets its contract: an end role, or a member of the roles.
-- Assumes nothing.
use borrow.Author.Tests.{lt-ltb, le-ltb}
use Rattle.graph.specs.Graph.{is_end, present}
use Rattle.graph.proofs.refusing.is_present.Goals as goal

pub returns-then-r-lt2 : goal.returns-then-r-lt2
unfolding present is_end
returns-then-r-lt2 c = simp (lt-ltb _ 2 c.if-r-lt2.true)

pub returns-else-r-lt2 : goal.returns-else-r-lt2
unfolding present is_end
returns-else-r-lt2 c = simp (le-ltb _ 2 c.if-r-lt2.false) c.member.ensures
