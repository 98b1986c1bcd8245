-- `refusing::in_either` meets its contract: the first set has the number, or the second decides.
-- Assumes nothing.
use mathlib.Core.Path.{sym, ◌∙◌}
use Rattle.graph.proofs.refusing.in_either.Goals as goal

pub returns-then-member : goal.returns-then-member
returns-then-member c = simp (sym c.member.ensures ∙ c.if-member.true) c.if-member.true

pub returns-else-member : goal.returns-else-member
returns-else-member c = simp (sym c.member.ensures ∙ c.if-member.false) c.member-else-member.ensures
