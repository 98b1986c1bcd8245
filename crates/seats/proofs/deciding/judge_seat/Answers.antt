-- `seats::deciding::judge_seat` meets its contract: the seat's number is judged first, then the role.
-- Assumes nothing.
use borrow.Author.Tests.{le-leb, lt-leb}
use mathlib.Core.Path.{sym, ◌∙◌}
use Rattle.graph.proofs.Judging.{stops, moves_on}
use Rattle.seats.proofs.deciding.judge_seat.Goals as goal

pub returns-then-a-ge64 : goal.returns-then-a-ge64
returns-then-a-ge64 c = c.refuse.ensures ∙ sym (stops _ _ (le-leb 64 _ c.if-a-ge64.true))

pub returns : goal.returns
returns c = c.judge_role.ensures ∙ sym (moves_on _ _ (lt-leb 64 _ c.if-a-ge64.false))
