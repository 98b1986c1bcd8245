-- `text::tail` meets its contract: it is the five texts that the code puts one behind the other.
-- Assumes nothing.
use borrow.Author.Rules.{rules}
use Rattle.seats.proofs.Written.{and_then, one_written, behind}
use Rattle.seats.proofs.text.tail.Goals as goal

pub returns : goal.returns
returns c =
    and_then (one_written _ _ _) (and_then (behind (search rules) c.put_digits-space.ensures) (and_then (one_written _ _ _) (and_then (behind (search rules) c.put_digits.ensures) (one_written _ _ _))))
