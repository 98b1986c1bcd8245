-- `sets::Set::single` meets its contract: a shift of 1 by fewer than 64 places makes the set of n alone.
-- Assumes nothing.
use borrow.Author.Tests.{lt-ltb, le-ltb}
use mathlib.Core.Path.{◌∙◌}
use Rattle.sets.specs.Sets.{when}
use Rattle.sets.proofs.Laws.{shifted_single}
use Rattle.sets.proofs.Set.single.Goals as goal
use Rattle.sets.proofs.Set.single.Goals.{then-i-lt64, else-i-lt64}

pub returns : goal.returns
unfolding when
returns g c =
    let i = c.number-i.result in
    c.of.ensures
    ∙ rw (← c.number-i.ensures)
    (elim c.if-i-lt64.branch [
      | then-i-lt64 w ↦ w.of-is ∙ rw (lt-ltb i 64 w.if-i-lt64.true) (shifted_single i w.if-i-lt64.true)
      | else-i-lt64 w ↦ w.of-is ∙ rw (le-ltb i 64 w.if-i-lt64.false)
    ])
