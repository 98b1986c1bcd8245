-- `keeper::block::held` meets its contract: a block with words for a sitting holds one.
-- Assumes nothing.
use mathlib.Core.Path.{ap, ◌∙◌}
use borrow.Author.Tests.{lt-leb, le-leb}
use Rattle.std.specs.Prelude.{Some}
use Rattle.sittings.specs.Sittings.{Sitting}
use Rattle.keeper.specs.Block.{sitting_in, of_sitting, read_held}
use Rattle.keeper.proofs.BlockWords.{sitting_first}
use Rattle.keeper.proofs.block.held.Goals as goal

pub returns-in_err-words : goal.returns-in_err-words
unfolding of_sitting read_held
returns-in_err-words c = rw c.from_residual.ensures (simp (lt-leb _ _ c.in_err-words.ensures.cases))

pub returns : goal.returns
unfolding of_sitting read_held
returns c =
    let e = c.in_ok-words.ensures.cases in
    rw (le-leb _ _ e.enough) (ap (λ (z : Sitting). Some z) (c.lent.ensures ∙ ap sitting_in e.same ∙ sitting_first c.args.block.now))
