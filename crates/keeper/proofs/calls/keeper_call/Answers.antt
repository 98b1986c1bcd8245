-- `keeper::calls::keeper_call` meets its contract: it is the code of what the record is answered.
-- Assumes nothing.
use mathlib.Core.Path.{ap, ◌∙◌}
use borrow.Author.Tests.{lt-leb, le-leb}
use Rattle.sittings.specs.Sittings.{Sitting}
use Rattle.sittings.specs.Records.{step}
use Rattle.keeper.specs.Block.{sitting_in, of_sitting}
use Rattle.keeper.specs.Exports.{left, call_block}
use Rattle.keeper.proofs.BlockWords.{sitting_first}
use Rattle.keeper.proofs.CodedAnswer.{coded}
use Rattle.keeper.proofs.calls.keeper_call.Goals as goal

pub returns-in_default : goal.returns-in_default
unfolding call_block of_sitting
returns-in_default c = simp (lt-leb _ _ c.in_default.ensures.cases)

pub returns : goal.returns
unfolding call_block of_sitting
returns c =
    let W = c.args.block.now in
    let e = c.in-Some.ensures.cases in
    let z = ap sitting_in e.same ∙ sitting_first W in
    rw (le-leb _ _ e.enough) (coded W _ c.code.ensures.0 (c.take.ensures ∙ ap (λ (z : Sitting). left (step z c.args.bytes.now)) z))
