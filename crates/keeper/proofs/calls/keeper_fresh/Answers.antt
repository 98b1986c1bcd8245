-- `keeper::calls::keeper_fresh` meets its contract: what it begins with is the fresh state.
-- Assumes nothing.
use mathlib.Core.Path.{refl, ap, ◌∙◌}
use borrow.Author.Tests.{lt-leb, le-leb}
use Rattle.seats.specs.Seats.{State}
use Rattle.seats.specs.Calls.{accepted}
use Rattle.seats.specs.Tape.{answer_number, answer_place}
use Rattle.sittings.specs.Sittings.{begun, fresh}
use Rattle.keeper.specs.Block.{words_of, of_sitting, code_of}
use Rattle.keeper.specs.Exports.{fresh_block}
use Rattle.keeper.proofs.CodedAnswer.{gives}
use Rattle.keeper.proofs.calls.keeper_fresh.Goals as goal

pub returns-in_default : goal.returns-in_default
unfolding fresh_block of_sitting
returns-in_default c = simp (lt-leb _ _ c.in_default.ensures.cases)

pub returns : goal.returns
unfolding fresh_block of_sitting fresh code_of answer_number answer_place
returns c =
    rw (le-leb _ _ c.in-Some.ensures.cases.enough)
    (gives c.args.block.now accepted fresh refl (c.begin.ensures ∙ ap (λ (s : State). words_of (begun s)) c.fresh.ensures) refl)
