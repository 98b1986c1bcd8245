-- `keeper::images::keeper_load` meets its contract: an image that passes begins a sitting, and a refused one leaves the block.
-- Assumes nothing.
use mathlib.Core.Path.{refl, sym, ap, ◌∙◌}
use borrow.Author.Tests.{lt-leb, le-leb}
use Rattle.seats.specs.Calls.{accepted, refused}
use Rattle.seats.specs.Tape.{answer_number, answer_place}
use Rattle.seats.specs.Reading.{read_state, read_image, read_answer}
use Rattle.seats.proofs.LoadChecks.{loads_passed, loads_refused}
use Rattle.sittings.specs.Sittings.{begun}
use Rattle.sittings.specs.Images.{settle_load, load_over}
use Rattle.keeper.specs.Block.{sitting_in, of_sitting, code_of}
use Rattle.keeper.specs.Exports.{load_block}
use Rattle.keeper.proofs.BlockWords.{words_first}
use Rattle.keeper.proofs.CodedAnswer.{gives}
use Rattle.keeper.proofs.images.keeper_load.Goals as goal

pub returns-in_default : goal.returns-in_default
unfolding load_block of_sitting
returns-in_default c = simp (lt-leb _ _ c.in_default.ensures.cases)

pub returns-in-Ok : goal.returns-in-Ok
unfolding load_block of_sitting load_over settle_load code_of answer_number answer_place read_image
returns-in-Ok c =
    let W = c.args.block.now in
    let e = loads_passed c.args.bytes.now (read_state c.in-Ok.state) c.in-Ok.ensures in
    rw (le-leb _ _ c.in-Some.ensures.cases.enough)
    (gives W accepted (begun (read_state c.in-Ok.state)) refl c.begin.ensures (sym (ap (settle_load (sitting_in W)) e)))

pub returns-in-Err : goal.returns-in-Err
unfolding read_answer load_block of_sitting load_over settle_load read_image
returns-in-Err c =
    let W = c.args.block.now in
    let first = c.in-Some.ensures.cases in
    let e = loads_refused c.args.bytes.now _ _ _ c.in-Err.ensures in
    rw (le-leb _ _ first.enough)
    (gives W (refused _ _) (sitting_in W) c.code.ensures.0 (first.same ∙ sym (words_first W first.enough)) (sym (ap (settle_load (sitting_in W)) e)))
