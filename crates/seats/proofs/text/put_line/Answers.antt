-- `text::put_line` meets its contract: the index and its tail, where they have room.
-- Assumes nothing.
use borrow.Author.Tests.{leb-true, leb-false}
use borrow.Author.Rules.{rules}
use native.Mathlib.Omega.{arith}
use mathlib.Core.Path.{◌≡◌, sym, ◌∙◌}
use Rattle.seats.specs.Reading.{read_answer}
use Rattle.seats.specs.Tape.{answer_number, answer_place}
use Rattle.seats.proofs.Written.{and_then, behind}
use Rattle.seats.proofs.Lines.{length-tail, line_left_out, line_put}
use Rattle.seats.proofs.text.put_line.Goals as goal
use Rattle.seats.proofs.text.put_line.Goals.{After-from-p}

-- Of the answer's number and place: that they are.
number : (a : After-from-p) → (a.from-n.result ≡ answer_number (read_answer a.args.answer)) × (a.from-p.result ≡ answer_place (read_answer a.args.answer))
number a = (a.from-n.ensures ∙ a.number_of.ensures, a.from-p.ensures ∙ a.place_of.ensures)

pub returns-then-not-has_room : goal.returns-then-not-has_room
returns-then-not-has_room c =
    let (x, y) = number (goal.at.returns-then-not-has_room c).After-from-p in
    rw c.line_length.ensures (line_left_out c.args.buffer.now c.args.index (read_answer c.args.answer) x y c.ranges.index.fits (search rules) (search rules) (leb-false _ _ (sym c.if-not-has_room.ensures)))

pub returns : goal.returns
returns c =
    let (x, y) = number (goal.at.returns c).After-from-p in
    let n = length-tail c.from-n.result c.from-p.result in
    line_put c.args.buffer.now c.args.index (read_answer c.args.answer) x y c.ranges.index.fits (search rules) (search rules) (leb-true _ _ (sym c.if-not-has_room.ensures))
    (and_then c.put_digits-j.ensures (behind (search (arith, leb-true _ _ (sym c.if-not-has_room.ensures))) c.tail.ensures))
