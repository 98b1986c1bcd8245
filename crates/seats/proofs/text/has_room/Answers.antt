-- `text::has_room` meets its contract: no line is longer than the longest.
-- Assumes nothing.
use borrow.Author.Tests.{le-leb}
use mathlib.Core.Path.{sym, ◌∙◌}
use native.Mathlib.Omega.{arith}
use Rattle.seats.specs.Working.{line_length}
use Rattle.seats.proofs.Lines.{line_bound}
use Rattle.seats.proofs.text.has_room.Goals as goal

pub returns-then-room-ge-LINE : goal.returns-then-room-ge-LINE
returns-then-room-ge-LINE c =
    let k = line_bound {i = c.args.index} c.ranges.index.fits c.requires.0 c.requires.1 in
    le-leb 29 c.args.room c.if-room-ge-LINE.true ∙ sym (le-leb (line_length c.args.index c.args.x c.args.y) c.args.room (omega arith))
