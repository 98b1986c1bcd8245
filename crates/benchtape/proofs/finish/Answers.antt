-- `finish` meets its contract: what it writes is the last line, with the number of edges of the sitting.
-- Assumes nothing.
use mathlib.Core.Path.{sym, ap, ◌∙◌}
use lib.Seq.{length-take-le}
use Rattle.seats.specs.Tape.{end_line}
use Rattle.benchtape.proofs.Going.{line_told, edges_of}
use Rattle.benchtape.proofs.finish.Goals as goal

pub slice_bounds-room-end : goal.slice_bounds-room-end
slice_bounds-room-end c = (line_told c.in_ok-n.was _ _ c.write_end.ensures).0

pub slice_bounds-write_last-end : goal.slice_bounds-write_last-end
slice_bounds-write_last-end c = sym (length-take-le _ _ (line_told c.in_ok-n.was _ _ c.write_end.ensures).0)

pub write_last-requires : goal.write_last-requires
write_last-requires c =
    let n = c.from-edges.ensures ∙ c.edge_count.ensures ∙ edges_of c.lent.result c.lent.ensures in
    (c.requires, (line_told c.in_ok-n.was _ _ c.write_end.ensures).1 ∙ ap (end_line c.args.progress.count) n)
