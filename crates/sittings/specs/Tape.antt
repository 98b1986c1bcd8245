-- Document 01, "The tape": what benchtape prints. A tape is fed to a sitting by the definitions of `seats`, which hold for any step.
use Rattle.std.specs.Prelude.{List, ◌++◌, ℕ, length}
use Rattle.graph.specs.Drawing.{edge_count}
use Rattle.seats.specs.Tape.{records, lines, end_line}
use Rattle.sittings.specs.Sittings.{fresh}
use Rattle.sittings.specs.Lists.{answers, end}

-- What benchtape prints for a tape.
unfoldable pub printed : List ℕ → List ℕ
printed tape =
    let l = records tape in
    lines 1 (answers fresh l) ++ end_line (length l) (edge_count (end fresh l).state.graph)
