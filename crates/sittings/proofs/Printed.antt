-- What a tape prints: its lines and the last line, whole or in parts.
-- Assumes nothing.
use mathlib.Core.List.{List, ◌++◌}
use mathlib.Core.Path.{◌≡◌, sym, ap, ◌∙◌}
use Prim.Native.Nat.{ℕ}
use native.Mathlib.Nat.{zero-add}
use lib.ListN.{length}
use Rattle.graph.specs.Drawing.{edge_count}
use Rattle.seats.specs.Tape.{records, lines, end_line, fed, Parts, joined, fed_parts}
use Rattle.seats.proofs.TapeRecords.{parts_whole}
use Rattle.sittings.specs.Sittings.{Sitting, fresh}
use Rattle.sittings.specs.Records.{step}
use Rattle.sittings.specs.Lists.{answers, end}
use Rattle.sittings.specs.Tape.{printed}

-- What a tape prints: its lines, and the last line.
pub printed_whole : (tape : List ℕ) → let (text, (count, z)) = fed step fresh 0 tape in printed tape ≡ text ++ end_line count (edge_count z.state.graph)
unfolding printed fed answers end
printed_whole tape =
    let l = records tape in
    ap (λ (n : ℕ). lines 1 (answers fresh l) ++ end_line n (edge_count (end fresh l).state.graph)) (sym (zero-add (length l)))

-- What a tape in parts prints: the lines of its parts, one part after another, and the last line.
pub printed-parts : (parts : List (List ℕ)) → Parts parts
    → let (text, (count, z)) = fed_parts step fresh 0 parts in printed (joined parts) ≡ text ++ end_line count (edge_count z.state.graph)
printed-parts parts h =
    printed_whole (joined parts)
    ∙ sym (ap (λ (x : List ℕ × (ℕ × Sitting)). x.0 ++ end_line x.1.0 (edge_count x.1.1.state.graph)) (parts_whole step fresh 0 parts h))
