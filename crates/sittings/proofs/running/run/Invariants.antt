-- What is left of the part, and the measure: its bytes from the reader's place on.
use mathlib.Core.Path.{◌≡◌}
use Prim.Native.Nat.{◌-◌}
use lib.ListN.{length}
use Rattle.seats.proofs.Feeding.{Left}
use Rattle.sittings.specs.Records.{step}
use Rattle.sittings.specs.Reading.{read_sitting}
use Rattle.sittings.proofs.running.run.Given as goal

abbrev pub invariant-loop-reader : goal.invariant-loop-reader
invariant-loop-reader l = (l.reader.tape.now ≡ l.part) × Left step l.initial.buffer l.count l.part (read_sitting l.fn.sitting) l.buffer (record { index = l.index; length = l.length }) l.reader.at (read_sitting l.sitting)

abbrev pub decreases-loop-reader : goal.decreases-loop-reader
decreases-loop-reader l = length l.part - l.reader.at
