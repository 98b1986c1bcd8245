-- `records::removal` meets its contract: 0 drops the direct privileges, and any other number hands them up.
-- Assumes nothing.
use native.Mathlib.Omega.{arith}
use Rattle.graph.specs.Reading.{read_removal}
use Rattle.seats.proofs.records.removal.Goals as goal

pub returns-then-b-eq0 : goal.returns-then-b-eq0
unfolding read_removal
returns-then-b-eq0 c = omega (arith, c.if-b-eq0.true)

pub returns-else-b-eq0 : goal.returns-else-b-eq0
unfolding read_removal
returns-else-b-eq0 c = omega (arith, c.if-b-eq0.false)
