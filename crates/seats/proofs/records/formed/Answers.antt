-- `records::formed` meets its contract: each return is a case of the test.
-- Assumes nothing.
use native.Mathlib.Omega.{arith}
use Rattle.std.proofs.lemmas.Grind.{common_steps}
use Rattle.seats.specs.Reading.{read_decoded}
use Rattle.seats.proofs.records.formed.Goals as goal

pub returns-then-rest : goal.returns-then-rest
unfolding read_decoded
returns-then-rest c = grind (arith, common_steps)

pub returns-else-b-most : goal.returns-else-b-most
unfolding read_decoded
returns-else-b-most c = grind (arith, common_steps)
