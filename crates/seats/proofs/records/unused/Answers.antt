-- `records::unused` meets its contract: each set is tested.
-- Assumes nothing.
use native.Mathlib.Omega.{arith}
use Rattle.std.proofs.lemmas.Grind.{common_steps}
use Rattle.seats.specs.Records.{all_empty}
use Rattle.seats.proofs.records.unused.Goals as goal

pub returns-then-y-eq0 : goal.returns-then-y-eq0
unfolding all_empty
returns-then-y-eq0 c = grind (arith, common_steps)

pub returns-else-y-eq0 : goal.returns-else-y-eq0
unfolding all_empty
returns-else-y-eq0 c = grind (arith, common_steps)
