-- A role's number is from 2 to 63.
-- Assumes nothing.
use native.Mathlib.Omega.{arith}
use Rattle.std.proofs.lemmas.Grind.{common_steps}
use Rattle.graph.specs.Graph.{is_end}
use Rattle.seats.specs.Images.{no_ordinary_number}
use Rattle.seats.proofs.image.RoleEntriesPart.passes.Goals as goal

pub returns-then-key-ge-LEAST_ORDINARY : goal.returns-then-key-ge-LEAST_ORDINARY
unfolding no_ordinary_number is_end
returns-then-key-ge-LEAST_ORDINARY c = grind (arith, common_steps)

pub returns-else-key-ge-LEAST_ORDINARY : goal.returns-else-key-ge-LEAST_ORDINARY
unfolding no_ordinary_number is_end
returns-else-key-ge-LEAST_ORDINARY c = grind (arith, common_steps)
