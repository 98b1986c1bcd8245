-- `graph::refusing::refuse` meets its contract: the refusal is read by its number and place.
-- Assumes nothing.
use mathlib.Core.Path.{refl}
use Rattle.graph.specs.Reading.{read_verdict}
use Rattle.graph.proofs.refusing.refuse.Goals as goal

pub returns : goal.returns
unfolding read_verdict
returns c = refl
