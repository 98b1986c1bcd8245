-- `sittings::records::formed` meets its contract: the call is what it reads as.
-- Assumes nothing.
use mathlib.Core.Path.{refl}
use Rattle.sittings.specs.Reading.{read_decoded}
use Rattle.sittings.proofs.records.formed.Goals as goal

pub returns : goal.returns
unfolding read_decoded
returns c = refl
