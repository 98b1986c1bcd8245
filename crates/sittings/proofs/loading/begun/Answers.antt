-- `sittings::loading::begun` meets its contract: both tables are empty.
-- Assumes nothing.
use mathlib.Core.Path.{refl}
use Rattle.sittings.specs.Sittings.{begun}
use Rattle.sittings.proofs.loading.begun.Goals as goal

pub returns : goal.returns
unfolding begun
returns c = refl
