-- `tape::fresh` meets its contract: a fresh state begins a sitting.
-- Assumes nothing.
use mathlib.Core.Path.{ap, ◌∙◌}
use Rattle.sittings.specs.Sittings.{begun, fresh}
use Rattle.sittings.proofs.tape.fresh.Goals as goal

pub returns : goal.returns
unfolding fresh
returns c = c.begun.ensures ∙ ap begun c.fresh.ensures
