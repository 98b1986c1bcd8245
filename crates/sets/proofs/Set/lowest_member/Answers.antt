-- `sets::Set::lowest_member` meets its contract: the zeros below the lowest one among 64 digits are the numbers below the lowest member.
-- Assumes nothing.
use mathlib.Core.Path.{ap, ◌∙◌}
use Rattle.sets.specs.Sets.{lowest_member}
use Rattle.sets.proofs.Halves.{trailing_lowest}
use Rattle.sets.proofs.Set.lowest_member.Goals as goal

pub returns : goal.returns
returns g c = trailing_lowest 64 c.word.result ∙ ap (lowest_member 64) c.word.ensures
