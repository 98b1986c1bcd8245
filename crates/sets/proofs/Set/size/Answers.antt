-- `sets::Set::size` meets its contract: the ones among 64 digits are the members below 64.
-- Assumes nothing.
use borrow.Author.Rules.{rules}
use mathlib.Core.Path.{ap, ◌∙◌}
use Rattle.sets.specs.Sets.{size}
use Rattle.sets.proofs.Halves.{ones_size}
use Rattle.sets.proofs.Set.size.Goals as goal

pub returns : goal.returns
returns g c = ones_size 64 c.word.result (search rules) ∙ ap (size 64) c.word.ensures
