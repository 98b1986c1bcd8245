-- `sets::Set::without_lowest` meets its contract: what a set has in common with the number before it is the set without its lowest member.
-- Assumes nothing.
use borrow.Author.Rules.{rules}
use mathlib.Core.Path.{ap, ◌∙◌}
use Rattle.sets.specs.Sets.{difference, without_lowest}
use Rattle.sets.proofs.Halves.{before_without}
use Rattle.sets.proofs.Set.without_lowest.Goals as goal

pub returns-then-s-eq0 : goal.returns-then-s-eq0
unfolding without_lowest difference
returns-then-s-eq0 g c = rw (← c.word-s.ensures, c.if-s-eq0.true)

pub returns : goal.returns
returns g c = c.of.ensures ∙ before_without 64 c.word-s.result (search rules) c.if-s-eq0.false ∙ ap (without_lowest 64) c.word-s.ensures
