-- `sets::Set::lowest_alone` meets its contract: what a set loses with its lowest member is that member.
-- Assumes nothing.
use borrow.Author.Rules.{rules}
use mathlib.Core.Path.{sym, ap, ◌∙◌}
use Rattle.sets.specs.Sets.{difference, without_lowest, lowest_alone}
use Rattle.sets.proofs.Walks.{lowest_taken}
use Rattle.sets.proofs.Set.lowest_alone.Goals as goal

pub returns : goal.returns
unfolding difference
returns g c =
    let s = c.word-s.result in
    c.of.ensures
    ∙ ap (difference s) (c.word-left.ensures ∙ c.without_lowest.ensures ∙ ap (without_lowest 64) (sym c.word-s.ensures))
    ∙ lowest_taken 64 s (search rules)
    ∙ ap (lowest_alone 64) c.word-s.ensures
