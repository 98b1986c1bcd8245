-- `graph::declaring::without_conflict` meets its contract: the higher privilege is taken out of the entry of the lower one, which has no number beyond the privileges.
-- Assumes nothing.
use borrow.Author.Rules.{rules}
use mathlib.Core.Path.{ap, ◌∙◌}
use Rattle.sets.specs.Sets.{difference}
use Rattle.sets.proofs.Laws.{taken_out}
use Rattle.graph.specs.Graph.{privilege_count}
use Rattle.graph.specs.Reading.{read_set}
use Rattle.graph.proofs.declaring.without_conflict.Goals as goal

pub returns : goal.returns
returns c =
    let e = c.entry in
    let high = c.max in
    (c.min-at.ensures, c.difference-set.ensures ∙ ap (difference _) c.single.ensures ∙ taken_out privilege_count (read_set e.result) high.result (search rules) ∙ rw (e.ensures, c.min-at.ensures, high.ensures))
