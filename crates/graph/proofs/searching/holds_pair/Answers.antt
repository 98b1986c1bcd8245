-- `graph::searching::holds_pair` meets its contract: the lower privilege of a pair is a member with a partner above it.
-- Assumes nothing.
use borrow.Author.Rules.{rules}
use Rattle.sets.specs.Counting.{any}
use Rattle.sets.specs.Sets.{member}
use Rattle.sets.proofs.Walking.{any_member}
use Rattle.graph.specs.Graph.{privilege_count}
use Rattle.graph.specs.Conflicts.{conflict, holds_pair}
use Rattle.graph.specs.Reading.{read_set, sets_in}
use Rattle.graph.proofs.searching.holds_pair.Goals as goal
use mathlib.Core.Bool.{◌&&◌}

pub returns : goal.returns
unfolding holds_pair
returns c =
    let C = sets_in c.args.conflicts.now in
    let s = read_set c.args.s in
    any_member c.members.ensures (λ p. any privilege_count (λ q. member q s && conflict C p q)) _ _ _ c.any.ensures.ran (λ p b q k. search rules)
