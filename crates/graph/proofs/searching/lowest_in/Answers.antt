-- `graph::searching::lowest_in` meets its contract: the first member is the lowest.
-- Assumes nothing.
use Rattle.sets.specs.Sets.{member}
use Rattle.sets.proofs.Walking.{lowest_first}
use Rattle.graph.specs.Graph.{role_count}
use Rattle.graph.proofs.Searches.{read_first}
use Rattle.graph.proofs.searching.lowest_in.Goals as goal

pub returns : goal.returns
returns c =
    read_first role_count (λ n. member n c.args.s) (lowest_first c.members.ensures _ _ c.next.ensures.steps)
