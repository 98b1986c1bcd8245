-- `graph::RoleGraph::has_set` meets its contract: some role among these has the set.
-- Assumes nothing.
use borrow.Author.Rules.{rules}
use lib.Dec.{eqb}
use Rattle.sets.proofs.Walking.{any_member}
use Rattle.graph.specs.Tables.{at}
use Rattle.graph.specs.Reading.{read_set, sets_in}
use Rattle.graph.proofs.RoleGraph.has_set.Goals as goal

pub returns : goal.returns
returns c =
    any_member c.members.ensures (λ r. eqb (at (sets_in c.args.self.sets.now) r) (read_set c.args.s)) _ _ _ c.any.ensures.ran (λ r b q k. search rules)
