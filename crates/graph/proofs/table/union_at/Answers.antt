-- `graph::table::union_at` meets its contract: the fold joins the entries of the members.
-- Assumes nothing.
use borrow.Author.Rules.{rules}
use Rattle.sets.proofs.Walking.{gathered_members}
use Rattle.graph.specs.Tables.{at}
use Rattle.graph.proofs.table.union_at.Goals as goal

pub returns : goal.returns
returns g c = gathered_members c.members.ensures g.S.Set.read c.empty.ensures (at (g.S.Set.sets_in c.args.table.now)) _ c.fold.ensures.ran (λ b n d q k. search rules)
