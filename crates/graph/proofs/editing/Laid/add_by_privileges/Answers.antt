-- `graph::editing::Laid::add_by_privileges` meets its contract: one role more, with its set as direct privileges.
-- Assumes nothing.
use borrow.Author.Rules.{rules}
use Rattle.graph.specs.Reading.{read_set}
use Rattle.graph.proofs.Holding.{add_by_privileges_holds}
use Rattle.graph.proofs.editing.Laid.add_by_privileges.Goals as goal

pub returns : goal.returns
returns c g h e =
    let p = c.args in
    add_by_privileges_holds g (search rules) h p.a.0 (read_set p.own) (search rules) e c.single-role.ensures c.give.ensures c.union-self.ensures
