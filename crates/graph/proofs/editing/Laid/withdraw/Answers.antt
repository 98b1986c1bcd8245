-- `graph::editing::Laid::withdraw` meets its contract: one direct privilege less, no edge changed.
-- Assumes nothing.
use Rattle.graph.proofs.Holding.{withdraw_holds}
use Rattle.graph.proofs.editing.Laid.withdraw.Goals as goal

pub returns : goal.returns
returns c g h e =
    let p = c.args in
    withdraw_holds g h p.a.0 p.b.0 e c.single-role.ensures c.single.ensures c.take.ensures
