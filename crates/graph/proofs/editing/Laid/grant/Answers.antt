-- `graph::editing::Laid::grant` meets its contract: one direct privilege more, no edge changed.
-- Assumes nothing.
use Rattle.graph.proofs.Holding.{grant_holds}
use Rattle.graph.proofs.editing.Laid.grant.Goals as goal

pub returns : goal.returns
returns c g h e =
    let p = c.args in
    grant_holds g h p.a.0 p.b.0 e c.single-role.ensures c.single.ensures c.give.ensures
