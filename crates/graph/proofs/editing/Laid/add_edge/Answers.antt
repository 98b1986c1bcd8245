-- `graph::editing::Laid::add_edge` meets its contract: one edge more.
-- Assumes nothing.
use Rattle.graph.proofs.Holding.{add_edge_holds}
use Rattle.graph.proofs.editing.Laid.add_edge.Goals as goal

pub returns : goal.returns
returns c g h e =
    let p = c.args in
    add_edge_holds g h p.a.0 p.b.0 e c.single-junior.ensures c.single-senior.ensures c.exchange.ensures
