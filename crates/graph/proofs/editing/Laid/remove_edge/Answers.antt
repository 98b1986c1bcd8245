-- `graph::editing::Laid::remove_edge` meets its contract: one edge less, and its ends joined to what lay beyond.
-- Assumes nothing.
use borrow.Author.Rules.{rules}
use Rattle.graph.proofs.Holding.{remove_edge_holds}
use Rattle.graph.proofs.editing.Laid.remove_edge.Goals as goal

pub returns : goal.returns
returns c g h e =
    let p = c.args in
    remove_edge_holds g (search rules) h p.a.0 p.b.0 e c.single-junior.ensures c.single-senior.ensures c.entry-under.ensures c.senior_roles.ensures c.seniors_in-over.ensures
    c.exchange.ensures c.exchange-2.ensures
