-- `graph::editing::Laid::add_by_place` meets its contract: one role more, with edges from its juniors and to its seniors.
-- Assumes nothing.
use borrow.Author.Rules.{rules}
use Prim.Native.Nat.{◌<◌, ◌^◌}
use Rattle.graph.specs.Graph.{privilege_count}
use Rattle.graph.specs.Reading.{read_set}
use Rattle.graph.proofs.Holding.{add_by_place_holds}
use Rattle.graph.proofs.editing.Laid.add_by_place.Goals as goal
use Rattle.graph.proofs.editing.Laid.add_by_place.Goals.{After-single-role}

-- The direct set is one of privileges.
own-lt : (c : After-single-role) → c.args.own.word < 2 ^ privilege_count
own-lt c = search rules

pub returns : goal.returns
returns c g h e =
    let p = c.args in
    add_by_place_holds g (search rules) h p.a.0 (read_set p.own) p.under p.over (own-lt (goal.at.returns c).After-single-role) (search rules) (search rules) e c.single-role.ensures c.give.ensures
    c.exchange.ensures c.exchange-2.ensures c.union-self.ensures
