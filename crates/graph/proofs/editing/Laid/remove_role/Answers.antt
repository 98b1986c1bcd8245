-- `graph::editing::Laid::remove_role` meets its contract: one role less; its juniors go to its seniors, and where they are handed up its direct privileges too.
-- Assumes nothing.
use borrow.Author.Rules.{rules}
use mathlib.Core.Bool.{Bool}
use mathlib.Core.Path.{ap, ◌∙◌}
use Rattle.sets.specs.Sets.{when}
use Rattle.graph.specs.Reading.{read_set}
use Rattle.graph.proofs.Holding.{remove_role_holds}
use Rattle.graph.proofs.editing.Laid.remove_role.Goals as goal

pub returns : goal.returns
returns c g h e =
    let own = c.entry-own.result in
    remove_role_holds g (search rules) h c.args.a.0 _ e c.single-role.ensures c.senior_roles.ensures c.seniors_in-over.ensures c.entry-own.ensures
    (c.when.ensures ∙ ap (λ (b : Bool). when b (read_set own)) c.hands_up.ensures)
    c.give.ensures c.take.ensures c.entry-under.ensures c.exchange.ensures c.exchange-2.ensures c.difference-self.ensures
