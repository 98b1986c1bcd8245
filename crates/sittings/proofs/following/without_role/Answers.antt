-- `sittings::following::without_role` meets its contract: it gives each row without the role, and the role's own row empty.
-- Assumes nothing.
use borrow.Author.Rules.{rules}
use mathlib.Core.Bool.{not}
use mathlib.Core.Path.{ap, ◌∙◌}
use lib.Dec.{eqb, ltb}
use Rattle.sets.specs.Sets.{single, difference, when}
use Rattle.sets.proofs.Laws.{taken_out}
use Rattle.graph.specs.Tables.{at}
use Rattle.graph.specs.Graph.{role_count}
use Rattle.graph.proofs.DrawingCode.{table_cong}
use Rattle.sittings.specs.Calls.{without_role}
use Rattle.sittings.proofs.FilledTables.{made_table}
use Rattle.sittings.proofs.following.without_role.Goals as goal

pub returns : goal.returns
unfolding without_role at
returns c =
    let P = c.args.pairs.now in
    let out = c.args.a.0 in
    made_table (λ p. when (not (eqb p out)) (difference (at P p) (when (ltb out role_count) (single out)))) (λ i y q k. search rules) _ role_count c.from_fn.ensures.items
    ∙ table_cong role_count _ _ (λ p _. ap (when (not (eqb p out))) (taken_out role_count (at P p) out (c.type_inv.pairs p).fits))
