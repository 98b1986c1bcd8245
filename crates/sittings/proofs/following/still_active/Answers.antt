-- `sittings::following::still_active` meets its contract: of each seat's active roles it gives those that its assigned roles reach.
-- Assumes nothing.
use borrow.Author.Rules.{rules}
use mathlib.Core.Path.{◌∙◌}
use Rattle.sets.specs.Sets.{intersection}
use Rattle.graph.specs.Tables.{at}
use Rattle.graph.specs.Graph.{role_count}
use Rattle.graph.proofs.DrawingCode.{table_cong}
use Rattle.seats.specs.Seats.{seat_count}
use Rattle.sittings.specs.Working.{reached_by}
use Rattle.sittings.proofs.FilledTables.{common_collected, made_table}
use Rattle.sittings.proofs.following.still_active.Goals as goal

pub returns : goal.returns
unfolding at
returns c =
    let g = c.args in
    made_table (λ i. intersection (at g.active.now i) (reached_by g.lower.now (at g.seats.now i))) (λ i y q k. search rules) _ seat_count c.from_fn.ensures.items
    ∙ table_cong seat_count _ _ (λ i _. common_collected role_count (at g.active.now i) _ (c.type_inv.active i).fits)
