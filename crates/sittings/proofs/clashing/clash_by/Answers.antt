-- `sittings::clashing::clash_by` meets its contract: the rows are searched by what the active roles reach.
-- Assumes nothing.
use mathlib.Core.List.{List}
use mathlib.Core.Path.{ap, ◌∙◌}
use Prim.Native.Nat.{ℕ}
use Rattle.graph.specs.Tables.{at}
use Rattle.graph.specs.Graph.{role_count}
use Rattle.graph.specs.Searching.{lowest_found}
use Rattle.sittings.specs.Working.{joined_at, meets_by}
use Rattle.sittings.proofs.clashing.clash_by.Goals as goal

pub returns : goal.returns
returns c =
    let g = c.args in
    let o = g.offer.pair in
    c.lowest_clash.ensures
    ∙ ap (λ (used : List ℕ). lowest_found role_count (λ p. meets_by g.lower.now used p (at (joined_at g.pairs.now o.at o.set) p))) c.all_reached-used.ensures
