-- `sittings::LentSitting::clash` meets its contract: the table of the roles below each says which pairs are together.
-- Assumes nothing.
use mathlib.Core.List.{List}
use mathlib.Core.Path.{ap, ◌∙◌}
use Prim.Native.Nat.{ℕ}
use Rattle.graph.specs.Drawing.{below}
use Rattle.graph.specs.Graph.{ordinary, present, effective}
use Rattle.sittings.specs.Reading.{lent, sitting_of}
use Rattle.sittings.specs.Working.{joined_at, clash_by}
use Rattle.sittings.proofs.Reached.{clash_test}
use Rattle.sittings.proofs.LentSitting.clash.Goals as goal

pub returns : goal.returns
unfolding below present ordinary effective
returns c =
    let z = c.args.self in
    let o = c.args.offer in
    let P = joined_at z.pairs.now o.pair.at o.pair.set in
    let A = joined_at z.active.now o.active.at o.active.set in
    c.clash_by.ensures
    ∙ ap (λ (lower : List ℕ). clash_by lower P A) c.lowers-lower.ensures
    ∙ clash_test (sitting_of (lent z).state P A)
