-- `sittings::LentSitting::follow` meets its contract: the pairs left and what stays active, by the table of the roles below each, and the search among them.
-- Assumes nothing.
use mathlib.Core.List.{List}
use mathlib.Core.Path.{ap, ◌∙◌}
use Prim.Native.Nat.{ℕ}
use Rattle.graph.specs.Graph.{ordinary, present, effective}
use Rattle.graph.specs.Drawing.{below}
use Rattle.graph.specs.Reading.{read_change}
use Rattle.sittings.specs.declared.clashing.Offer.{Offer}
use Rattle.sittings.specs.Sittings.{still_active, clashing}
use Rattle.sittings.specs.Calls.{pairs_changed}
use Rattle.sittings.specs.Reading.{sitting_of, lent}
use Rattle.sittings.specs.Working.{still_by, joined_at, clash_by}
use Rattle.sittings.proofs.FollowingTables.{still_by_test, clash_after}
use Rattle.sittings.proofs.LentSitting.follow.Goals as goal

pub returns : goal.returns
unfolding below present ordinary effective
returns c =
    let z = lent c.args.self in
    let P = pairs_changed (read_change c.args.edit) z.pairs in
    let A = still_active z.state z.active in
    let lower = c.lowers-lower.ensures in
    let left = c.pairs_left-pairs.ensures in
    let on = c.still_active-active.ensures ∙ ap (λ (l : List ℕ). still_by l z.state.seats z.active) lower ∙ still_by_test z.state z.active in
    let none = ap (λ (o : Offer). clash_by c.lowers-lower.result (joined_at c.pairs_left-pairs.result o.pair.at o.pair.set) (joined_at c.still_active-active.result o.active.at o.active.set)) c.none.ensures in
    (left, on, c.judge_found.ensures (clashing (sitting_of z.state P A)) (clash_after z.state P A (c.clash_by-pair.ensures ∙ none) lower left on))
