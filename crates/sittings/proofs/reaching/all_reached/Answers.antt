-- `sittings::reaching::all_reached` meets its contract: each turn fills in what one entry reaches, with the roles that are added to it, and beyond the table's end nothing is reached.
-- Assumes nothing.
use mathlib.Core.Path.{refl, ap, ◌∙◌}
use native.Mathlib.Omega.{arith}
use lib.Seq.{get_or-set_other}
use Rattle.graph.specs.Tables.{at}
use Rattle.graph.proofs.Tables.{at-replicate}
use Rattle.graph.proofs.Loops.{filled_next}
use Rattle.sittings.specs.Working.{reached_by}
use Rattle.sittings.proofs.FilledTables.{filled_rest}
use Rattle.sittings.proofs.JoinedTables.{row_below, row_joined, row_end}
use Rattle.sittings.proofs.Reached.{none_reached}
use Rattle.sittings.proofs.reaching.all_reached.Goals as goal

pub loop-i-init : goal.loop-i-init
loop-i-init c = (record { within = omega arith; whole = refl; got = λ i h. absurd (omega (arith, h)) }, λ j h. at-replicate 64 j)

pub loop-i-preserved : goal.loop-i-preserved
unfolding at
loop-i-preserved c =
    let g = c.args in
    let w = c.loop-i.invariant in
    let m = c.min.ensures in
    let i = c.loop-i-test.true in (
      filled_next w.0 (row_below g.held.now m i).1
          (c.reached.ensures ∙ ap (reached_by g.lower.now) (row_joined g.held.now m g.added.at g.added.set c.loop-i.i i c.when.ensures c.union.ensures)),
      λ j h. get_or-set_other _ _ j _ 0 (λ e. omega (arith, e, h)) ∙ w.1 j (omega (arith, h)),
    )

pub returns : goal.returns
returns c =
    let g = c.args in
    let w = c.loop-i.invariant in
    filled_rest w.0 w.1
    (λ j h k. ap (reached_by g.lower.now) (row_end g.held.now c.min.ensures g.added.at g.added.set j (omega (arith, h, c.loop-i-test.false)) k) ∙ none_reached g.lower.now)
