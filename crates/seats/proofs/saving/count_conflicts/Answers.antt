-- `seats::saving::count_conflicts` meets its contract: the conflicts of the rows visited are counted.
-- Assumes nothing.
use borrow.Author.Rules.{rules}
use mathlib.Core.List.{[]}
use mathlib.Core.Path.{ap}
use native.Mathlib.Omega.{arith}
use lib.ListN.{length}
use Rattle.graph.specs.Reading.{sets_in}
use Rattle.seats.proofs.ImageLength.{conflicts_bound}
use Rattle.seats.proofs.MemberEntries.{rows_all, rows_none, rows_counted}
use Rattle.seats.proofs.saving.count_conflicts.Goals as goal

pub loop-lower-init : goal.loop-lower-init
loop-lower-init c = (search rules, let e = ap length (rows_all (sets_in c.args.conflicts.now)) in omega arith)

pub counted-n-requires : goal.counted-n-requires
counted-n-requires c =
    let e = c.loop-lower.invariant.1 in
    let l = conflicts_bound (record { roles = 0; sets = []; conflicts = sets_in c.args.conflicts.now }) in
    omega arith

pub loop-lower-preserved : goal.loop-lower-preserved
loop-lower-preserved c =
    let C = sets_in c.args.conflicts.now in
    (search rules, rw c.counted-n.ensures (rows_counted C c.loop-lower.lower c.loop-lower.n c.loop-lower-test.true _ c.row.ensures c.loop-lower.invariant.1))

pub returns : goal.returns
returns c =
    let C = sets_in c.args.conflicts.now in
    let z = ap length (rows_none C c.loop-lower.lower c.loop-lower-test.false) in
    let e = c.loop-lower.invariant.1 in
    let l = conflicts_bound (record { roles = 0; sets = []; conflicts = C }) in
    (omega arith, omega arith)
