-- `sittings::LentSitting::clash_if_paired` meets its contract: without a pair none is together, and otherwise the search says which are.
-- Assumes nothing.
use mathlib.Core.Path.{sym, subst}
use lib.Dec.{T, eqb}
use Rattle.sets.proofs.Tests.{both, test_equal}
use Rattle.graph.specs.Reading.{read_found}
use Rattle.sittings.specs.Reading.{lent, sitting_of}
use Rattle.sittings.specs.Working.{joined_at}
use Rattle.sittings.proofs.JoinedTables.{joined-empty}
use Rattle.sittings.proofs.Reached.{no_clash}
use Rattle.sittings.proofs.LentSitting.clash_if_paired.Goals as goal

pub returns-then-all_empty-offer : goal.returns-then-all_empty-offer
unfolding read_found
returns-then-all_empty-offer c =
    let z = c.args.self in
    let o = c.args.offer in
    let (none, nothing) = both c.all_empty.result (eqb o.pair.set 0) (subst T (sym c.if-all_empty-offer.true) tt) in
    no_clash (sitting_of (lent z).state (joined_at z.pairs.now o.pair.at o.pair.set) (joined_at z.active.now o.active.at o.active.set))
    (joined-empty z.pairs.now o.pair.at (subst T c.all_empty.ensures none) (test_equal nothing))

pub returns : goal.returns
returns c = c.clash.ensures
