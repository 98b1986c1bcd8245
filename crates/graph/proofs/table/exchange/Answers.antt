-- `graph::table::exchange` meets its contract: each turn changes the entry of one member more.
-- Assumes nothing.
use mathlib.Core.Path.{refl, ap, ◌∙◌}
use lib.ListN.{length}
use Rattle.sets.proofs.Walking.{started, turn_member, all_seen}
use Rattle.graph.proofs.Loops.{filling_none}
use Rattle.graph.proofs.ExchangeLoops.{exchanged_next, exchanged_done}
use Rattle.graph.proofs.table.exchange.Goals as goal

pub loop-r-init : goal.loop-r-init
loop-r-init g c = filling_none _ _ _ (ap length (g.met.S.Set.a_word_each c.args.table.now) ∙ c.told-table) (λ i. refl)

pub loop-r-preserved : goal.loop-r-preserved
loop-r-preserved g c =
    let l = c.loop-r in
    let out = g.S.Set.read c.args.out in
    let put = g.S.Set.read c.args.put in
    let m = turn_member (started c.into_iter-r-iterator.ensures.into_iter_gives c.members-r-items.ensures) l.yielded _ _ _ l.yielded_by c.in-Some.is c.next.ensures.steps in
    rw c.store.ensures
    (exchanged_next out put (g.S.Set.sets_in c.args.table.now) l.yielded (g.S.Set.sets_in l.table) l.invariant c.in-Some.r m.0 (rw (c.union.ensures, c.difference.ensures, c.entry-old.ensures)))

pub returns : goal.returns
returns g c =
    let l = c.loop-r in
    exchanged_done (g.S.Set.read c.args.out) (g.S.Set.read c.args.put) (g.S.Set.sets_in c.args.table.now) _ _ _ l.invariant c.ranges.into.fits
    (all_seen (started c.into_iter-r-iterator.ensures.into_iter_gives c.members-r-items.ensures) l.yielded _ _ _ l.yielded_by c.in-None.is c.next.ensures.steps)
