-- `graph::close::close` meets its contract: the roles that are not present are done from the start, and each turn does one that is.
-- Assumes nothing.
use mathlib.Core.Path.{refl}
use Rattle.sets.proofs.Walking.{started, turn_member, all_seen}
use Rattle.graph.specs.Working.{closed_set}
use Rattle.graph.proofs.PrivilegeTables.{whole_sets}
use Rattle.graph.proofs.Memo.{doing_none, doing_next, doing_done}
use Rattle.graph.proofs.close.close.Goals as goal

pub loop-r-init : goal.loop-r-init
loop-r-init c = doing_none c.requires (whole_sets _ c.told-directs) refl c.difference-done.ensures

pub close_role-done-requires-clause-is_role : goal.close_role-done-requires-clause-is_role
close_role-done-requires-clause-is_role c =
    let l = c.loop-r in
    (turn_member (started c.into_iter-r-iterator.ensures.into_iter_gives c.members-r-items.ensures) l.yielded _ _ _ l.yielded_by c.in-Some.is c.next.ensures.steps).0

pub loop-r-preserved : goal.loop-r-preserved
loop-r-preserved c =
    let k = c.close_role-done.ensures in
    doing_next c.loop-r.invariant c.in-Some.r k.memo_after k.kept k.is_done

pub returns : goal.returns
unfolding closed_set
returns c =
    let l = c.loop-r in
    doing_done l.invariant c.ranges.present.fits
    (all_seen (started c.into_iter-r-iterator.ensures.into_iter_gives c.members-r-items.ensures) l.yielded _ _ _ l.yielded_by c.in-None.is c.next.ensures.steps)
