-- `graph::drawing::direct_sets` meets its contract: the entries of the roles seen so far are filled in, and the others are as they were.
-- Assumes nothing.
use mathlib.Core.Path.{◌∙◌, refl, sym, ap, subst}
use lib.ListN.{length}
use Rattle.sets.proofs.Walking.{started, turn_member, all_seen}
use Rattle.graph.specs.Graph.{role_count}
use Rattle.graph.specs.Working.{less_juniors}
use Rattle.graph.proofs.Tables.{length-table, at-table}
use Rattle.graph.proofs.DrawingCode.{table_cong}
use Rattle.graph.proofs.Loops.{Filling, filling_none, filling_next, filling_done}
use Rattle.graph.proofs.drawing.direct_sets.Goals as goal

pub loop-s-init : goal.loop-s-init
loop-s-init c = filling_none _ _ _ (ap length c.whole-direct.ensures ∙ length-table role_count _) (λ i. refl)

pub loop-s-preserved : goal.loop-s-preserved
loop-s-preserved c =
    let l = c.loop-s in
    let w = turn_member (started c.into_iter-s-iterator.ensures.into_iter_gives c.members-s-items.ensures) l.yielded _ _ _ l.yielded_by c.in-Some.is c.next.ensures.steps in
    subst (Filling _ _ _) (sym c.store.ensures)
    (filling_next l.invariant w.0 (c.difference.ensures ∙ rw (c.entry-own.ensures, c.union_at-held.ensures, c.entry.ensures)))

pub returns : goal.returns
unfolding less_juniors
returns c =
    let l = c.loop-s in
    filling_done c.args.all l.invariant c.ranges.all.fits
    (all_seen (started c.into_iter-s-iterator.ensures.into_iter_gives c.members-s-items.ensures) l.yielded _ _ _ l.yielded_by c.in-None.is c.next.ensures.steps)
    ∙ table_cong role_count _ _ (λ i l. rw (c.whole-direct.ensures, at-table role_count i _ l))
