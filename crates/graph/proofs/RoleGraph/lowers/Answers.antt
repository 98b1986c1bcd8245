-- `graph::RoleGraph::lowers` meets its contract: the entries of the roles seen so far are filled in, and the roles that are never seen have none below them.
-- Assumes nothing.
use borrow.Author.Rules.{rules}
use mathlib.Core.Path.{◌∙◌, refl}
use Rattle.sets.proofs.Walking.{started, turn_member, all_seen}
use Rattle.graph.specs.Graph.{role_count}
use Rattle.graph.specs.Reading.{drawn}
use Rattle.graph.proofs.Tables.{at-replicate}
use Rattle.graph.proofs.Loops.{filling_none, filling_next, filling_done}
use Rattle.graph.proofs.DrawingCode.{seniors_cover, lowers_table}
use Rattle.graph.proofs.RoleGraph.lowers.Goals as goal

pub loop-s-init : goal.loop-s-init
loop-s-init c = filling_none _ _ _ refl (at-replicate role_count)

pub bounds-found-s : goal.bounds-found-s
bounds-found-s c =
    let l = c.loop-s in
    (turn_member (started c.into_iter-s-iterator.ensures.into_iter_gives c.members-s-items.ensures) l.yielded _ _ _ l.yielded_by c.in-Some.is c.next.ensures.steps).0

pub loop-s-preserved : goal.loop-s-preserved
loop-s-preserved c = filling_next c.loop-s.invariant (bounds-found-s c) c.lower.ensures

pub returns : goal.returns
returns c =
    let g = drawn c.args.self in
    let l = c.loop-s in
    filling_done c.senior_roles.result l.invariant (search rules)
    (all_seen (started c.into_iter-s-iterator.ensures.into_iter_gives c.members-s-items.ensures) l.yielded _ _ _ l.yielded_by c.in-None.is c.next.ensures.steps)
    ∙ rw c.senior_roles.ensures (lowers_table g (search rules) _ (seniors_cover g))
