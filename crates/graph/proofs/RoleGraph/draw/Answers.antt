-- `graph::RoleGraph::draw` meets its contract: taking from the roles below each role those below these leaves the immediate juniors.
-- Assumes nothing.
use borrow.Author.Rules.{rules}
use mathlib.Core.Path.{◌∙◌, refl, ap}
use lib.ListN.{length}
use Rattle.sets.proofs.Walking.{started, turn_member, all_seen}
use Rattle.graph.specs.Graph.{role_count}
use Rattle.graph.specs.Reading.{drawn}
use Rattle.graph.specs.Working.{less_juniors}
use Rattle.graph.proofs.Tables.{length-table}
use Rattle.graph.proofs.Loops.{filling_none, filling_next, filling_done}
use Rattle.graph.proofs.DrawingCode.{seniors_cover, juniors_table}
use Rattle.graph.proofs.RoleGraph.draw.Goals as goal

pub loop-s-init : goal.loop-s-init
loop-s-init c = filling_none _ _ _ (ap length c.lowers-lower.ensures ∙ length-table role_count _) (λ i. refl)

pub bounds-juniors-s : goal.bounds-juniors-s
bounds-juniors-s c =
    let l = c.loop-s in
    (turn_member (started c.into_iter-s-iterator.ensures.into_iter_gives c.members-s-items.ensures) l.yielded _ _ _ l.yielded_by c.in-Some.is c.next.ensures.steps).0

pub loop-s-preserved : goal.loop-s-preserved
loop-s-preserved c =
    filling_next c.loop-s.invariant (bounds-juniors-s c) (c.difference.ensures ∙ rw (c.union_at.ensures, c.entry-under.ensures))

pub returns : goal.returns
unfolding less_juniors
returns c =
    let g = drawn c.args.self in
    let l = c.loop-s in
    filling_done c.senior_roles.result l.invariant (search rules)
    (all_seen (started c.into_iter-s-iterator.ensures.into_iter_gives c.members-s-items.ensures) l.yielded _ _ _ l.yielded_by c.in-None.is c.next.ensures.steps)
    ∙ rw (c.senior_roles.ensures, c.lowers-lower.ensures) (juniors_table g (search rules) _ (seniors_cover g))
