-- `graph::drawing::total_size` meets its contract: the sizes of the entries seen so far are added up, for each role number one of at most role-count.
-- Assumes nothing.
use mathlib.Core.Path.{◌∙◌, ap}
use Prim.Native.Nat.{◌+◌, ◌≤◌}
use native.Mathlib.Omega.{arith}
use Rattle.sets.specs.Sets.{size}
use Rattle.sets.proofs.Laws.{size_bound}
use Rattle.sets.proofs.Walking.{started, all_seen}
use Rattle.graph.specs.Graph.{role_count}
use Rattle.graph.specs.Tables.{at}
use Rattle.graph.proofs.Loops.{summing_none, summing_next, summing_done, summing_bound, turn_count}
use Rattle.graph.proofs.drawing.total_size.Goals as goal

pub loop-s-init : goal.loop-s-init
loop-s-init c = summing_none _

pub overflow_add-total : goal.overflow_add-total
overflow_add-total c =
    let l = c.loop-s in
    let k : c.size-total.result ≤ role_count = rw c.size-total.ensures (size_bound role_count _) in
    omega (
      arith,
      k,
      summing_bound l.invariant (λ i. size_bound role_count (at c.args.table.now i)),
      turn_count (started c.into_iter-s-iterator.ensures.into_iter_gives c.members-s-items.ensures) l.yielded _ _ _ l.yielded_by c.in-Some.is c.next.ensures.steps,
    )

pub loop-s-preserved : goal.loop-s-preserved
loop-s-preserved c =
    let l = c.loop-s in
    summing_next l.invariant c.in-Some.s (ap (λ k. l.total + k) (c.size-total.ensures ∙ ap (size role_count) c.entry.ensures))

pub returns : goal.returns
returns c =
    let l = c.loop-s in
    summing_done c.args.all l.invariant
    (all_seen (started c.into_iter-s-iterator.ensures.into_iter_gives c.members-s-items.ensures) l.yielded _ _ _ l.yielded_by c.in-None.is c.next.ensures.steps)
