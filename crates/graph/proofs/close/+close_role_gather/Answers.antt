-- `graph::close::close_role` and `graph::close::gather`, which call each other, meet their contracts: a role's entry is done once its juniors are gathered.
-- What falls is the number of roles below the role (`number_below_falls`). Assumes nothing.
use mathlib.Core.Path.{sym, ap, ◌∙◌, subst}
use Prim.Native.Nat.{ℕ}
use native.Mathlib.Omega.{arith}
use lib.Dec.{T}
use Rattle.sets.specs.Sets.{member, union}
use Rattle.sets.proofs.Laws.{known_single}
use Rattle.sets.proofs.Walking.{started, turn_member, all_seen}
use Rattle.graph.specs.Tables.{at}
use Rattle.graph.specs.Working.{Memo}
use Rattle.graph.specs.Reading.{read_set, sets_in}
use Rattle.graph.proofs.Acyclic.{number_below_falls}
use Rattle.graph.proofs.Loops.{gathering_done}
use Rattle.graph.proofs.Memo.{role_closed, joined_next}
use Rattle.graph.proofs.close.+close_role_gather.Goals as goal

pub close_role-returns : goal.close_role-returns
close_role-returns t c =
    let p = c.requires in
    let g = c.gather-g in
    let w =
    role_closed c.args.done p.ending p.is_role g.ensures.memo_after g.ensures.kept g.ensures.gathered
    (c.union.ensures ∙ ap (λ (d : ℕ). union d (read_set g.result.set)) c.entry-own.ensures) (known_single p.is_role c.single.ensures) c.union-2.ensures in
    record {
      memo_after = subst (Memo (sets_in c.args.directs.now) c.args.juniors.now c.union-2.result) (sym c.store.ensures) w.0;
      kept = w.1.0;
      is_done = w.1.1;
    }

pub gather-close_role-done-requires : goal.gather-close_role-done-requires
gather-close_role-done-requires t c =
    let w = c.loop-t.invariant in
    let m = turn_member (started c.into_iter-t-iterator.ensures.into_iter_gives c.members-t-items.ensures) c.loop-t.yielded _ _ _ c.loop-t.yielded_by c.in-Some.is c.next.ensures.steps in
    let junior = subst (λ (s : ℕ). T (member c.in-Some.t s)) c.entry-under.ensures m.1 in
    let h = number_below_falls c.args.juniors.now c.requires.ending c.in-Some.t c.args.r m.0 c.requires.is_role junior in
    (omega arith, (m.0, (c.requires.ending, w.memo)))

pub gather-loop-t-preserved : goal.gather-loop-t-preserved
gather-loop-t-preserved t c =
    let k = c.close_role-done.ensures in
    joined_next c.loop-t.invariant c.in-Some.t k.memo_after k.kept k.is_done (c.union-set.ensures ∙ ap (union _) c.entry.ensures)

pub gather-returns-clause-gathered : goal.gather-returns-clause-gathered
gather-returns-clause-gathered t c =
    let l = c.loop-t in
    gathering_done (at c.args.juniors.now c.args.r) l.invariant.sum
    (all_seen (started c.into_iter-t-iterator.ensures.into_iter_gives (c.members-t-items.ensures ∙ c.entry-under.ensures)) l.yielded _ _ _ l.yielded_by c.in-None.is c.next.ensures.steps)
