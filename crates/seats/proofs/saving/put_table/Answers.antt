-- `seats::saving::put_table` meets its contract: the entries of the keys visited are written, and those of the keys still to come are left.
-- Assumes nothing.
use native.Mathlib.Omega.{arith}
use Rattle.sets.proofs.Walking.{started}
use Rattle.seats.specs.ImageWork.{value_bytes, value_of}
use Rattle.seats.proofs.AscendingEntries.{valued}
use Rattle.seats.proofs.MemberEntries.{walk_begun, member_room, member_written, members_written}
use Rattle.seats.proofs.saving.put_table.Goals as goal

pub loop-k-init : goal.loop-k-init
loop-k-init g c = walk_begun _ _ (valued (value_of g.P.Part.part c.args.table.now)) (started c.into_iter-k-iterator.ensures.into_iter_gives c.members-k-items.ensures)

pub put_entry-n-requires : goal.put_entry-n-requires
put_entry-n-requires g c =
    let h = member_room (value_bytes g.P.Part.part) (valued (value_of g.P.Part.part c.args.table.now)) _ _ c.in-Some.is c.next.ensures.steps c.loop-k.invariant c.requires in
    search (arith, h)

pub loop-k-preserved : goal.loop-k-preserved
loop-k-preserved g c =
    member_written (value_bytes g.P.Part.part) (valued (value_of g.P.Part.part c.args.table.now)) _ _ c.in-Some.is c.next.ensures.steps c.loop-k.invariant c.requires (rw c.value_at.ensures at c.put_entry-n.ensures.0)

pub returns : goal.returns
returns g c = let w = members_written _ _ _ _ c.in-None.is c.next.ensures.steps c.loop-k.invariant in (w, let p = w.place in omega arith)
