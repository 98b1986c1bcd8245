-- `seats::saving::put_row` meets its contract: the conflicts with the privileges visited are written, and those with the privileges still to come are left.
-- Assumes nothing.
use native.Mathlib.Omega.{arith}
use Rattle.sets.proofs.Walking.{started}
use Rattle.seats.specs.Images.{privilege_bytes}
use Rattle.seats.proofs.MemberEntries.{walk_begun, member_room, member_written, members_written}
use Rattle.seats.proofs.saving.put_row.Invariants.{of}
use Rattle.seats.proofs.saving.put_row.Goals as goal

pub loop-higher-init : goal.loop-higher-init
loop-higher-init c = walk_begun _ _ (of c.args.lower) (started c.into_iter-higher-iterator.ensures.into_iter_gives c.members-higher-items.ensures)

pub put_entry-n-requires : goal.put_entry-n-requires
put_entry-n-requires c =
    let h = member_room privilege_bytes (of c.args.lower) _ _ c.in-Some.is c.next.ensures.steps c.loop-higher.invariant c.requires in
    search (arith, h)

pub loop-higher-preserved : goal.loop-higher-preserved
loop-higher-preserved c = member_written privilege_bytes (of c.args.lower) _ _ c.in-Some.is c.next.ensures.steps c.loop-higher.invariant c.requires c.put_entry-n.ensures.0

pub returns : goal.returns
returns c = let w = members_written _ _ _ _ c.in-None.is c.next.ensures.steps c.loop-higher.invariant in (w, let p = w.place in omega arith)
