-- `seats::saving::put_conflicts` meets its contract: the rows visited are written, and those from `lower` on are left.
-- Assumes nothing.
use borrow.Author.Rules.{rules}
use mathlib.Core.Path.{sym, subst, ◌∙◌}
use native.Mathlib.Omega.{arith}
use lib.Dec.{T}
use Rattle.graph.specs.Reading.{sets_in}
use Rattle.sets.proofs.Tests.{test_equal}
use Rattle.seats.proofs.Written.{unwritten_all}
use Rattle.seats.proofs.MemberEntries.{rows_all, row_passed, row_room, row_written, rows_written}
use Rattle.seats.proofs.saving.put_conflicts.Goals as goal
use Rattle.seats.proofs.saving.put_conflicts.Goals.{then-not-is_empty, else-not-is_empty}

pub loop-lower-init : goal.loop-lower-init
loop-lower-init c = (search rules, rw (rows_all (sets_in c.args.conflicts.now)) (unwritten_all _ _ _))

pub put_row-n-requires : goal.put_row-n-requires
put_row-n-requires c =
    let h = row_room (sets_in c.args.conflicts.now) c.loop-lower.lower c.loop-lower-test.true c.row-row.ensures c.loop-lower.invariant.1 c.requires in
    search (arith, h)

pub loop-lower-preserved : goal.loop-lower-preserved
loop-lower-preserved c =
    let C = sets_in c.args.conflicts.now in
    let l = c.loop-lower in (
      search rules,
      elim c.if-not-is_empty.branch [
        | then-not-is_empty w ↦ rw (w.buffer-is, w.n-is) (row_written C l.lower c.loop-lower-test.true c.row-row.ensures l.invariant.1 c.requires w.put_row-n.ensures.0)
        | else-not-is_empty w ↦ rw (w.buffer-is, w.n-is) (row_passed C l.lower c.loop-lower-test.true c.row-row.ensures l.invariant.1 (test_equal (subst T (sym (sym c.is_empty.ensures ∙ w.if-not-is_empty.false)) tt)))
      ],
    )

pub returns : goal.returns
returns c = let w = rows_written (sets_in c.args.conflicts.now) c.loop-lower.lower c.loop-lower-test.false c.loop-lower.invariant.1 in (w, let p = w.place in omega arith)
