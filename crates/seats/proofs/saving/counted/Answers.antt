-- `seats::saving::counted` meets its contract: the empty row has no members.
-- Assumes nothing.
use mathlib.Core.Path.{◌≡◌, sym, ◌∙◌, subst}
use native.Mathlib.Omega.{arith}
use lib.Dec.{T}
use Rattle.sets.specs.Counting.{count}
use Rattle.sets.specs.Sets.{digit, member, size}
use Rattle.sets.proofs.Tests.{test_equal}
use Rattle.graph.specs.Reading.{read_set}
use Rattle.seats.proofs.saving.counted.Goals as goal

pub returns-then-is_empty : goal.returns-then-is_empty
unfolding size count member digit
returns-then-is_empty c =
    let e : read_set c.args.row ≡ 0 = test_equal (subst T (sym (sym c.is_empty.ensures ∙ c.if-is_empty.true)) tt) in
    rw e (omega arith)
