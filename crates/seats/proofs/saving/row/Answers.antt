-- `seats::saving::row` meets its contract: a conflict stands under its lower privilege.
-- Assumes nothing.
use mathlib.Core.Path.{◌≡◌, sym, ap, subst, ◌∙◌}
use mathlib.Core.Bool.{◌&&◌, and-false}
use lib.Dec.{T, ltb}
use Rattle.sets.specs.Sets.{member, collect, above}
use Rattle.sets.proofs.Laws.{equal_members, member-empty, member-collect}
use Rattle.sets.proofs.Tests.{test_equal}
use Rattle.graph.specs.Graph.{privilege_count}
use Rattle.graph.specs.Conflicts.{conflict}
use Rattle.graph.specs.Reading.{read_set}
use Rattle.seats.proofs.saving.row.Goals as goal

pub returns-then-is_empty : goal.returns-then-is_empty
unfolding conflict collect
returns-then-is_empty c =
    let p = c.args.lower in
    let none : read_set c.entry-all.result ≡ 0 = test_equal (subst T (sym (sym c.is_empty.ensures ∙ c.if-is_empty.true)) tt) in
    none ∙ sym (rw (← c.entry-all.ensures, none) (equal_members (collect privilege_count (λ q. ltb p q && member q 0)) 0 (λ n. member-collect n privilege_count (λ q. ltb p q && member q 0) ∙ rw (member-empty n, and-false, and-false))))

pub returns : goal.returns
unfolding above conflict
returns c = c.above.ensures ∙ ap (above privilege_count _) c.entry-all.ensures
