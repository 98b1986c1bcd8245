-- `graph::searching::has_partner` meets its contract: a partner stands in p's row, above p.
-- Assumes nothing.
use borrow.Author.Rules.{rules}
use mathlib.Core.Bool.{false}
use mathlib.Core.Path.{◌≡◌, sym, ap, ap₂, subst, ◌∙◌}
use lib.Dec.{T}
use Rattle.sets.specs.Sets.{meets, above}
use Rattle.sets.proofs.Tests.{fails}
use Rattle.graph.specs.Graph.{privilege_count}
use Rattle.graph.specs.Tables.{at}
use Rattle.graph.specs.Reading.{read_set, sets_in}
use Rattle.graph.proofs.Searches.{partner_test, partner_meets}
use Rattle.graph.proofs.searching.has_partner.Goals as goal

pub returns-then-meets : goal.returns-then-meets
returns-then-meets c =
    let a = c.args in
    c.meets-then-meets.ensures ∙ ap₂ meets c.above.ensures c.entry-row.ensures ∙ sym (partner_test (sets_in a.conflicts.now) privilege_count (read_set a.s) a.p)

pub returns-else-meets : goal.returns-else-meets
returns-else-meets c =
    let a = c.args in
    let row = at (sets_in a.conflicts.now) a.p in
    let s = read_set a.s in
    let none : meets s row ≡ false = ap (meets s) (sym c.entry-row.ensures) ∙ sym c.meets.ensures ∙ c.if-meets.false in
    c.if-meets.false ∙ sym (partner_test (sets_in a.conflicts.now) privilege_count s a.p ∙ fails (meets (above privilege_count a.p s) row) (λ t. subst T none (partner_meets privilege_count s a.p row (search rules) t)))
