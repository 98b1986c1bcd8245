-- `lines::with_mark` meets its contract: a column is put in where it is marked, and nothing otherwise.
-- Assumes nothing.
use mathlib.Core.Path.{sym, ap, ◌∙◌}
use borrow.Author.Tests.{eq-eqb, ne_eqb}
use Rattle.sets.specs.Sets.{union, when}
use Rattle.sets.proofs.Laws.{union-empty}
use Rattle.sheets.proofs.lines.with_mark.Goals as goal

pub returns-then-mark-eq1 : goal.returns-then-mark-eq1
unfolding when
returns-then-mark-eq1 c = rw (eq-eqb _ _ c.if-mark-eq1.true) (c.union.ensures ∙ ap (union _) c.single.ensures)

pub returns-else-mark-eq1 : goal.returns-else-mark-eq1
unfolding when
returns-else-mark-eq1 c = rw (ne_eqb _ _ c.if-mark-eq1.false) (sym (union-empty _))
