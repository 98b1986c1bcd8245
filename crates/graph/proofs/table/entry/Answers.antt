-- `graph::table::entry` meets its contract: the code reads the entry's word, and a table has the empty set beyond its end.
-- Assumes nothing.
use mathlib.Core.Path.{sym, ap, ◌∙◌}
use mathlib.Core.List.{List}
use Prim.Native.Nat.{ℕ}
use Rattle.graph.specs.Tables.{at}
use Rattle.graph.proofs.Tables.{at_end}
use Rattle.graph.proofs.table.entry.Goals as goal

pub returns-then-n-table : goal.returns-then-n-table
unfolding at
returns-then-n-table g c = c.of.ensures ∙ rw (g.met.S.Set.a_word_each c.args.table.now)

pub returns-else-n-table : goal.returns-else-n-table
returns-else-n-table g c =
    let a = c.args in
    c.empty.ensures ∙ sym (ap (λ (l : List ℕ). at l a.n) (g.met.S.Set.a_word_each a.table.now) ∙ at_end a.table.now a.n c.if-n-table.false)
