-- `graph::table::store` meets its contract: the code stores the set's word within the table, and beyond its end a table takes nothing.
-- Assumes nothing.
use mathlib.Core.Path.{sym, ap, ap₂, ◌∙◌}
use mathlib.Core.List.{List}
use Prim.Native.Nat.{ℕ}
use lib.ListN.{set}
use lib.Seq.{set_out}
use Rattle.graph.proofs.table.store.Goals as goal

pub returns-then-n-table : goal.returns-then-n-table
returns-then-n-table g c =
    let a = c.args in
    g.met.S.Set.a_word_each (set a.table.now a.n c.word.result)
    ∙ ap₂ (λ (l : List ℕ) (s : ℕ). set l a.n s) (sym (g.met.S.Set.a_word_each a.table.now)) c.word.ensures

pub returns-else-n-table : goal.returns-else-n-table
returns-else-n-table g c =
    let a = c.args in
    let e = g.met.S.Set.a_word_each a.table.now in
    e ∙ sym (set_out _ _ _ c.if-n-table.false) ∙ ap (λ (l : List ℕ). set l a.n (g.S.Set.read a.s)) (sym e)
