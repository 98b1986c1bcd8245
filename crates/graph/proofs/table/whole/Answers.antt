-- `graph::table::whole` meets its contract: after i turns the first i entries are the table's.
-- Assumes nothing.
use mathlib.Core.Path.{◌∙◌}
use native.Mathlib.Omega.{arith}
use Rattle.graph.proofs.Loops.{filled_next, filled_done}
use Rattle.graph.proofs.table.whole.Goals as goal

pub loop-i-preserved : goal.loop-i-preserved
loop-i-preserved g c = filled_next c.loop-i.invariant (omega arith) (c.word.ensures ∙ c.entry.ensures)

pub returns : goal.returns
returns g c =
    let w = c.loop-i.invariant.within in g.met.S.Set.a_word_each c.loop-i.all ∙ filled_done c.loop-i.invariant (omega arith)
