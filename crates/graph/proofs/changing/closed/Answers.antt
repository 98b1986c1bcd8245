-- `changing::closed` meets its contract: with every ordinary role among MaxRole's juniors the tables can be closed, and close to what the drawing closes to.
-- Assumes nothing.
use mathlib.Core.Path.{◌∙◌}
use borrow.Author.Rules.{rules}
use Rattle.graph.specs.Tables.{at}
use Rattle.graph.proofs.Closable.{closable, closed_tables}
use Rattle.graph.proofs.changing.closed.Goals as goal

pub close-requires : goal.close-requires
unfolding at
close-requires c =
    rw (c.senior_roles-seniors.ensures, c.union.ensures, c.ordinary_roles-ordinary.ensures)
    (closable (search rules) c.requires.1)

pub returns : goal.returns
unfolding at
returns c d h =
    c.close.ensures
    ∙ rw (c.union.ensures, c.ordinary_roles-ordinary.ensures)
    (closed_tables (search rules) h)
