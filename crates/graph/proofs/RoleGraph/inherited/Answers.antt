-- `graph::RoleGraph::inherited` meets its contract: each ordinary role below s is an immediate junior of s or lies below one, which has all that it has; where there is none, the roles below s are its immediate juniors.
-- Assumes nothing.
use borrow.Author.Rules.{rules}
use mathlib.Core.Path.{◌≡◌, sym, ◌∙◌}
use Rattle.sets.specs.Sets.{difference}
use Rattle.graph.specs.Drawing.{roles_below}
use Rattle.graph.specs.Reading.{drawn}
use Rattle.graph.proofs.DrawingCode.{inherited_least, inherited_ordinary}
use Rattle.graph.proofs.RoleGraph.inherited.Goals as goal
use Rattle.graph.proofs.RoleGraph.inherited.Goals.{then-ordinary-eq0, else-ordinary-eq0}

pub returns : goal.returns
returns c =
    let a = c.args in
    let g = drawn a.self in
    let l = c.lower-under.ensures in
    let o : c.difference-ordinary.result ≡ difference (roles_below g a.s.0) 1 = c.difference-ordinary.ensures ∙ rw l in
    c.union_at.ensures
    ∙ (elim c.if-ordinary-eq0.branch [
      | then-ordinary-eq0 w ↦ rw (w.among-is, l) (inherited_least g (search rules) a.s.0 (sym o ∙ w.if-ordinary-eq0.true))
      | else-ordinary-eq0 w ↦ rw (w.among-is, o) (inherited_ordinary g (search rules) a.s.0 (λ z. w.if-ordinary-eq0.false (o ∙ z)))
    ])
