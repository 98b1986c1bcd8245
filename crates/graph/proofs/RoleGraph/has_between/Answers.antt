-- `graph::RoleGraph::has_between` meets its contract: it searches the ordinary roles for one between r and s, and no other role can be.
-- Assumes nothing.
use borrow.Author.Rules.{rules}
use mathlib.Core.Path.{◌∙◌}
use mathlib.Core.Bool.{◌&&◌}
use Rattle.sets.proofs.Walking.{any_member}
use Rattle.graph.specs.Drawing.{below}
use Rattle.graph.specs.Reading.{drawn}
use Rattle.graph.proofs.DrawingCode.{between_tests}
use Rattle.graph.proofs.RoleGraph.has_between.Goals as goal

pub returns : goal.returns
returns c =
    let a = c.args in
    let g = drawn a.self in
    any_member c.members.ensures (λ t. below g a.r.0 t && below g t a.s.0) _ _ _ c.any.ensures.ran (λ n b q k. search rules)
    ∙ rw c.ordinary_roles.ensures (between_tests g a.r.0 a.s.0)
