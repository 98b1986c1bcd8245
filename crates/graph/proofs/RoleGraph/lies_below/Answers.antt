-- `graph::RoleGraph::lies_below` meets its contract: the tests of the definition, without those that the others imply.
-- Assumes nothing.
use mathlib.Core.Path.{◌∙◌, ap, ap₂}
use Rattle.sets.specs.Sets.{member, union, strictly_included}
use Rattle.graph.specs.Graph.{effective, min_alone}
use Rattle.graph.specs.Reading.{drawn}
use Rattle.graph.proofs.DrawingCode.{below_code}
use Rattle.graph.proofs.RoleGraph.lies_below.Goals as goal

pub returns : goal.returns
unfolding effective
returns c =
    let a = c.args in
    below_code (drawn a.self) a.r a.s (c.member-high.ensures ∙ ap (member a.s) c.senior_roles.ensures)
    (c.member-low.ensures ∙ ap (member a.r) (c.union.ensures ∙ ap (λ o. union o min_alone) c.ordinary_roles.ensures))
    (c.strictly_included-strict.ensures ∙ ap₂ strictly_included c.entry.ensures c.entry-2.ensures)
