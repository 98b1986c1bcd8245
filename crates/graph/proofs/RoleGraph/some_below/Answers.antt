-- `graph::RoleGraph::some_below` meets its contract: it searches the roles that can lie below others for one that j's set strictly includes, or that an end role orders.
-- Assumes nothing.
use borrow.Author.Rules.{rules}
use mathlib.Core.Path.{sym, ap, ◌∙◌}
use Rattle.sets.specs.Sets.{member}
use Rattle.sets.proofs.Walking.{any_member}
use Rattle.graph.specs.Graph.{effective}
use Rattle.graph.specs.Reading.{drawn}
use Rattle.graph.proofs.Searches.{ways_below, none_below, found_below}
use Rattle.graph.proofs.RoleGraph.some_below.Goals as goal

pub returns-then-high : goal.returns-then-high
unfolding effective
returns-then-high c =
    let g = drawn c.args.self in
    let j = c.args.j.0 in
    any_member c.members.ensures (ways_below g c.args.all j) _ _ _ c.any.ensures.ran (λ s b q k. search rules)
    ∙ rw (c.intersection.ensures, c.union-low.ensures, c.ordinary_roles.ensures)
    (found_below g c.args.all j (sym (c.member-high.ensures ∙ ap (member j) c.senior_roles.ensures) ∙ c.if-high.true))

pub returns-else-high : goal.returns-else-high
returns-else-high c =
    let j = c.args.j.0 in
    c.if-high.false ∙ none_below (drawn c.args.self) c.args.all j (sym (c.member-high.ensures ∙ ap (member j) c.senior_roles.ensures) ∙ c.if-high.false)
