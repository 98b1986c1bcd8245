-- `graph::RoleGraph::lower_has` meets its contract: it searches the ordinary roles for one that has the privilege and lies below s.
-- Assumes nothing.
use borrow.Author.Rules.{rules}
use mathlib.Core.Path.{ap, ap₂, ◌∙◌}
use mathlib.Core.Bool.{◌&&◌, ◌||◌}
use lib.Dec.{eqb}
use Rattle.sets.specs.Sets.{member, strictly_included, when}
use Rattle.sets.proofs.Walking.{any_member}
use Rattle.graph.specs.Tables.{at}
use Rattle.graph.specs.Reading.{read_set, sets_in, drawn}
use Rattle.graph.proofs.DrawingCode.{lower_tests}
use Rattle.graph.proofs.RoleGraph.lower_has.Goals as goal

pub returns : goal.returns
returns c =
    let a = c.args in
    let sets = at (sets_in a.self.sets.now) in
    any_member c.members.ensures (λ r. member a.privilege.0 (sets r) && (eqb a.s.0 1 || strictly_included (sets r) (read_set c.effective_of-top.result))) _ _ _ c.any.ensures.ran
    (λ n b q k. search rules)
    ∙ lower_tests (drawn a.self) a.privilege.0 a.s.0
    (c.when-among.ensures ∙ ap₂ when (c.member-high.ensures ∙ ap (member a.s.0) c.senior_roles.ensures) c.ordinary_roles.ensures) c.effective_of-top.ensures
