-- `sittings::asking::reach_privilege` meets its contract: the roles whose sets are joined have every privilege that is reached.
-- Assumes nothing.
use borrow.Author.Rules.{rules}
use mathlib.Core.Path.{ap, ap₂, ◌∙◌}
use Prim.Native.Nat.{ℕ}
use Rattle.sets.specs.Sets.{member, union, meets, when, gather}
use Rattle.graph.specs.Tables.{at}
use Rattle.graph.specs.Graph.{role_count, min_alone, effective}
use Rattle.graph.specs.Reading.{sets_in, drawn}
use Rattle.sittings.proofs.ReachedPrivileges.{enough_tests}
use Rattle.sittings.proofs.asking.reach_privilege.Goals as goal

pub returns : goal.returns
unfolding effective
returns c =
    let g = c.args in
    c.member-2.ensures
    ∙ ap (member g.privilege.0)
    (c.union_at.ensures
    ∙ ap (λ (roles : ℕ). gather role_count (λ r. member r roles) (at (sets_in g.graph.sets.now)))
    (c.union-enough.ensures
    ∙ ap (union g.held)
    (c.union.ensures
    ∙ ap₂ union (c.when-least.ensures ∙ ap (λ b. when b min_alone) (c.meets-above.ensures ∙ ap (meets g.held) c.senior_roles.ensures))
    (c.when-ordinary.ensures ∙ ap₂ when c.member.ensures c.ordinary_roles.ensures))))
    ∙ enough_tests (drawn g.graph) g.held (search rules) g.privilege.0
