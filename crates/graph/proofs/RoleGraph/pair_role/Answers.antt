-- `graph::RoleGraph::pair_role` meets its contract: the first ordinary role in whose set the inner loop finds a pair is left with.
-- Assumes nothing.
use mathlib.Core.Path.{refl, sym, ap, ◌∙◌}
use Rattle.sets.proofs.Walking.{started, found_here, found_nowhere, found_test, still_none}
use Rattle.graph.specs.Graph.{effective}
use Rattle.graph.specs.Conflicts.{holds_pair}
use Rattle.graph.specs.Refusing.{pair_role}
use Rattle.graph.specs.Reading.{read_set, graph_of, read_found}
use Rattle.graph.proofs.Searches.{first_ordinary}
use Rattle.graph.proofs.RoleGraph.pair_role.Invariants.{pair_at, partner_in}
use Rattle.graph.proofs.RoleGraph.pair_role.Goals as goal

pub roles-init : goal.roles-init
roles-init c = (refl, refl)

pub loop-p-init : goal.loop-p-init
loop-p-init c = (c.roles.invariant.0, refl)

pub loop-p-preserved : goal.loop-p-preserved
loop-p-preserved c =
    let l = c.loop-p in
    (l.invariant.0, still_none _ l.yielded c.in-Some-p.p l.invariant.1 (sym c.has_partner.ensures ∙ c.if-has_partner.false))

pub roles-preserved : goal.roles-preserved
unfolding holds_pair
roles-preserved c =
    let a = c.args in
    let l = c.loop-p in
    let r = c.roles in (
      l.invariant.0,
      still_none (pair_at a.self.sets.now a.conflicts.now) r.yielded c.in-Some.r r.invariant.1
          (ap (holds_pair _) (sym c.effective_of-own.ensures)
          ∙ sym (found_test _ (found_nowhere (started c.into_iter-p-iterator.ensures.into_iter_gives c.members-p-items.ensures) (partner_in a.conflicts.now (read_set c.effective_of-own.result)) l.yielded _ _ _ l.yielded_by c.in-None-p.is c.next-in-loop-p.ensures.steps l.invariant.1))),
    )

pub returns-in-None : goal.returns-in-None
unfolding effective pair_role
returns-in-None c =
    let a = c.args in
    let l = c.roles in
    ap read_found l.invariant.0
    ∙ first_ordinary (graph_of a.self.roles a.self.sets.now a.conflicts.now) (pair_at a.self.sets.now a.conflicts.now) c.ordinary_roles.ensures
    (found_nowhere (started c.into_iter-r-iterator.ensures.into_iter_gives c.members-r-items.ensures) _ l.yielded _ _ _ l.yielded_by c.in-None.is c.next.ensures.steps l.invariant.1)

pub returns-then-has_partner : goal.returns-then-has_partner
unfolding effective holds_pair pair_role
returns-then-has_partner c =
    let a = c.args in
    let l = c.loop-p in
    let r = c.roles in
    first_ordinary (graph_of a.self.roles a.self.sets.now a.conflicts.now) (pair_at a.self.sets.now a.conflicts.now) c.ordinary_roles.ensures
    (found_here (started c.into_iter-r-iterator.ensures.into_iter_gives c.members-r-items.ensures) _ r.yielded _ _ _ r.yielded_by c.in-Some.is c.next.ensures.steps r.invariant.1
    (ap (holds_pair _) (sym c.effective_of-own.ensures)
    ∙ sym (found_test _ (found_here (started c.into_iter-p-iterator.ensures.into_iter_gives c.members-p-items.ensures) (partner_in a.conflicts.now (read_set c.effective_of-own.result)) l.yielded _ _ _ l.yielded_by c.in-Some-p.is c.next-in-loop-p.ensures.steps l.invariant.1
    (sym c.has_partner.ensures ∙ c.if-has_partner.true)))))
