-- `graph::refusing::judge_sets` meets its contract: it judges by one check after the other.
-- Assumes nothing.
use mathlib.Core.Path.{◌∙◌, sym, ap}
use Rattle.graph.specs.Graph.{ordinary, effective}
use Rattle.graph.specs.Refusing.{refused, empty_role, twin_role, closed_checks}
use Rattle.graph.specs.Reading.{read_verdict}
use Rattle.graph.proofs.Judging.{stops, moves_on, ends, place_found, place_lowest, place_none}
use Rattle.graph.proofs.refusing.judge_sets.Goals as goal

pub returns-in-Some : goal.returns-in-Some
unfolding ordinary effective empty_role closed_checks
returns-in-Some c =
    let e = c.empty_role.ensures in
    let at = c.in-Some.is in
    c.refuse.ensures ∙ ap (refused 27) (place_lowest _ _ e at) ∙ sym (stops _ _ (place_found _ _ e at))

pub returns-in-Some-twin_role : goal.returns-in-Some-twin_role
unfolding ordinary effective empty_role twin_role closed_checks
returns-in-Some-twin_role c =
    let at = c.in-Some-twin_role.is in
    c.refuse-in-Some-twin_role.ensures ∙ ap (refused 28) (place_lowest _ _ c.twin_role.ensures at)
    ∙ sym (moves_on _ _ (place_none _ _ c.empty_role.ensures c.in_default.is)
    ∙ stops _ _ (place_found _ _ c.twin_role.ensures at))

pub returns-in-Some-pair_role : goal.returns-in-Some-pair_role
unfolding ordinary effective empty_role twin_role closed_checks
returns-in-Some-pair_role c =
    let at = c.in-Some-pair_role.is in
    c.refuse-in-Some-pair_role.ensures ∙ ap (refused 29) (place_lowest _ _ c.pair_role.ensures at)
    ∙ sym (moves_on _ _ (place_none _ _ c.empty_role.ensures c.in_default.is)
    ∙ moves_on _ _ (place_none _ _ c.twin_role.ensures c.in_default-twin_role.is)
    ∙ stops _ _ (place_found _ _ c.pair_role.ensures at))

pub returns : goal.returns
unfolding ordinary effective empty_role twin_role closed_checks read_verdict
returns c =
    ends
    ∙ sym (moves_on _ _ (place_none _ _ c.empty_role.ensures c.in_default.is)
    ∙ moves_on _ _ (place_none _ _ c.twin_role.ensures c.in_default-twin_role.is)
    ∙ moves_on _ _ (place_none _ _ c.pair_role.ensures c.in_default-pair_role.is))
