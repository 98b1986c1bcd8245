-- `sittings::LentSitting::decide_exclude` meets its contract: each return is the check that it stands for, and what passes them is stored.
-- Assumes nothing.
use mathlib.Core.List.{List, []}
use mathlib.Core.Path.{◌≡◌, sym, ap, ◌∙◌}
use Prim.Native.Nat.{ℕ, max, ◌<◌}
use Rattle.std.proofs.lemmas.Result.{err_from_is_err_and}
use Rattle.graph.specs.Graph.{role_count, present}
use Rattle.graph.specs.Conflicts.{declare}
use Rattle.graph.specs.Searching.{lowest_found}
use Rattle.graph.specs.Reading.{drawn_from, read_verdict, read_found}
use Rattle.graph.proofs.Judging.{stops, moves_on, ends, place_found, place_lowest, place_none}
use Rattle.seats.specs.Calls.{accepted, refused}
use Rattle.sittings.specs.declared.clashing.Offer.{Offer}
use Rattle.sittings.specs.Sittings.{excluded, clashing}
use Rattle.sittings.specs.Calls.{after, reply}
use Rattle.sittings.specs.Reading.{sitting_of, lent, read_chosen}
use Rattle.sittings.specs.Working.{joined_at}
use Rattle.sittings.proofs.JoinedTables.{joined_none}
use Rattle.sittings.proofs.Choices.{exclude_parts, first_refuses, later_refuses, none_refuses, pair_numbers, clash_found, put_offered, put_stored}
use Rattle.sittings.proofs.LentSitting.decide_exclude.Goals as goal
use Rattle.sittings.proofs.LentSitting.decide_exclude.Goals.{After-clash}

-- The two numbers are those of roles.
numbers : (k : After-clash) → (let g = k.args in max g.a.0 g.b.0 < role_count)
unfolding read_verdict
numbers k =
    let g = k.args in
    pair_numbers (drawn_from g.self.state.graph.roles []) g.a.0 g.b.0 (sym k.judge_two_roles.ensures ∙ ap read_verdict k.in_ok-judge_two_roles.was)

-- What is found is found in the sitting after it.
offered : (k : After-clash) → (
    let g = k.args in
    let z = lent g.self in
    read_found k.clash.result ≡ lowest_found role_count (clashing (sitting_of z.state (declare z.pairs g.a.0 g.b.0) z.active)))
unfolding declare
offered k =
    let z = lent k.args.self in
    clash_found z.state k.clash.ensures
    (ap (λ (o : Offer). joined_at z.pairs o.pair.at o.pair.set) k.pair.ensures ∙ put_offered z.pairs (numbers k) k.min-lower.ensures k.max.ensures k.single-higher.ensures)
    (ap (λ (o : Offer). joined_at z.active o.active.at o.active.set) k.pair.ensures ∙ joined_none z.active 0)

pub returns-in_err-judge_two_roles : goal.returns-in_err-judge_two_roles
unfolding present read_chosen
returns-in_err-judge_two_roles c =
    let g = c.args in
    let p = err_from_is_err_and c.from_residual.result c.from_residual.ensures.1 in
    rw (p.1, p.2) (first_refuses (exclude_parts (lent g.self) g.a.0 g.b.0) c.judge_two_roles.ensures c.in_err-judge_two_roles.was)

pub returns-then-is_excluded : goal.returns-then-is_excluded
unfolding present excluded read_chosen
returns-then-is_excluded c =
    let g = c.args in
    rw c.refused.ensures
    (later_refuses (exclude_parts (lent g.self) g.a.0 g.b.0) c.judge_two_roles.ensures c.in_ok-judge_two_roles.was (stops _ _ (sym c.is_excluded.ensures ∙ c.if-is_excluded.true)))

pub returns-in-Some : goal.returns-in-Some
unfolding present excluded after read_chosen
returns-in-Some c =
    let g = c.args in
    let z = lent g.self in
    let e = offered (goal.at.returns-in-Some c).After-clash in
    let found = c.in-Some.is in
    rw c.refused-in-Some.ensures
    (ap (λ (p : ℕ). (refused 35 p, z)) (place_lowest _ _ e found)
    ∙ later_refuses (exclude_parts z g.a.0 g.b.0) c.judge_two_roles.ensures c.in_ok-judge_two_roles.was
    (moves_on _ _ (sym c.is_excluded.ensures ∙ c.if-is_excluded.false) ∙ stops _ _ (place_found _ _ e found)))

pub returns : goal.returns
unfolding present excluded after reply read_chosen declare
returns c =
    let g = c.args in
    let z = lent g.self in
    let k = (goal.at.returns c).After-clash in
    ap (λ (P : List ℕ). (accepted, sitting_of z.state P z.active))
    (put_stored z.pairs (numbers k) c.min-lower.ensures c.max.ensures c.entry.ensures c.single-higher.ensures c.union.ensures)
    ∙ none_refuses (exclude_parts z g.a.0 g.b.0) c.judge_two_roles.ensures c.in_ok-judge_two_roles.was
    (moves_on _ _ (sym c.is_excluded.ensures ∙ c.if-is_excluded.false) ∙ moves_on _ _ (place_none _ _ (offered k) c.in_default.is) ∙ sym ends)
