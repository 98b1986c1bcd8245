-- `sittings::LentSitting::decide_activate` meets its contract: each return is the check that it stands for, and what passes them is stored.
-- Assumes nothing.
use mathlib.Core.Bool.{not}
use mathlib.Core.List.{List, []}
use mathlib.Core.Path.{◌≡◌, refl, sym, ap, ◌∙◌}
use Prim.Native.Nat.{ℕ, ◌<◌}
use Rattle.std.proofs.lemmas.Result.{err_from_is_err_and}
use Rattle.sets.specs.Sets.{member}
use Rattle.graph.specs.Tables.{at, put}
use Rattle.graph.specs.Graph.{role_count, ordinary, present, effective}
use Rattle.graph.specs.Drawing.{below}
use Rattle.graph.specs.Refusing.{at_or_below}
use Rattle.graph.specs.Searching.{lowest_found}
use Rattle.graph.specs.Reading.{drawn, drawn_from, read_verdict, read_found}
use Rattle.graph.proofs.Judging.{stops, moves_on, ends, place_found, place_lowest, place_none}
use Rattle.seats.specs.Calls.{accepted, refused}
use Rattle.seats.proofs.Requests.{seat_numbers}
use Rattle.sittings.specs.declared.clashing.Offer.{Offer}
use Rattle.sittings.specs.Sittings.{is_active, reaches, covered, clashing}
use Rattle.sittings.specs.Calls.{after, reply}
use Rattle.sittings.specs.Reading.{sitting_of, lent, read_chosen}
use Rattle.sittings.specs.Working.{joined_at}
use Rattle.sittings.proofs.JoinedTables.{joined_none}
use Rattle.sittings.proofs.Choices.{activate_parts, first_refuses, later_refuses, none_refuses, clash_found, put_offered, put_stored}
use Rattle.sittings.proofs.LentSitting.decide_activate.Goals as goal
use Rattle.sittings.proofs.LentSitting.decide_activate.Goals.{After-clash_if_paired, After-is_reached, After-member}

-- Whether the role is active at the seat.
own : (m : After-member) → (let g = m.args in m.member.result ≡ member g.b.0 (at g.self.active.now g.a.0))
own m = m.member.ensures ∙ ap (member _) m.entry-own.ensures

-- Whether an assigned role of the seat reaches the role.
reached : (y : After-is_reached) → (let g = y.args in y.is_reached.result ≡ covered (lent g.self).state g.a.0 g.b.0)
unfolding covered reaches at_or_below below present ordinary effective
reached y =
    let g = y.args in
    y.is_reached.ensures ∙ ap (λ (held : ℕ). reaches (drawn g.self.state.graph) held g.b.0) y.roles_of.ensures

-- The role's number is a role's.
number : (k : After-clash_if_paired) → k.args.b.0 < role_count
unfolding read_verdict
number k =
    let g = k.args in
    (seat_numbers (drawn_from g.self.state.graph.roles []) g.a.0 g.b.0 (sym k.judge_seat.ensures ∙ ap read_verdict k.in_ok-judge_seat.was)).1

-- What is found is found in the sitting after it.
offered : (k : After-clash_if_paired) → (
    let g = k.args in
    let z = lent g.self in
    read_found k.clash_if_paired.result ≡ lowest_found role_count (clashing (sitting_of z.state z.pairs (put z.active g.a.0 g.b.0))))
offered k =
    let z = lent k.args.self in
    clash_found z.state k.clash_if_paired.ensures
    (ap (λ (o : Offer). joined_at z.pairs o.pair.at o.pair.set) k.active.ensures ∙ joined_none z.pairs 0)
    (ap (λ (o : Offer). joined_at z.active o.active.at o.active.set) k.active.ensures ∙ put_offered z.active (number k) refl refl k.single-role.ensures)

pub returns-in_err-judge_seat : goal.returns-in_err-judge_seat
unfolding present read_chosen
returns-in_err-judge_seat c =
    let g = c.args in
    let p = err_from_is_err_and c.from_residual.result c.from_residual.ensures.1 in
    rw (p.1, p.2) (first_refuses (activate_parts (lent g.self) g.a.0 g.b.0) c.judge_seat.ensures c.in_err-judge_seat.was)

pub returns-then-member : goal.returns-then-member
unfolding present is_active read_chosen
returns-then-member c =
    let g = c.args in
    rw c.refused.ensures
    (later_refuses (activate_parts (lent g.self) g.a.0 g.b.0) c.judge_seat.ensures c.in_ok-judge_seat.was
    (stops _ _ (sym (own (goal.at.returns-then-member c).After-member) ∙ c.if-member.true)))

pub returns-then-not-is_reached : goal.returns-then-not-is_reached
unfolding present is_active read_chosen
returns-then-not-is_reached c =
    let g = c.args in
    let m = (goal.at.returns-then-not-is_reached c).After-member in
    let y = (goal.at.returns-then-not-is_reached c).After-is_reached in
    rw c.refused-then-not-is_reached.ensures
    (later_refuses (activate_parts (lent g.self) g.a.0 g.b.0) c.judge_seat.ensures c.in_ok-judge_seat.was
    (moves_on _ _ (sym (own m) ∙ c.if-member.false) ∙ stops _ _ (ap not (sym (reached y) ∙ c.if-not-is_reached.true))))

pub returns-in-Some : goal.returns-in-Some
unfolding present is_active after read_chosen
returns-in-Some c =
    let g = c.args in
    let z = lent g.self in
    let m = (goal.at.returns-in-Some c).After-member in
    let y = (goal.at.returns-in-Some c).After-is_reached in
    let e = offered (goal.at.returns-in-Some c).After-clash_if_paired in
    let found = c.in-Some.is in
    rw c.refused-in-Some.ensures
    (ap (λ (p : ℕ). (refused 35 p, z)) (place_lowest _ _ e found)
    ∙ later_refuses (activate_parts z g.a.0 g.b.0) c.judge_seat.ensures c.in_ok-judge_seat.was
    (moves_on _ _ (sym (own m) ∙ c.if-member.false) ∙ moves_on _ _ (ap not (sym (reached y) ∙ c.if-not-is_reached.false)) ∙ stops _ _ (place_found _ _ e found)))

pub returns : goal.returns
unfolding present is_active after reply read_chosen
returns c =
    let g = c.args in
    let z = lent g.self in
    let m = (goal.at.returns c).After-member in
    let y = (goal.at.returns c).After-is_reached in
    let k = (goal.at.returns c).After-clash_if_paired in
    ap (λ (A : List ℕ). (accepted, sitting_of z.state z.pairs A)) (put_stored z.active (number k) refl refl c.entry-own.ensures c.single-role.ensures c.union.ensures)
    ∙ none_refuses (activate_parts z g.a.0 g.b.0) c.judge_seat.ensures c.in_ok-judge_seat.was
    (moves_on _ _ (sym (own m) ∙ c.if-member.false) ∙ moves_on _ _ (ap not (sym (reached y) ∙ c.if-not-is_reached.false))
    ∙ moves_on _ _ (place_none _ _ (offered k) c.in_default.is) ∙ sym ends)
