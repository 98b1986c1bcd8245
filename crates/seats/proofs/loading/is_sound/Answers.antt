-- `seats::loading::is_sound` meets its contract: it tests by one check after the other.
-- Assumes nothing.
use mathlib.Core.Bool.{Bool, true, false, cond, not}
use mathlib.Core.Path.{◌≡◌, refl}
use Rattle.sets.specs.Counting.{any}
use Rattle.graph.specs.Graph.{role_count, ordinary, effective}
use Rattle.graph.specs.Refusing.{passed, refused, verdict, empty_role, twin_role, pair_role}
use Rattle.seats.specs.Seats.{seat_count, pair_seat}
use Rattle.seats.specs.Images.{content_checks}
use Rattle.seats.specs.Reading.{lent}
use Rattle.seats.proofs.LoadChecks.{finds}
use Rattle.seats.proofs.loading.is_sound.Goals as goal
use Rattle.seats.proofs.loading.is_sound.Goals.{Else-is_some, Else-is_some-2, Else-is_some-3, Else-is_some-4}

-- What each search that found nothing says.
none_empty : (c : Else-is_some) → any role_count (empty_role (lent c.args.state).graph) ≡ false
unfolding ordinary effective empty_role
none_empty c = finds _ _ c.empty_role.result c.empty_role.ensures c.is_some.ensures c.if-is_some.false

none_twin : (c : Else-is_some-2) → any role_count (twin_role (lent c.args.state).graph) ≡ false
unfolding ordinary effective twin_role
none_twin c = finds _ _ c.twin_role.result c.twin_role.ensures c.is_some-2.ensures c.if-is_some-2.false

none_pair : (c : Else-is_some-3) → any role_count (pair_role (lent c.args.state).graph) ≡ false
none_pair c = finds _ _ c.pair_role.result c.pair_role.ensures c.is_some-3.ensures c.if-is_some-3.false

none_seat : (c : Else-is_some-4) → any seat_count (pair_seat (lent c.args.state)) ≡ false
none_seat c = finds _ _ c.pair_seat.result c.pair_seat.ensures c.is_some-4.ensures c.if-is_some-4.false

pub returns-then-is_some : goal.returns-then-is_some
unfolding verdict content_checks ordinary effective empty_role
returns-then-is_some c = rw (finds _ _ c.empty_role.result c.empty_role.ensures c.is_some.ensures c.if-is_some.true)

pub returns-then-is_some-2 : goal.returns-then-is_some-2
unfolding verdict content_checks ordinary effective twin_role
returns-then-is_some-2 c =
    rw (none_empty (goal.at.returns-then-is_some-2 c).Else-is_some, finds _ _ c.twin_role.result c.twin_role.ensures c.is_some-2.ensures c.if-is_some-2.true)

pub returns-then-is_some-3 : goal.returns-then-is_some-3
unfolding verdict content_checks
returns-then-is_some-3 c =
    let o = goal.at.returns-then-is_some-3 c in
    rw (none_empty o.Else-is_some, none_twin o.Else-is_some-2, finds _ _ c.pair_role.result c.pair_role.ensures c.is_some-3.ensures c.if-is_some-3.true)

pub returns-then-is_some-4 : goal.returns-then-is_some-4
unfolding verdict content_checks
returns-then-is_some-4 c =
    let o = goal.at.returns-then-is_some-4 c in
    rw (none_empty o.Else-is_some, none_twin o.Else-is_some-2, none_pair o.Else-is_some-3, finds _ _ c.pair_seat.result c.pair_seat.ensures c.is_some-4.ensures c.if-is_some-4.true)

-- The last check decides.
decided : (b : Bool) → cond b (refused 8 0) passed ≡ cond (not b) passed (refused 8 0)
decided true = refl
decided false = refl

pub returns : goal.returns
unfolding verdict content_checks ordinary effective
returns c =
    let o = goal.at.returns c in
    rw (none_empty o.Else-is_some, none_twin o.Else-is_some-2, none_pair o.Else-is_some-3, none_seat o.Else-is_some-4, ← c.max_lacks.ensures) (decided c.max_lacks.result)
