-- What the contracts of private functions speak of: what roles reach by a table of the roles below each, pairs that are together by what seats use, entries joined with more, and what the sitting makes of a call of kinds 1 to 12.
use Rattle.std.specs.Prelude.{Bool, cond, ◌&&◌, ◌||◌, List, ℕ, set}
use Rattle.sets.specs.Counting.{any}
use Rattle.sets.specs.Sets.{member, union, collect, gather}
use Rattle.graph.specs.Tables.{at, table}
use Rattle.graph.specs.Graph.{role_count}
use Rattle.graph.specs.Refusing.{verdict}
use Rattle.graph.specs.Searching.{Found, lowest_found}
use Rattle.seats.specs.Seats.{State, seat_count}
use Rattle.seats.specs.Calls.{Answer, is_refusal, settle}
use Rattle.seats.specs.Calls as base
use Rattle.sittings.specs.Sittings.{Sitting}
use Rattle.sittings.specs.Calls.{drawn_checks, pairs_after, active_after}

-- The roles that these reach, by the table of the roles below each.
abbrev pub reached_by : List ℕ → ℕ → ℕ
reached_by lower roles = union roles (gather role_count (λ r. member r roles) (at lower))

-- By seat, the active roles that its assigned roles reach, by the table of the roles below each.
abbrev pub still_by : List ℕ → List ℕ → List ℕ → List ℕ
still_by lower seats active = table seat_count (λ i. collect role_count (λ r. member r (at active i) && member r (reached_by lower (at seats i))))

-- The table with more members in an entry.
unfoldable pub joined_at : List ℕ → ℕ → ℕ → List ℕ
joined_at l n more = set l n (union (at l n) more)

-- Some entry of the table has both p and q.
abbrev pub shared_by : List ℕ → ℕ → ℕ → Bool
shared_by used p q = any seat_count (λ i. member p (at used i) && member q (at used i))

-- One of two roles is below the other by the table of the roles below each, or some entry of what seats use has both.
abbrev pub together_by : List ℕ → List ℕ → ℕ → ℕ → Bool
together_by lower used p q = (member p (at lower q) || member q (at lower p)) || shared_by used p q

-- Some role of the row is together with p.
abbrev pub meets_by : List ℕ → List ℕ → ℕ → ℕ → Bool
meets_by lower used p row = any role_count (λ q. member q row && together_by lower used p q)

-- The lower role of the lowest of these pairs that is together with these roles active, by the table of the roles below each.
abbrev pub clash_by : List ℕ → List ℕ → List ℕ → Found
clash_by lower pairs active =
    lowest_found role_count (λ p. meets_by lower (table seat_count (λ i. reached_by lower (at active i))) p (at pairs p))

-- What the sitting makes of a call of kinds 1 to 12 that document 01's keeper answers with a, leaving h.
unfoldable pub followed : Sitting → base.Call → Answer × State → Answer × Sitting
followed z c (a, h) =
    let y : Sitting = record { state = h; pairs = pairs_after c z.pairs; active = active_after c h z.active } in
    cond (is_refusal a) (a, z) (settle (verdict (drawn_checks c y)) a z y)
