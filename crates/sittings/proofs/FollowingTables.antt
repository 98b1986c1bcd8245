-- What follows a change, by the table of the roles below each: what stays active, and the pair that is together.
-- Assumes nothing.
use mathlib.Core.Path.{◌≡◌, refl, ap, ap₂, ◌∙◌}
use mathlib.Core.Bool.{Bool, ◌&&◌}
use mathlib.Core.List.{List}
use Prim.Native.Nat.{ℕ, zero, suc, ◌<◌}
use native.Mathlib.Omega.{arith}
use Rattle.sets.specs.Sets.{member, single, union, when, collect}
use Rattle.graph.specs.Tables.{at, table}
use Rattle.graph.specs.Graph.{role_count}
use Rattle.graph.specs.Searching.{Found, lowest_found}
use Rattle.graph.proofs.Tables.{at-table}
use Rattle.graph.proofs.Searches.{found_cong}
use Rattle.graph.proofs.DrawingCode.{table_cong}
use Rattle.seats.specs.Seats.{State, seat_count}
use Rattle.sittings.specs.Sittings.{covered, still_covered, still_active, clashing}
use Rattle.sittings.specs.Reading.{sitting_of}
use Rattle.sittings.specs.Working.{reached_by, still_by, joined_at, meets_by, clash_by}
use Rattle.sittings.proofs.JoinedTables.{joined_none}
use Rattle.sittings.proofs.Reached.{lowers, reached_test, clash_test}

collect_cong : (n : ℕ) (f g : ℕ → Bool) → ((i : ℕ) → i < n → f i ≡ g i) → collect n f ≡ collect n g
unfolding collect
collect_cong zero f g e = refl
collect_cong (suc n) f g e = ap₂ (λ (b : Bool) (s : ℕ). union (when b (single n)) s) (e n (omega arith)) (collect_cong n f g (λ i l. e i (omega arith)))

pub still_by_test : (h : State) (A : List ℕ) → still_by (lowers h.graph) h.seats A ≡ still_active h A
unfolding still_active still_covered covered
still_by_test h A =
    table_cong seat_count _ _
    (λ i _. collect_cong role_count _ _ (λ r l. ap (λ (b : Bool). member r (at A i) && b) (reached_test h.graph (at h.seats i) r l)))

-- A search to which nothing is offered, among all entries of the pairs.
pub clash_after : (h : State) (P A : List ℕ) {lower pairs active : List ℕ} {x : Found} → x ≡ clash_by lower (joined_at pairs 0 0) (joined_at active 0 0)
    → lower ≡ lowers h.graph → pairs ≡ table role_count (at P) → active ≡ A → x ≡ lowest_found role_count (clashing (sitting_of h P A))
clash_after h P A {lower} {pairs} {active} e l p a =
    let L = lowers h.graph in
    e
    ∙ ap₂ (λ (Q O : List ℕ). clash_by lower Q O) (joined_none pairs 0 ∙ p) (joined_none active 0 ∙ a)
    ∙ ap (λ (lower : List ℕ). clash_by lower (table role_count (at P)) A) l
    ∙ found_cong role_count _ _ (λ r k. ap (λ (row : ℕ). meets_by L (table seat_count (λ i. reached_by L (at A i))) r row) (at-table role_count r (at P) k))
    ∙ clash_test (sitting_of h P A)
