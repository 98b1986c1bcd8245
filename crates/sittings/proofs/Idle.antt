-- Where there is no pair and nothing active, a change takes no pair, switches nothing off and has no pair together.
-- Assumes nothing.
use mathlib.Core.Path.{◌≡◌, refl, sym, ap, ◌∙◌}
use mathlib.Core.Bool.{Bool, not, and-false, ◌&&◌}
use mathlib.Core.List.{List, [], ◌∷◌}
use Prim.Native.Nat.{ℕ}
use lib.Dec.{T, eqb}
use lib.ListN.{length}
use Rattle.sets.specs.Sets.{member, single, difference, when, collect}
use Rattle.sets.proofs.Laws.{member-empty, member-difference, member-collect, equal_members}
use Rattle.graph.specs.Graph.{role_count}
use Rattle.graph.specs.Editing.{Change, add_by_place, add_by_privileges, remove_role, grant, withdraw, add_edge, remove_edge}
use Rattle.graph.specs.Refusing.{passed, verdict}
use Rattle.graph.specs.Reading.{read_found}
use Rattle.std.specs.Prelude.{None}
use Rattle.graph.proofs.Tables.{length-table, at-table, table_ext}
use Rattle.graph.proofs.Judging.{moves_on, ends, place_none}
use Rattle.seats.specs.Seats.{State, seat_count}
use Rattle.seats.specs.Records.{all_empty}
use Rattle.seats.proofs.Requests.{when-empty}
use Rattle.sittings.specs.Sittings.{Sitting, covered, still_covered, still_active}
use Rattle.sittings.specs.Calls.{pair_together, without_role, pairs_changed}
use Rattle.sittings.proofs.JoinedTables.{empty_entries}
use Rattle.sittings.proofs.Reached.{no_clash}

-- Nothing passes of no set.
none_passes : (n : ℕ) (f : ℕ → Bool) → collect n (λ r. member r 0 && f r) ≡ 0
none_passes n f = equal_members _ _ (λ i. member-collect i n (λ r. member r 0 && f r) ∙ rw (member-empty i, and-false))

-- Nothing is left of no set.
none_left : (s : ℕ) → difference 0 s ≡ 0
none_left s = equal_members _ _ (λ i. member-difference i 0 s ∙ rw (member-empty i))

-- Nothing is switched off where nothing is active.
pub idle_active : (h : State) {A : List ℕ} → length A ≡ seat_count → T (all_empty A) → still_active h A ≡ A
unfolding still_active still_covered
idle_active h {A} w t =
    table_ext seat_count _ A (length-table seat_count _) w
    (λ i l.
    at-table seat_count i _ l
    ∙ ap (λ (s : ℕ). collect role_count (λ r. member r s && covered h i r)) (empty_entries A t i)
    ∙ none_passes role_count (covered h i)
    ∙ sym (empty_entries A t i))

-- No pair goes where there is none.
pub idle_pairs : (c : Change) {P : List ℕ} → length P ≡ role_count → T (all_empty P) → pairs_changed c P ≡ P
unfolding pairs_changed without_role
idle_pairs (remove_role a b) {P} w t =
    table_ext role_count _ P (length-table role_count _) w
    (λ p l.
    at-table role_count p _ l
    ∙ ap (λ (s : ℕ). when (not (eqb p a)) (difference s (single a))) (empty_entries P t p)
    ∙ ap (when (not (eqb p a))) (none_left (single a))
    ∙ when-empty (not (eqb p a))
    ∙ sym (empty_entries P t p))
idle_pairs (add_by_place a own juniors seniors) w t = refl
idle_pairs (add_by_privileges a own) w t = refl
idle_pairs (grant a b) w t = refl
idle_pairs (withdraw a b) w t = refl
idle_pairs (add_edge a b) w t = refl
idle_pairs (remove_edge a b) w t = refl

-- 35 refuses nothing where there is no pair.
pub idle_passes : (z : Sitting) → T (all_empty z.pairs) → verdict (pair_together z ∷ []) ≡ passed
unfolding read_found
idle_passes z t = moves_on _ _ (place_none _ _ {x = None} (no_clash z t) refl) ∙ sym ends
