-- What kind 2 makes of the sets: the new role has the set given, MaxRole gains it, and no other set changes.
-- Assumes nothing.
use mathlib.Core.Path.{◌≡◌, refl, sym, ◌∙◌, subst}
use mathlib.Core.Bool.{◌||◌}
use mathlib.Core.Logic.{◌≢◌, ◌⊎◌, inl, inr}
use Prim.Native.Nat.{ℕ, ◌<◌, ◌≤◌, ◌^◌}
use native.Mathlib.Omega.{arith}
use native.Mathlib.Decide.{dec_lt}
use lib.Dec.{T, eqb, eqb_refl}
use Rattle.sets.specs.Sets.{member, single, union, when}
use Rattle.sets.proofs.Tests.{either, or_left, or_right, passes, equal_test, test_equal}
use Rattle.sets.proofs.Laws.{union-lt, when-lt}
use Rattle.sets.proofs.Members.{in_union, union_left, union_right, in_when, when_in, single_in, same_members}
use Rattle.graph.specs.Graph.{Graph, role_count, privilege_count, max_role, present, effective}
use Rattle.graph.specs.Drawing.{below, direct, redraw}
use Rattle.graph.specs.Closing.{counts}
use Rattle.graph.specs.Editing.{add_by_privileges, for_role, edit, changed}
use Rattle.graph.specs.Invariants.{Formed}
use Rattle.graph.proofs.Order.{below-max, not-above-max, edge-below}
use Rattle.graph.proofs.Closing.{by_edge, of_top, counted, count_join, count_top, closed_by}
use Rattle.graph.proofs.Heights.{order}
use Rattle.graph.proofs.DrawnSets.{in_direct, direct_or_junior, effective_lt, below_member, beyond_empty}
use Rattle.graph.proofs.Edits.{added}
use Rattle.graph.proofs.Changes.{after, formed_after, effective-after}

module _ (g : Graph) (w : Formed g) (a s : ℕ) (la : 2 ≤ a) (ka : a < role_count) (na : T (present g a) → ⊥) (ls : s < 2 ^ privilege_count) where
  -- The former sets, with s joined to those of a and MaxRole.
  joined : ℕ → ℕ
  joined r = union (effective g r) (when (eqb r a || eqb r max_role) s)

  joined_old : (r p : ℕ) → T (member p (effective g r)) → T (member p (joined r))
  unfolding joined
  joined_old r p u = union_left p (effective g r) (when (eqb r a || eqb r max_role) s) u

  joined_new : (r p : ℕ) → (r ≡ a) ⊎ (r ≡ max_role) → T (member p s) → T (member p (joined r))
  unfolding joined
  joined_new r p e u = union_right p (effective g r) (when (eqb r a || eqb r max_role) s) (when_in p (eqb r a || eqb r max_role) s (test e) u)
    where
      test : (r ≡ a) ⊎ (r ≡ max_role) → T (eqb r a || eqb r max_role)
      test (inl q) = or_left (eqb r a) (eqb r max_role) (equal_test q)
      test (inr q) = or_right (eqb r a) (eqb r max_role) (equal_test q)

  in_joined : (r p : ℕ) → T (member p (joined r)) → T (member p (effective g r)) ⊎ (((r ≡ a) ⊎ (r ≡ max_role)) × T (member p s))
  unfolding joined
  in_joined r p u =
      elim (in_union p (effective g r) (when (eqb r a || eqb r max_role) s) u) [
        | inl x ↦ inl x
        | inr x ↦ (
            let (t, y) = in_when p (eqb r a || eqb r max_role) s x in
            elim (either (eqb r a) (eqb r max_role) t) [ inl e ↦ inr (inl (test_equal e), y) | inr e ↦ inr (inr (test_equal e), y) ])
      ]

  up : (r p : ℕ) → T (member p (joined r)) → T (member p ((after g (add_by_privileges a s)).directs r)) ⊎ ((t : ℕ) × T (counts (after g (add_by_privileges a s)) t r) × T (member p (joined t)))
  unfolding edit redraw for_role
  up r p u =
      elim (in_joined r p u) [
        | inl x ↦
            elim (direct_or_junior g p r x) [
              | inl y ↦ inl (union_left p (direct g r) (when (eqb r a) s) y)
              | inr (t, d, y) ↦ inr (t, count_join (after g (add_by_privileges a s)) t r d, joined_old t p y)
            ]
        | inr (inl e, x) ↦ inl (union_right p (direct g r) (when (eqb r a) s) (when_in p (eqb r a) s (equal_test e) x))
        | inr (inr e, x) ↦ inr (a, subst (λ (i : ℕ). T (counts (after g (add_by_privileges a s)) a i)) (sym e) top, joined_new a p (inl refl) x)
      ]
    where
      top : T (counts (after g (add_by_privileges a s)) a max_role)
      top = count_top (after g (add_by_privileges a s)) a la (union_right a g.roles (single a) (single_in a))

  own : (r p : ℕ) → T (member p ((after g (add_by_privileges a s)).directs r)) → T (member p (joined r))
  unfolding edit redraw for_role
  own r p u =
      elim (in_union p (direct g r) (when (eqb r a) s) u) [
        | inl x ↦ joined_old r p (in_direct g p r x)
        | inr x ↦ (let (e, y) = in_when p (eqb r a) s x in joined_new r p (inl (test_equal e)) y)
      ]

  down : (t r p : ℕ) → T (counts (after g (add_by_privileges a s)) t r) → T (member p (joined t)) → T (member p (joined r))
  unfolding edit redraw
  down t r p c u =
      elim (counted (after g (add_by_privileges a s)) t r c) [
        | by_edge d ↦
            elim (in_joined t p u) [
              | inl x ↦ joined_old r p (below_member g w t r p (edge-below g t r d) x)
              | inr (inl e, _) ↦ absurd (na (subst (λ (i : ℕ). T (present g i)) e ((order g w.roles_lt).between_present t r (edge-below g t r d)).0))
              | inr (inr e, _) ↦ absurd (not-above-max g r (subst (λ (i : ℕ). T (below g i r)) e (edge-below g t r d)))
            ]
        | of_top e l m ↦
            elim (in_joined t p u) [
              | inl x ↦ joined_old r p (subst (λ (i : ℕ). T (member p (effective g i))) (sym e) (below_member g w t max_role p (below-max g t (w.held p t x).0 (omega arith)) x))
              | inr (_, x) ↦ joined_new r p (inr e) x
            ]
      ]

  joined_lt : (r : ℕ) → joined r < 2 ^ privilege_count
  unfolding joined
  joined_lt r = union-lt privilege_count _ _ (effective_lt g w r) (when-lt privilege_count _ s ls)

  added_set : (r : ℕ) → r < role_count → effective (changed g (add_by_privileges a s)) r ≡ joined r
  added_set r l =
      effective-after g (add_by_privileges a s) r
      ∙ closed_by (after g (add_by_privileges a s)) (added g w a la ka na s ls) joined joined_lt up own down r l

  pub added_own : effective (changed g (add_by_privileges a s)) a ≡ s
  added_own =
      added_set a ka
      ∙ same_members privilege_count (joined a) s (joined_lt a) ls
      (λ p u. elim (in_joined a p u) [ inl x ↦ absurd (na (w.held p a x).0) | inr (_, x) ↦ x ])
      (λ p u. joined_new a p (inl refl) u)

  pub added_max : effective (changed g (add_by_privileges a s)) max_role ≡ union (effective g max_role) s
  unfolding joined when
  added_max =
      added_set max_role (omega arith)
      ∙ rw (passes (eqb max_role a || eqb max_role max_role) (or_right (eqb max_role a) (eqb max_role max_role) (eqb_refl max_role)))

  pub added_other : (r : ℕ) → r ≢ a → r ≢ max_role → effective (changed g (add_by_privileges a s)) r ≡ effective g r
  added_other r n m =
      elim (dec_lt r role_count) [
        | yes l ↦
            added_set r l
            ∙ same_members privilege_count (joined r) (effective g r) (joined_lt r) (effective_lt g w r)
            (λ p u. elim (in_joined r p u) [ inl x ↦ x | inr (inl e, _) ↦ absurd (n e) | inr (inr e, _) ↦ absurd (m e) ])
            (joined_old r)
        | no l ↦ beyond_empty (changed g (add_by_privileges a s)) (formed_after g (add_by_privileges a s) (added g w a la ka na s ls)) r (omega arith) ∙ sym (beyond_empty g w r (omega arith))
      ]
