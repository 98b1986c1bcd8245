-- What kinds 3 and 7 make of the sets.
-- Assumes nothing.
use mathlib.Core.Path.{◌≡◌, refl, sym, ◌∙◌, subst}
use mathlib.Core.Bool.{not, ◌&&◌, ◌||◌}
use mathlib.Core.Logic.{◌≢◌, inl, inr}
use Prim.Native.Nat.{ℕ, zero, suc, ◌<◌, ◌^◌}
use native.Mathlib.Nat.{not-suc-le-zero, lt-suc_self}
use native.Mathlib.Omega.{arith}
use native.Mathlib.Decide.{ℕ_discrete}
use lib.Dec.{T, not_T, eqb, eqb_refl}
use Rattle.sets.specs.Sets.{member, single, when}
use Rattle.sets.proofs.Tests.{both, join, or_left, or_right, equal_test, test_equal}
use Rattle.sets.proofs.Members.{in_union, union_left, union_right, in_difference, in_when, when_in, same_members}
use Rattle.graph.specs.Tables.{at}
use Rattle.graph.specs.Graph.{Graph, privilege_count, effective}
use Rattle.graph.specs.Drawing.{Drawing, below, edge, direct, redraw}
use Rattle.graph.specs.Closing.{counts, close}
use Rattle.graph.specs.Editing.{Change, remove_role, remove_edge, edit, changed}
use Rattle.graph.specs.Invariants.{Formed}
use Rattle.graph.proofs.Order.{Edge, edge-below}
use Rattle.graph.proofs.Closing.{Laid, count_join, closed_own, closed_down, closed_formed}
use Rattle.graph.proofs.Heights.{below_apart, tall, tall_lt}
use Rattle.graph.proofs.DrawnSets.{in_direct, direct_or_junior, effective_lt, below_member, counted_below, closed_within}
use Rattle.graph.proofs.Edits.{removed_below, edge_removed, left_below, role_removed}

-- The drawing that a change makes.
abbrev pub after : Graph → Change → Drawing
after g c = edit c (redraw g)

pub formed_after : (g : Graph) (c : Change) → Laid (after g c) → Formed (changed g c)
unfolding changed
formed_after g c v = closed_formed (after g c) v g.conflicts

pub effective-after : (g : Graph) (c : Change) (r : ℕ) → effective (changed g c) r ≡ at (close (after g c)) r
unfolding changed effective
effective-after g c r = refl

module _ (g : Graph) (w : Formed g) where
  -- Two graphs hold the same in r where each privilege held in one is held in the other.
  unchanged : (c : Change) (v : Laid (after g c)) (r : ℕ) → ((p : ℕ) → T (member p (at (close (after g c)) r)) → T (member p (effective g r)))
      → ((p : ℕ) → T (member p (effective g r)) → T (member p (at (close (after g c)) r)))
      → effective (changed g c) r ≡ effective g r
  unchanged c v r f h =
      effective-after g c r
      ∙ same_members privilege_count _ _ (subst (λ (s : ℕ). s < 2 ^ privilege_count) (effective-after g c r) (effective_lt (changed g c) (formed_after g c v) r)) (effective_lt g w r) f h

  -- ---- kind 7
  module _ (a b : ℕ) (ab : Edge g a b) where
    -- An edge other than that from a to b is left.
    edge_left : (t r : ℕ) → Edge g t r → (t ≡ a → r ≡ b → ⊥) → T (counts (after g (remove_edge a b)) t r)
    unfolding edit redraw
    edge_left t r d n =
        count_join (after g (remove_edge a b)) t r
        (or_left (edge g t r && not (eqb r b && eqb t a)) ((eqb r b && edge g t a) || (edge g b r && eqb t a))
        (join (edge g t r) (not (eqb r b && eqb t a)) d
        (not_T (eqb r b && eqb t a) (λ x. let (q, p) = both (eqb r b) (eqb t a) x in n (test_equal p) (test_equal q)))))

    -- a is joined to each immediate senior of b.
    joined_up : (r : ℕ) → Edge g b r → T (counts (after g (remove_edge a b)) a r)
    unfolding edit redraw
    joined_up r d =
        count_join (after g (remove_edge a b)) a r
        (or_right (edge g a r && not (eqb r b && eqb a a)) ((eqb r b && edge g a a) || (edge g b r && eqb a a))
        (or_right (eqb r b && edge g a a) (edge g b r && eqb a a) (join (edge g b r) (eqb a a) d (eqb_refl a))))

    left_lies : (t r : ℕ) → T (counts (after g (remove_edge a b)) t r) → T (below g t r)
    unfolding edit redraw
    left_lies = counted_below g w (after g (remove_edge a b)) (λ t m. m) (removed_below g w.roles_lt a b ab)

    -- What a role other than b held is still held: where it came through b, it comes from b or past it.
    still_held : (k p r : ℕ) → tall g w.roles_lt r < k → r ≢ b → T (member p (effective g r)) → T (member p (at (close (after g (remove_edge a b))) r))
    unfolding edit redraw
    still_held zero p r l n u = absurd (not-suc-le-zero l)
    still_held (suc k) p r l n u =
        elim (direct_or_junior g p r u) [
          | inl x ↦ closed_own D v p r x
          | inr (t, d, x) ↦
              elim (ℕ_discrete t b) [
                | yes e ↦ through (subst (λ (i : ℕ). Edge g i r) e d) (subst (λ (i : ℕ). T (member p (effective g i))) e x) (λ s h. still_held k p s (omega (arith, l, h)))
                | no m ↦ down t r (edge_left t r d (λ _ y. n y)) (still_held k p t (omega (arith, tall_lt g w.roles_lt t r (edge-below g t r d))) m x)
              ]
        ]
      where
        D : Drawing
        D = after g (remove_edge a b)

        v : Laid D
        v = edge_removed g w a b ab

        down : (t r : ℕ) → T (counts D t r) → T (member p (at (close D) t)) → T (member p (at (close D) r))
        down t r c y = closed_down D v p t r c y

        through : Edge g b r → T (member p (effective g b)) → ((s : ℕ) → tall g w.roles_lt s < tall g w.roles_lt r → s ≢ b → T (member p (effective g s)) → T (member p (at (close D) s))) → T (member p (at (close D) r))
        through d x rec =
            let up : T (counts D b r) = edge_left b r d (λ e _. below_apart g w.roles_lt a b (edge-below g a b ab) (sym e)) in
            let lower : (s : ℕ) → Edge g s b → tall g w.roles_lt s < tall g w.roles_lt r = λ s h. omega (arith, tall_lt g w.roles_lt s b (edge-below g s b h), tall_lt g w.roles_lt b r (edge-below g b r d)) in
            elim (direct_or_junior g p b x) [
              | inl y ↦ down b r up (closed_own D v p b y)
              | inr (s, h, y) ↦ (
                  let z = rec s (lower s h) (below_apart g w.roles_lt s b (edge-below g s b h)) y in
                  elim (ℕ_discrete s a) [
                    | yes e ↦ down a r (joined_up r d) (subst (λ (i : ℕ). T (member p (at (close D) i))) e z)
                    | no m ↦ down b r up (down s b (edge_left s b h (λ q _. m q)) z)
                  ])
            ]

    -- Removing the edge from a to b changes no set but that of b.
    pub removed_edge_only : (r : ℕ) → r ≢ b → effective (changed g (remove_edge a b)) r ≡ effective g r
    unfolding edit redraw
    removed_edge_only r n =
        unchanged (remove_edge a b) (edge_removed g w a b ab) r
        (λ p u. closed_within g w (after g (remove_edge a b)) (edge_removed g w a b ab) (in_direct g) left_lies p r u)
        (λ p u. still_held (suc (tall g w.roles_lt r)) p r (lt-suc_self _) n u)

  -- ---- kind 3
  module _ (a b : ℕ) where
    other : (i : ℕ) → i ≢ a → T (not (eqb i a))
    other i d = not_T (eqb i a) (λ t. d (test_equal t))

    -- An edge beside a is left, and each immediate junior of a is joined to each immediate senior.
    beside : (t r : ℕ) → t ≢ a → r ≢ a → T (edge g t r || (edge g a r && edge g t a)) → T (counts (after g (remove_role a b)) t r)
    unfolding edit redraw
    beside t r n m x =
        count_join (after g (remove_role a b)) t r
        (join (not (eqb r a)) ((edge g t r || (edge g a r && edge g t a)) && not (eqb t a)) (other r m)
        (join (edge g t r || (edge g a r && edge g t a)) (not (eqb t a)) x (other t n)))

    own_direct : (p r : ℕ) → r ≢ a → T (member p (direct g r)) → T (member p ((after g (remove_role a b)).directs r))
    unfolding edit redraw
    own_direct p r d u = when_in p (not (eqb r a)) _ (other r d) (union_left p (direct g r) _ u)

    -- With b 1, a's direct privileges go to its immediate seniors.
    taken_direct : (p r : ℕ) → b ≡ 1 → Edge g a r → T (member p (direct g a)) → T (member p ((after g (remove_role a b)).directs r))
    unfolding edit redraw
    taken_direct p r e d u =
        when_in p (not (eqb r a)) _ (other r (λ q. below_apart g w.roles_lt a r (edge-below g a r d) (sym q)))
        (union_right p (direct g r) _ (when_in p (eqb b 1 && edge g a r) (direct g a) (join (eqb b 1) (edge g a r) (equal_test e) d) u))

    direct_held : (p r : ℕ) → T (member p ((after g (remove_role a b)).directs r)) → T (member p (effective g r))
    unfolding edit redraw
    direct_held p r u =
        elim (in_union p (direct g r) (when (eqb b 1 && edge g a r) (direct g a)) (in_when p (not (eqb r a)) _ u).1) [
          | inl x ↦ in_direct g p r x
          | inr x ↦ (
              let (t, y) = in_when p (eqb b 1 && edge g a r) (direct g a) x in
              below_member g w a r p (edge-below g a r (both (eqb b 1) (edge g a r) t).1) (in_direct g p a y))
        ]

    beside_lies : (t r : ℕ) → T (counts (after g (remove_role a b)) t r) → T (below g t r)
    unfolding edit redraw
    beside_lies = counted_below g w (after g (remove_role a b)) (λ t m. (in_difference t g.roles (single a) m).0) (λ t r x. (left_below g w.roles_lt a b t r x).2)

    passed_on : (k p r : ℕ) → tall g w.roles_lt r < k → r ≢ a → (T (member p (direct g a)) → b ≡ 1) → T (member p (effective g r)) → T (member p (at (close (after g (remove_role a b))) r))
    passed_on zero p r l n f u = absurd (not-suc-le-zero l)
    passed_on (suc k) p r l n f u =
        elim (direct_or_junior g p r u) [
          | inl x ↦ own r (own_direct p r n x)
          | inr (t, d, x) ↦
              elim (ℕ_discrete t a) [
                | yes e ↦ past (subst (λ (i : ℕ). Edge g i r) e d) (subst (λ (i : ℕ). T (member p (effective g i))) e x) (λ s h m. passed_on k p s (omega (arith, l, h)) m f)
                | no m ↦ down t (beside t r m n (or_left (edge g t r) _ d)) (passed_on k p t (omega (arith, tall_lt g w.roles_lt t r (edge-below g t r d))) m f x)
              ]
        ]
      where
        D : Drawing
        D = after g (remove_role a b)

        own : (r : ℕ) → T (member p (D.directs r)) → T (member p (at (close D) r))
        own r x = closed_own D (role_removed g w a b) p r x

        down : (t : ℕ) → T (counts D t r) → T (member p (at (close D) t)) → T (member p (at (close D) r))
        down t c x = closed_down D (role_removed g w a b) p t r c x

        past : Edge g a r → T (member p (effective g a)) → ((s : ℕ) → tall g w.roles_lt s < tall g w.roles_lt r → s ≢ a → T (member p (effective g s)) → T (member p (at (close D) s))) → T (member p (at (close D) r))
        past d x rec =
            elim (direct_or_junior g p a x) [
              | inl y ↦ own r (taken_direct p r (f y) d y)
              | inr (s, h, y) ↦ (
                  let m = below_apart g w.roles_lt s a (edge-below g s a h) in
                  let lower : tall g w.roles_lt s < tall g w.roles_lt r = omega (arith, tall_lt g w.roles_lt s a (edge-below g s a h), tall_lt g w.roles_lt a r (edge-below g a r d)) in
                  down s (beside s r m n (or_right (edge g s r) (edge g a r && edge g s a) (join (edge g a r) (edge g s a) d h))) (rec s lower m y))
            ]

    -- Removing role a adds to no set.
    pub removed_role_within : (p r : ℕ) → T (member p (effective (changed g (remove_role a b)) r)) → T (member p (effective g r))
    removed_role_within p r u =
        closed_within g w (after g (remove_role a b)) (role_removed g w a b) direct_held beside_lies p r (subst (λ (s : ℕ). T (member p s)) (effective-after g (remove_role a b) r) u)

    -- It takes no privilege from another role but those direct in a, and with b 1 not those.
    pub removed_role_keeps : (p r : ℕ) → r ≢ a → (T (member p (direct g a)) → b ≡ 1) → T (member p (effective g r)) → T (member p (effective (changed g (remove_role a b)) r))
    removed_role_keeps p r n f u =
        subst (λ (s : ℕ). T (member p s)) (sym (effective-after g (remove_role a b) r)) (passed_on (suc (tall g w.roles_lt r)) p r (lt-suc_self _) n f u)

  -- With b 0 another role loses only privileges direct in a.
  pub dropped_role_keeps : (a r : ℕ) → r ≢ a → (p : ℕ) → T (member p (effective g r)) → (T (member p (direct g a)) → ⊥) → T (member p (effective (changed g (remove_role a 0)) r))
  dropped_role_keeps a r n p u f = removed_role_keeps a 0 p r n (λ x. absurd (f x)) u

  -- With b 1 no other role's set changes.
  pub removed_role_only : (a r : ℕ) → r ≢ a → effective (changed g (remove_role a 1)) r ≡ effective g r
  removed_role_only a r n =
      same_members privilege_count _ _ (effective_lt (changed g (remove_role a 1)) (formed_after g (remove_role a 1) (role_removed g w a 1)) r) (effective_lt g w r)
      (λ p u. removed_role_within a 1 p r u) (λ p u. removed_role_keeps a 1 p r n (λ _. refl) u)
