-- Each kind of change that its checks let pass lays the graph out without a circle, and so leaves a formed graph.
-- Assumes nothing.
use mathlib.Core.Path.{◌≡◌, sym, ap, subst}
use mathlib.Core.Bool.{Bool, true, false, cond, not, ◌&&◌, ◌||◌}
use mathlib.Core.Logic.{◌≢◌, ◌⊎◌, inl, inr}
use Prim.Native.Nat.{ℕ, suc, ◌+◌, ◌<◌, ◌≤◌, ◌^◌}
use native.Mathlib.Omega.{arith}
use lib.Dec.{T, T_not, eqb}
use Rattle.sets.specs.Sets.{member, single, difference, union, when}
use Rattle.sets.proofs.Tests.{both, either, or_left, or_right, passes, fails, so, equal_test, test_equal}
use Rattle.sets.proofs.Laws.{union-lt, difference-lt, single-lt, when-lt}
use Rattle.sets.proofs.Members.{in_union, in_difference, difference_in, in_when, in_single}
use Rattle.graph.specs.Graph.{Graph, role_count, privilege_count, max_role, is_end, present}
use Rattle.graph.specs.Drawing.{below, edge, direct, redraw}
use Rattle.graph.specs.Editing.{Change, add_by_place, add_by_privileges, remove_role, grant, withdraw, add_edge, remove_edge, for_role, edit, changed}
use Rattle.graph.specs.Refusing.{input_checks, at_or_below, state_checks, Passes}
use Rattle.graph.specs.Invariants.{Formed}
use Rattle.graph.proofs.Order.{member_present, below-max, not-end, edge-below}
use Rattle.graph.proofs.Refusals.{number_lt, no_end_in, not_equal, all_present, no_circle_in}
use Rattle.graph.specs.Working.{has_role, JoinsLaid}
use Rattle.graph.proofs.Closing.{DirectsLaid, Laid, closed_formed}
use Rattle.graph.proofs.Heights.{order, ordered, edges_laid}
use Rattle.graph.proofs.DrawnSets.{direct_laid}
use Rattle.graph.proofs.Placing.{given-more, at_or_below_cases, at_itself, at_or_below_up, place_laid, unplaced_laid, own_laid, one-more}

-- The sets that a change carries have their width.
unfoldable pub Fits : Change → Type 0
Fits (add_by_place a own juniors seniors) = (own < 2 ^ privilege_count) × (juniors < 2 ^ role_count) × (seniors < 2 ^ role_count)
Fits (add_by_privileges a own) = own < 2 ^ privilege_count
Fits (remove_role a b) = Unit {0}
Fits (grant a b) = Unit {0}
Fits (withdraw a b) = Unit {0}
Fits (add_edge a b) = Unit {0}
Fits (remove_edge a b) = Unit {0}

-- ---- edges that make no circle, whatever the sets hold
-- Kind 6: from b upwards each role is raised above a.
module _ (g : Graph) (j : JoinsLaid g.roles (edge g)) (a b : ℕ) (pa : T (present g a)) (pb : T (present g b)) (lb : 1 ≤ b) (d : a ≢ b) (n : T (below g b a) → ⊥) where
  -- What a role's height gains: at b and above it more than a's own height.
  rise : ℕ → ℕ
  rise r = cond (at_or_below g b r) (suc (j.height a)) 0

  rise-le : (t r : ℕ) → T (below g t r) → rise t ≤ rise r
  unfolding rise
  rise-le t r x = go (at_or_below g b t) (at_or_below g b r) (at_or_below_up g b t r x)
    where
      go : (p q : Bool) → (T p → T q) → cond p (suc (j.height a)) 0 ≤ cond q (suc (j.height a)) 0
      go true true f = omega arith
      go true false f = absurd (f tt)
      go false q f = omega arith

  rise_low : rise a ≡ 0
  unfolding rise
  rise_low = rw (fails (at_or_below g b a) (λ h. elim (at_or_below_cases g b a h) [ inl e ↦ d (sym e) | inr y ↦ n y ]))

  rise_high : rise b ≡ suc (j.height a)
  unfolding rise
  rise_high = rw (passes (at_or_below g b b) (at_itself g b))

  edge_cases : (t r : ℕ) → T ((edit (add_edge a b) (redraw g)).joins t r) → T (edge g t r) ⊎ ((t ≡ a) × (r ≡ b))
  unfolding edit redraw
  edge_cases t r x =
      elim (either (edge g t r) (eqb r b && eqb t a) x) [
        | inl y ↦ inl y
        | inr y ↦ (let (q, p) = both (eqb r b) (eqb t a) y in inr (test_equal p, test_equal q))
      ]

  pub edge_added_joins : JoinsLaid g.roles (edit (add_edge a b) (redraw g)).joins
  unfolding present
  edge_added_joins = record {
    height = λ r. j.height r + rise r;
    falls = λ t r x.
        elim (edge_cases t r x) [
          | inl y ↦ omega (arith, j.falls t r y, rise-le t r (edge-below g t r y))
          | inr (p, q) ↦ omega (arith, rise_low, rise_high, ap j.height p, ap rise p, ap rise q)
        ];
    top = λ t m l. omega (arith, j.top t m l, rise-le t max_role (below-max g t (member_present g t m) (omega arith)));
    joins_from = λ t r x. elim (edge_cases t r x) [ inl y ↦ j.joins_from t r y | inr (p, q) ↦ subst (λ (i : ℕ). T (has_role g.roles i)) (sym p) pa ];
    joins_to = λ t r x. elim (edge_cases t r x) [ inl y ↦ j.joins_to t r y | inr (p, q) ↦ (subst (λ (i : ℕ). T (has_role g.roles i)) (sym q) pb, omega arith) ];
  }

module _ (g : Graph) (h : g.roles < 2 ^ role_count) where
  -- Kind 7: the edges that are left lie in the order.
  pub removed_below : (a b : ℕ) → T (edge g a b) → (t r : ℕ) → T ((edit (remove_edge a b) (redraw g)).joins t r) → T (below g t r)
  unfolding edit redraw
  removed_below a b d t r x =
      elim (either (edge g t r && not (eqb r b && eqb t a)) ((eqb r b && edge g t a) || (edge g b r && eqb t a)) x) [
        | inl y ↦ edge-below g t r (both (edge g t r) (not (eqb r b && eqb t a)) y).0
        | inr y ↦
            elim (either (eqb r b && edge g t a) (edge g b r && eqb t a) y) [
              | inl z ↦ (
                  let (e, x) = both (eqb r b) (edge g t a) z in
                  (order g h).transitive t a r (edge-below g t a x) (subst (λ (i : ℕ). T (below g a i)) (sym (test_equal e)) (edge-below g a b d)))
              | inr z ↦ (
                  let (x, e) = both (edge g b r) (eqb t a) z in
                  (order g h).transitive t b r (subst (λ (i : ℕ). T (below g i b)) (sym (test_equal e)) (edge-below g a b d)) (edge-below g b r x))
            ]
      ]

  pub edge_removed_joins : (a b : ℕ) → T (edge g a b) → JoinsLaid g.roles (edit (remove_edge a b) (redraw g)).joins
  unfolding present
  edge_removed_joins a b d = ordered g h g.roles _ (λ t m. m) (removed_below a b d) (λ t r x. (order g h).between_present t r (removed_below a b d t r x))

  -- Kind 3: the edges that are left lie in the order and beside a.
  pub left_below : (a b t r : ℕ) → T ((edit (remove_role a b) (redraw g)).joins t r) → (t ≢ a) × (r ≢ a) × T (below g t r)
  unfolding edit redraw
  left_below a b t r x =
      let (m, y) = both (not (eqb r a)) ((edge g t r || (edge g a r && edge g t a)) && not (eqb t a)) x in
      let (z, n) = both (edge g t r || (edge g a r && edge g t a)) (not (eqb t a)) y in (
        λ e. T_not (eqb t a) n (equal_test e),
        λ e. T_not (eqb r a) m (equal_test e),
        elim (either (edge g t r) (edge g a r && edge g t a) z) [
          | inl d ↦ edge-below g t r d
          | inr d ↦ (let (u, v) = both (edge g a r) (edge g t a) d in (order g h).transitive t a r (edge-below g t a v) (edge-below g a r u))
        ],
      )

  -- A role other than a stays a role.
  other_role : (a r : ℕ) → r ≢ a → T (has_role g.roles r) → T (has_role (difference g.roles (single a)) r)
  other_role a r n t =
      elim (either (is_end r) (member r g.roles) t) [
        | inl e ↦ or_left (is_end r) (member r (difference g.roles (single a))) e
        | inr m ↦ or_right (is_end r) (member r (difference g.roles (single a))) (difference_in r g.roles (single a) m (λ x. n (in_single r a x)))
      ]

  pub role_removed_joins : (a b : ℕ) → JoinsLaid (difference g.roles (single a)) (edit (remove_role a b) (redraw g)).joins
  unfolding present
  role_removed_joins a b =
      ordered g h (difference g.roles (single a)) _ (λ t m. (in_difference t g.roles (single a) m).0) (λ t r x. (left_below a b t r x).2)
      (λ t r x.
      let (n, m, y) = left_below a b t r x in
      let (p, q) = (order g h).between_present t r y in
      (other_role a t n p, other_role a r m q))

-- Whatever their checks let pass, an edge more makes no circle where there was none, also where the roles have no bound.
pub edge_laid : (g : Graph) → JoinsLaid g.roles (edge g) → (a b : ℕ) → Passes (input_checks (add_edge a b)) → Passes (state_checks g (add_edge a b)) → JoinsLaid g.roles (edit (add_edge a b) (redraw g)).joins
unfolding Passes input_checks state_checks
edge_laid g j a b (x₁, (x₂, (x₃, (x₄, (x₅, _))))) (y₁, (y₂, (y₃, (y₄, _)))) =
    edge_added_joins g j a b (so (present g a) y₁) (so (present g b) y₂) (let l = not-end b x₄ in omega arith) (not_equal a b x₅) y₄

-- Whatever its checks let pass, a change makes no circle.
pub joins_laid : (g : Graph) → g.roles < 2 ^ role_count → (c : Change) → Fits c → Passes (input_checks c) → Passes (state_checks g c) → JoinsLaid (edit c (redraw g)).roles (edit c (redraw g)).joins
unfolding Fits Passes input_checks state_checks edit redraw
joins_laid g h (add_by_place a own juniors seniors) (_, lj, ls) (x₁, (x₂, (x₃, (x₄, _)))) (y₁, (y₂, (y₃, (y₄, _)))) =
    place_laid g h a (not-end a x₂) (number_lt role_count a x₁) y₁ juniors seniors
    (λ t m. (all_present g juniors lj y₂ t m, no_end_in juniors x₃ t m))
    (λ t m. (all_present g seniors ls y₃ t m, no_end_in seniors x₄ t m))
    (no_circle_in g juniors seniors lj ls y₄)
joins_laid g h (add_by_privileges a own) _ (x₁, (x₂, _)) (y₁, _) = unplaced_laid g h a (not-end a x₂) (number_lt role_count a x₁) y₁
joins_laid g h (remove_role a b) _ _ _ = role_removed_joins g h a b
joins_laid g h (grant a b) _ _ _ = edges_laid g h
joins_laid g h (withdraw a b) _ _ _ = edges_laid g h
joins_laid g h (add_edge a b) _ x y = edge_laid g (edges_laid g h) a b x y
joins_laid g h (remove_edge a b) _ _ (y₁, (y₂, (y₃, _))) = edge_removed_joins g h a b (so (edge g a b) y₃)

-- ---- drawings laid out
module _ (g : Graph) (w : Formed g) where
  granted_directs : (a b : ℕ) → T (present g a) → 1 ≤ a → b < privilege_count → DirectsLaid g.roles (edit (grant a b) (redraw g)).directs
  unfolding edit redraw present
  granted_directs a b pa la lb = given-more g.roles (direct g) a (single b) (direct_laid g w) pa la (single-lt privilege_count b lb)

  withdrawn_directs : (a b : ℕ) → DirectsLaid g.roles (edit (withdraw a b) (redraw g)).directs
  unfolding edit redraw
  withdrawn_directs a b = record {
    direct_lt = λ r. difference-lt privilege_count _ _ ((direct_laid g w).direct_lt r);
    direct_of = λ p r u. (direct_laid g w).direct_of p r (in_difference p (direct g r) (for_role a (single b) r) u).0;
  }

  removed_directs : (a b : ℕ) → DirectsLaid (difference g.roles (single a)) (edit (remove_role a b) (redraw g)).directs
  unfolding edit redraw
  removed_directs a b = record {
    direct_lt = λ r.
        when-lt privilege_count _ _ (union-lt privilege_count _ _ ((direct_laid g w).direct_lt r) (when-lt privilege_count _ _ ((direct_laid g w).direct_lt a)));
    direct_of = λ p r u.
        let (m, v) = in_when p (not (eqb r a)) (union (direct g r) (when (eqb b 1 && edge g a r) (direct g a))) u in
        let n : r ≢ a = λ e. T_not (eqb r a) m (equal_test e) in
        elim (in_union p (direct g r) (when (eqb b 1 && edge g a r) (direct g a)) v) [
          | inl y ↦ (let (q, l) = (direct_laid g w).direct_of p r y in (other_role g w.roles_lt a r n q, l))
          | inr y ↦ (
              let x = (both (eqb b 1) (edge g a r) (in_when p (eqb b 1 && edge g a r) (direct g a) y).0).1 in
              let (q, l) = (edges_laid g w.roles_lt).joins_to a r x in
              (other_role g w.roles_lt a r n q, l))
        ];
  }

pub role_removed : (g : Graph) → Formed g → (a b : ℕ) → Laid (edit (remove_role a b) (redraw g))
unfolding edit redraw
role_removed g w a b = record {
  roles_lt = difference-lt role_count _ _ w.roles_lt;
  roles_ordinary = λ r m. w.roles_ordinary r (in_difference r g.roles (single a) m).0;
  directs = removed_directs g w a b;
  joins = role_removed_joins g w.roles_lt a b;
}

pub edge_removed : (g : Graph) → Formed g → (a b : ℕ) → T (edge g a b) → Laid (edit (remove_edge a b) (redraw g))
unfolding edit redraw
edge_removed g w a b d = record { roles_lt = w.roles_lt; roles_ordinary = w.roles_ordinary; directs = direct_laid g w; joins = edge_removed_joins g w.roles_lt a b d }

pub added : (g : Graph) → Formed g → (a : ℕ) → 2 ≤ a → a < role_count → (T (present g a) → ⊥) → (own : ℕ) → own < 2 ^ privilege_count → Laid (edit (add_by_privileges a own) (redraw g))
unfolding edit redraw
added g w a la ka na own lo = record {
  roles_lt = (one-more g w a la ka).0;
  roles_ordinary = (one-more g w a la ka).1;
  directs = own_laid g w.roles_lt w a la ka na own lo;
  joins = unplaced_laid g w.roles_lt a la ka na;
}

-- The direct privileges that a change leaves are those of roles other than MinRole.
directs_laid : (g : Graph) → Formed g → (c : Change) → Fits c → Passes (input_checks c) → Passes (state_checks g c) → DirectsLaid (edit c (redraw g)).roles (edit c (redraw g)).directs
unfolding Fits Passes input_checks state_checks edit redraw
directs_laid g w (add_by_place a own juniors seniors) (lo, _, _) (x₁, (x₂, _)) (y₁, _) = own_laid g w.roles_lt w a (not-end a x₂) (number_lt role_count a x₁) y₁ own lo
directs_laid g w (add_by_privileges a own) lo (x₁, (x₂, _)) (y₁, _) = own_laid g w.roles_lt w a (not-end a x₂) (number_lt role_count a x₁) y₁ own lo
directs_laid g w (remove_role a b) _ _ _ = removed_directs g w a b
directs_laid g w (grant a b) _ (x₁, (x₂, (x₃, _))) (y₁, _) = granted_directs g w a b (so (present g a) y₁) (let l = not-end a x₃ in omega arith) (number_lt privilege_count b x₂)
directs_laid g w (withdraw a b) _ _ _ = withdrawn_directs g w a b
directs_laid g w (add_edge a b) _ _ _ = direct_laid g w
directs_laid g w (remove_edge a b) _ _ _ = direct_laid g w

-- The roles that a change leaves are ordinary ones.
roles_laid : (g : Graph) → Formed g → (c : Change) → Passes (input_checks c) → ((edit c (redraw g)).roles < 2 ^ role_count) × ((r : ℕ) → T (member r (edit c (redraw g)).roles) → 2 ≤ r)
unfolding Passes input_checks edit redraw
roles_laid g w (add_by_place a own juniors seniors) (x₁, (x₂, _)) = one-more g w a (not-end a x₂) (number_lt role_count a x₁)
roles_laid g w (add_by_privileges a own) (x₁, (x₂, _)) = one-more g w a (not-end a x₂) (number_lt role_count a x₁)
roles_laid g w (remove_role a b) _ = (difference-lt role_count _ _ w.roles_lt, λ r m. w.roles_ordinary r (in_difference r g.roles (single a) m).0)
roles_laid g w (grant a b) _ = (w.roles_lt, w.roles_ordinary)
roles_laid g w (withdraw a b) _ = (w.roles_lt, w.roles_ordinary)
roles_laid g w (add_edge a b) _ = (w.roles_lt, w.roles_ordinary)
roles_laid g w (remove_edge a b) _ = (w.roles_lt, w.roles_ordinary)

-- Whatever its checks let pass, a change lays the graph out.
pub laid : (g : Graph) → Formed g → (c : Change) → Fits c → Passes (input_checks c) → Passes (state_checks g c) → Laid (edit c (redraw g))
laid g w c f x y = record {
  roles_lt = (roles_laid g w c x).0;
  roles_ordinary = (roles_laid g w c x).1;
  directs = directs_laid g w c f x y;
  joins = joins_laid g w.roles_lt c f x y;
}

pub changed_formed : (g : Graph) → Formed g → (c : Change) → Fits c → Passes (input_checks c) → Passes (state_checks g c) → Formed (changed g c)
unfolding changed
changed_formed g w c f x y = closed_formed (edit c (redraw g)) (laid g w c f x y) g.conflicts
