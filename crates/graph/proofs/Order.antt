-- The laws of the drawn graph: below is a strict order, its paths are the order, none returns, and no other edges with the same paths are fewer.
-- Assumes nothing.
use mathlib.Core.Path.{◌≡◌, refl}
use mathlib.Core.Bool.{Bool, not, ◌&&◌, ◌||◌}
use mathlib.Core.Logic.{◌↔◌, ◌≢◌, ◌⊎◌, inl, inr}
use Prim.Native.Nat.{ℕ, ◌<◌, ◌≤◌, ◌^◌}
use native.Mathlib.Omega.{arith}
use lib.Dec.{T, T_not, not_T, eqb, ltb, ltb→lt, lt→ltb, nltb→le}
use Rattle.sets.specs.Sets.{member, strictly_included}
use Rattle.sets.proofs.Tests.{both, join, either, or_left, or_right, decide, equal_test, test_equal}
use Rattle.sets.proofs.Laws.{member-lt, strictly_irreflexive, strictly_transitive}
use Rattle.order.specs.Paths.{Path, last, then, StrictOrder, Between, SamePaths}
use Rattle.order.proofs.Drawing as Drawing
use Rattle.graph.specs.Graph.{Graph, role_count, min_role, max_role, is_end, ordinary, present, effective}
use Rattle.graph.specs.Drawing.{below, edge}

-- The drawn edges, as facts.
abbrev pub Edge : Graph → ℕ → ℕ → Type 0
Edge g r s = T (edge g r s)

-- ---- roles that are present
pub is_end-lt : (r : ℕ) → T (is_end r) → r < 2
unfolding is_end
is_end-lt r t = ltb→lt r 2 t

pub lt-is_end : (r : ℕ) → r < 2 → T (is_end r)
unfolding is_end
lt-is_end r l = lt→ltb r 2 l

pub not-end : (r : ℕ) → (T (is_end r) → ⊥) → 2 ≤ r
unfolding is_end
not-end r f = nltb→le r 2 (not_T (ltb r 2) f)

module _ (g : Graph) (r : ℕ) where
  -- An ordinary role is no end role, and one of the roles.
  pub ordinary_parts : T (ordinary g r) → (2 ≤ r) × T (member r g.roles)
  unfolding ordinary
  ordinary_parts o =
      let v = both (not (is_end r)) (member r g.roles) o in
      (not-end r (T_not (is_end r) v.0), v.1)

  pub ordinary_join : 2 ≤ r → T (member r g.roles) → T (ordinary g r)
  unfolding ordinary
  ordinary_join l m =
      join (not (is_end r)) (member r g.roles) (not_T (is_end r) (λ t. let k = is_end-lt r t in omega arith)) m

  -- A role that is present is an end role or an ordinary one.
  pub present_cases : T (present g r) → (r < 2) ⊎ T (ordinary g r)
  unfolding present ordinary
  present_cases t =
      elim (decide (is_end r)) [
        | inl e ↦ inl (is_end-lt r e)
        | inr d ↦
            elim (either (is_end r) (member r g.roles) t) [
              | inl e ↦ absurd (d e)
              | inr m ↦ inr (join (not (is_end r)) (member r g.roles) (not_T (is_end r) d) m)
            ]
      ]

  pub end_present : r < 2 → T (present g r)
  unfolding present
  end_present l = or_left (is_end r) (member r g.roles) (lt-is_end r l)

  pub member_present : T (member r g.roles) → T (present g r)
  unfolding present
  member_present m = or_right (is_end r) (member r g.roles) m

  pub ordinary_present : T (ordinary g r) → T (present g r)
  ordinary_present o = member_present (ordinary_parts o).1

  pub ordinary_lt : g.roles < 2 ^ role_count → T (ordinary g r) → r < role_count
  ordinary_lt h o = member-lt role_count r g.roles h (ordinary_parts o).1

  pub present_lt : g.roles < 2 ^ role_count → T (present g r) → r < role_count
  present_lt h t = elim (present_cases t) [ inl l ↦ omega arith | inr o ↦ ordinary_lt h o ]

-- ---- below
-- The three ways in which r lies below s.
pub data Under (g : Graph) (r s : ℕ) : Type 0 where
  from_min : r ≡ min_role → s ≢ min_role → Under g r s
  to_max : s ≡ max_role → r ≢ max_role → Under g r s
  inside : T (ordinary g r) → T (ordinary g s) → T (strictly_included (effective g r) (effective g s)) → Under g r s

module _ (g : Graph) (r s : ℕ) where
  first : Bool
  first = eqb r min_role && not (eqb s min_role)

  second : Bool
  second = eqb s max_role && not (eqb r max_role)

  third : Bool
  third = (ordinary g r && ordinary g s) && strictly_included (effective g r) (effective g s)

  pub below_cases : T (below g r s) → T (present g r) × T (present g s) × Under g r s
  unfolding below first second third
  below_cases t =
      let (p, u) = both (present g r) (present g s && (first || (second || third))) t in
      let (q, v) = both (present g s) (first || (second || third)) u in
      (p, q, ways v)
    where
      differ : {a b : ℕ} → T (not (eqb a b)) → a ≢ b
      differ {a} {b} n e = T_not (eqb a b) n (equal_test e)

      ways : T (first || (second || third)) → Under g r s
      ways v =
          elim (either first (second || third) v) [
            | inl x ↦ (let (e, d) = both (eqb r min_role) (not (eqb s min_role)) x in from_min (test_equal e) (differ d))
            | inr y ↦
                elim (either second third y) [
                  | inl x ↦ (let (e, d) = both (eqb s max_role) (not (eqb r max_role)) x in to_max (test_equal e) (differ d))
                  | inr x ↦ (
                      let (o, i) = both (ordinary g r && ordinary g s) (strictly_included (effective g r) (effective g s)) x in
                      let (a, b) = both (ordinary g r) (ordinary g s) o in
                      inside a b i)
                ]
          ]

  pub below_join : T (present g r) → T (present g s) → Under g r s → T (below g r s)
  unfolding below first second third
  below_join p q u = join (present g r) (present g s && (first || (second || third))) p (join (present g s) (first || (second || third)) q (ways u))
    where
      differ : (a b : ℕ) → a ≢ b → T (not (eqb a b))
      differ a b d = not_T (eqb a b) (λ t. d (test_equal t))

      ways : Under g r s → T (first || (second || third))
      ways (from_min e d) = or_left first (second || third) (join (eqb r min_role) (not (eqb s min_role)) (equal_test e) (differ s min_role d))
      ways (to_max e d) = or_right first (second || third) (or_left second third (join (eqb s max_role) (not (eqb r max_role)) (equal_test e) (differ r max_role d)))
      ways (inside a b i) =
          or_right first (second || third) (or_right second third (join (ordinary g r && ordinary g s) (strictly_included (effective g r) (effective g s)) (join (ordinary g r) (ordinary g s) a b) i))

under_irreflexive : (g : Graph) (r : ℕ) → Under g r r → ⊥
under_irreflexive g r (from_min e d) = d e
under_irreflexive g r (to_max e d) = d e
under_irreflexive g r (inside a b i) = strictly_irreflexive (effective g r) i

under_transitive : (g : Graph) (r s t : ℕ) → Under g r s → Under g s t → Under g r t
under_transitive g r s t (from_min e d) (from_min e' d') = absurd (d e')
under_transitive g r s t (from_min e d) (to_max e' d') = from_min e (omega arith)
under_transitive g r s t (from_min e d) (inside a b i) = from_min e (let l = (ordinary_parts g t b).0 in omega arith)
under_transitive g r s t (to_max e d) (from_min e' d') = absurd (omega arith)
under_transitive g r s t (to_max e d) (to_max e' d') = absurd (d' e)
under_transitive g r s t (to_max e d) (inside a b i) = absurd (let l = (ordinary_parts g s a).0 in omega arith)
under_transitive g r s t (inside a b i) (from_min e' d') = absurd (let l = (ordinary_parts g s b).0 in omega arith)
under_transitive g r s t (inside a b i) (to_max e' d') = to_max e' (let l = (ordinary_parts g r a).0 in omega arith)
under_transitive g r s t (inside a b i) (inside a' b' i') = inside a b' (strictly_transitive (effective g r) (effective g s) (effective g t) i i')

pub below_transitive : (g : Graph) (r s t : ℕ) → T (below g r s) → T (below g s t) → T (below g r t)
below_transitive g r s t x y =
    let (p, _, u) = below_cases g r s x in
    let (_, q, v) = below_cases g s t y in
    below_join g r t p q (under_transitive g r s t u v)

pub below_order : (g : Graph) → g.roles < 2 ^ role_count → StrictOrder role_count (present g) (below g)
below_order g h = record {
  bounded = λ r t. present_lt g r h t;
  between_present = λ r s t. ((below_cases g r s t).0, (below_cases g r s t).1);
  irreflexive = λ r t. under_irreflexive g r (below_cases g r r t).2;
  transitive = below_transitive g;
}

pub min-below : (g : Graph) (s : ℕ) → T (present g s) → s ≢ min_role → T (below g min_role s)
min-below g s q d = below_join g min_role s (end_present g min_role (omega arith)) q (from_min refl d)

pub below-max : (g : Graph) (r : ℕ) → T (present g r) → r ≢ max_role → T (below g r max_role)
below-max g r p d = below_join g r max_role p (end_present g max_role (omega arith)) (to_max refl d)

-- Nothing lies below MinRole.
pub above-min : (g : Graph) (r s : ℕ) → T (below g r s) → 1 ≤ s
above-min g r s t =
    elim (below_cases g r s t).2 [
      | from_min e d ↦ omega arith
      | to_max e d ↦ omega arith
      | inside a b i ↦ (let l = (ordinary_parts g s b).0 in omega arith)
    ]

-- MaxRole lies below nothing.
pub not-above-max : (g : Graph) (s : ℕ) → T (below g max_role s) → ⊥
not-above-max g s t =
    elim (below_cases g max_role s t).2 [
      | from_min e d ↦ omega arith
      | to_max e d ↦ d refl
      | inside a b i ↦ (let l = (ordinary_parts g max_role a).0 in omega arith)
    ]

pub edge-below : (g : Graph) (r s : ℕ) → Edge g r s → T (below g r s)
unfolding edge
edge-below g r s d = Drawing.drawn_below role_count (below g) r s d

-- ---- the drawn graph
module _ (g : Graph) (h : g.roles < 2 ^ role_count) where
  pub path_iff_below : (r s : ℕ) → Path (Edge g) r s ↔ T (below g r s)
  unfolding edge
  path_iff_below r s = Drawing.path_iff_below role_count (present g) (below g) (below_order g h) r s

  -- No role lies between the two of a drawn edge.
  pub none_between : (r s : ℕ) → Edge g r s → (t : ℕ) → T (below g r t) → T (below g t s) → ⊥
  unfolding edge
  none_between r s d = Drawing.drawn_none_between role_count (present g) (below g) (below_order g h) r s d

  -- A role below s is an immediate junior of s or lies below one.
  pub below_junior : (r s : ℕ) → T (below g r s) → Edge g r s ⊎ ((t : ℕ) × T (below g r t) × Edge g t s)
  below_junior r s b = ends ((path_iff_below r s).1 b)
    where
      ends : {r s : ℕ} → Path (Edge g) r s → Edge g r s ⊎ ((t : ℕ) × T (below g r t) × Edge g t s)
      ends (last d) = inl d
      ends (then {r = r} {t = t} d p) =
          elim (ends p) [
            | inl e ↦ inr (t, edge-below g r t d, e)
            | inr (u, b, e) ↦ inr (u, (below_order g h).transitive r t u (edge-below g r t d) b, e)
          ]

  -- No path returns to where it starts.
  pub no_circle : (r : ℕ) → Path (Edge g) r r → ⊥
  unfolding edge
  no_circle r p = Drawing.no_circle role_count (present g) (below g) (below_order g h) r p

  -- Between ordinary roles a path is a strict inclusion.
  pub path_iff_included : (r s : ℕ) → T (ordinary g r) → T (ordinary g s) → Path (Edge g) r s ↔ T (strictly_included (effective g r) (effective g s))
  path_iff_included r s a b = (
    λ p. strict (below_cases g r s ((path_iff_below r s).0 p)).2,
    λ i. (path_iff_below r s).1 (below_join g r s (ordinary_present g r a) (ordinary_present g s b) (inside a b i)),
  )
    where
      strict : Under g r s → T (strictly_included (effective g r) (effective g s))
      strict (from_min e d) = absurd (let l = (ordinary_parts g r a).0 in omega arith)
      strict (to_max e d) = absurd (let l = (ordinary_parts g s b).0 in omega arith)
      strict (inside _ _ i) = i

  -- Any edges between the roles present that have the same paths have every drawn edge among them.
  pub fewest : (E : ℕ → ℕ → Type 0) → Between (present g) E → SamePaths (present g) E (Edge g) → (r s : ℕ) → Edge g r s → E r s
  unfolding edge
  fewest E ends same r s d = Drawing.fewest role_count (present g) (below g) (below_order g h) E ends same r s d
