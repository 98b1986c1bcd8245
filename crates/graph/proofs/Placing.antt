-- The edits that add a role, kinds 1 and 2, lay the graph out without a circle.
-- Assumes nothing.
use mathlib.Core.Path.{◌≡◌, sym, subst}
use mathlib.Core.Bool.{Bool, true, false, cond, ◌&&◌, ◌||◌}
use mathlib.Core.Logic.{◌⊎◌, inl, inr}
use Prim.Native.Nat.{ℕ, ◌+◌, ◌*◌, ◌<◌, ◌≤◌, ◌^◌}
use native.Mathlib.Omega.{arith}
use lib.Dec.{T, eqb, eqb_refl}
use Rattle.sets.specs.Counting.{any}
use Rattle.sets.specs.Sets.{member, single, union, when}
use Rattle.sets.proofs.Tests.{both, join, either, or_left, or_right, passes, fails, test_equal}
use Rattle.sets.proofs.Counting.{any-some, some-any}
use Rattle.sets.proofs.Laws.{union-lt, single-lt, when-lt}
use Rattle.sets.proofs.Members.{in_union, union_left, union_right, in_when, in_single, single_in, in_empty}
use Rattle.graph.specs.Graph.{Graph, role_count, privilege_count, max_role, is_end, present}
use Rattle.graph.specs.Drawing.{below, edge, direct}
use Rattle.graph.specs.Editing.{for_role}
use Rattle.graph.specs.Refusing.{at_or_below}
use Rattle.graph.specs.Invariants.{Formed}
use Rattle.graph.proofs.Order.{below_transitive, not-above-max, edge-below}
use Rattle.graph.specs.Working.{has_role, JoinsLaid}
use Rattle.graph.proofs.Closing.{DirectsLaid}
use Rattle.graph.proofs.Heights.{order, ordinary_below, raised, edges_laid}
use Rattle.graph.proofs.DrawnSets.{direct_laid}

-- ---- direct privileges
-- Direct sets stay laid under more roles.
under_more : (R S : ℕ) (D : ℕ → ℕ) → DirectsLaid R D → ((r : ℕ) → T (has_role R r) → T (has_role S r)) → DirectsLaid S D
under_more R S D d f = record { direct_lt = d.direct_lt; direct_of = λ p r u. (f r (d.direct_of p r u).0, (d.direct_of p r u).1) }

-- Direct sets stay laid where a role other than MinRole is given a set more.
pub given-more : (R : ℕ) (D : ℕ → ℕ) (a s : ℕ) → DirectsLaid R D → T (has_role R a) → 1 ≤ a → s < 2 ^ privilege_count → DirectsLaid R (λ r. union (D r) (for_role a s r))
unfolding for_role
given-more R D a s d ra la ls = record {
  direct_lt = λ r. union-lt privilege_count _ _ (d.direct_lt r) (when-lt privilege_count (eqb r a) s ls);
  direct_of = λ p r u.
      elim (in_union p (D r) (when (eqb r a) s) u) [
        | inl x ↦ d.direct_of p r x
        | inr x ↦ subst (λ (i : ℕ). T (has_role R i) × (1 ≤ i)) (sym (test_equal (in_when p (eqb r a) s x).0)) (ra, la)
      ];
}

-- ---- a test as 0 or 1
abbrev pub one_if : Bool → ℕ
one_if b = cond b 1 0

pub one_passes : (b : Bool) → T b → one_if b ≡ 1
one_passes b t = rw (passes b t)

pub one_fails : (b : Bool) → (T b → ⊥) → one_if b ≡ 0
one_fails b f = rw (fails b f)

pub one-le : (a b : Bool) → (T a → T b) → one_if a ≤ one_if b
one-le true true f = omega arith
one-le true false f = absurd (f tt)
one-le false b f = omega arith

-- ---- at or below
pub at_or_below_cases : (g : Graph) (t r : ℕ) → T (at_or_below g t r) → (t ≡ r) ⊎ T (below g t r)
unfolding at_or_below
at_or_below_cases g t r h = elim (either (eqb t r) (below g t r) h) [ inl e ↦ inl (test_equal e) | inr b ↦ inr b ]

pub at_itself : (g : Graph) (r : ℕ) → T (at_or_below g r r)
unfolding at_or_below
at_itself g r = or_left (eqb r r) (below g r r) (eqb_refl r)

-- What is at or below a role is so for all that lie above it.
pub at_or_below_up : (g : Graph) (b t r : ℕ) → T (below g t r) → T (at_or_below g b t) → T (at_or_below g b r)
unfolding at_or_below
at_or_below_up g b t r x h =
    or_right (eqb b r) (below g b r)
    (elim (at_or_below_cases g b t h) [
      | inl e ↦ subst (λ (i : ℕ). T (below g i r)) (sym e) x
      | inr y ↦ below_transitive g b t r y x
    ])

module _ (g : Graph) (w : g.roles < 2 ^ role_count) where
  -- ---- a new role a
  module _ (a : ℕ) (la : 2 ≤ a) (ka : a < role_count) (na : T (present g a) → ⊥) where
    R : ℕ
    R = union g.roles (single a)

    old_role : (r : ℕ) → T (present g r) → T (has_role R r)
    unfolding R present
    old_role r t =
        elim (either (is_end r) (member r g.roles) t) [
          | inl e ↦ or_left (is_end r) (member r R) e
          | inr m ↦ or_right (is_end r) (member r R) (union_left r g.roles (single a) m)
        ]

    new_role : T (has_role R a)
    unfolding R
    new_role = or_right (is_end a) (member a R) (union_right a g.roles (single a) (single_in a))

    in_roles : (t : ℕ) → T (member t R) → T (member t g.roles) ⊎ (t ≡ a)
    unfolding R
    in_roles t m = elim (in_union t g.roles (single a) m) [ inl x ↦ inl x | inr x ↦ inr (in_single t a x) ]

    module _ (juniors seniors : ℕ)
        (js : (t : ℕ) → T (member t juniors) → T (present g t) × (2 ≤ t))
        (ss : (t : ℕ) → T (member t seniors) → T (present g t) × (2 ≤ t))
        (free : (j s : ℕ) → T (member j juniors) → T (member s seniors) → T (at_or_below g s j) → ⊥) where
      -- MaxRole, the seniors, and what lies above these.
      upper : ℕ → Bool
      upper r = eqb r max_role || any role_count (λ s. member s seniors && at_or_below g s r)

      upper_cases : (r : ℕ) → T (upper r) → (r ≡ max_role) ⊎ ((s : ℕ) × T (member s seniors) × T (at_or_below g s r))
      unfolding upper
      upper_cases r h =
          elim (either (eqb r max_role) (any role_count (λ s. member s seniors && at_or_below g s r)) h) [
            | inl e ↦ inl (test_equal e)
            | inr y ↦ (
                let (s, _, z) = any-some role_count (λ s. member s seniors && at_or_below g s r) y in
                let (m, b) = both (member s seniors) (at_or_below g s r) z in
                inr (s, m, b))
          ]

      senior_upper : (s r : ℕ) → T (member s seniors) → T (at_or_below g s r) → T (upper r)
      unfolding upper
      senior_upper s r m b =
          or_right (eqb r max_role) (any role_count (λ s. member s seniors && at_or_below g s r))
          (some-any role_count (λ s. member s seniors && at_or_below g s r) s ((order g w).bounded s (ss s m).0) (join (member s seniors) (at_or_below g s r) m b))

      max_upper : T (upper max_role)
      unfolding upper
      max_upper = tt

      upper_up : (t r : ℕ) → T (below g t r) → T (upper t) → T (upper r)
      upper_up t r x h =
          elim (upper_cases t h) [
            | inl e ↦ absurd (not-above-max g r (subst (λ (i : ℕ). T (below g i r)) e x))
            | inr (s, m, b) ↦ senior_upper s r m (at_or_below_up g s t r x b)
          ]

      not_new : T (upper a) → ⊥
      not_new h =
          elim (upper_cases a h) [
            | inl e ↦ omega arith
            | inr (s, m, b) ↦
                na
                (elim (at_or_below_cases g s a b) [
                  | inl e ↦ subst (λ (i : ℕ). T (present g i)) e (ss s m).0
                  | inr x ↦ ((order g w).between_present s a x).1
                ])
          ]

      not_junior : (t : ℕ) → T (member t juniors) → T (upper t) → ⊥
      not_junior t m h = elim (upper_cases t h) [ inl e ↦ omega (arith, (js t m).1) | inr (s, n, b) ↦ free t s m n b ]

      -- 2 for the upper roles, 1 for a itself, 0 for the others.
      class : ℕ → ℕ
      class r = 2 * one_if (upper r) + one_if (eqb r a)

      class_old : (t : ℕ) → T (present g t) → class t ≡ 2 * one_if (upper t)
      unfolding class
      class_old t u = omega (arith, one_fails (eqb t a) (λ e. na (subst (λ (i : ℕ). T (present g i)) (test_equal e) u)))

      class_new : class a ≡ 1
      unfolding class
      class_new = omega (arith, one_passes (eqb a a) (eqb_refl a), one_fails (upper a) not_new)

      class_upper : (r : ℕ) → T (upper r) → class a < class r
      unfolding class
      class_upper r h = omega (arith, class_new, one_passes (upper r) h)

      place : ℕ → ℕ → Bool
      place t r = edge g t r || ((eqb r a && member t juniors) || (member r seniors && eqb t a))

      -- An edge is a drawn one, leads from a junior to a, or from a to a senior.
      cases : (t r : ℕ) → T (place t r) → T (edge g t r) ⊎ ((T (member t juniors) × (r ≡ a)) ⊎ ((t ≡ a) × T (member r seniors)))
      unfolding place
      cases t r x =
          elim (either (edge g t r) ((eqb r a && member t juniors) || (member r seniors && eqb t a)) x) [
            | inl y ↦ inl y
            | inr y ↦
                elim (either (eqb r a && member t juniors) (member r seniors && eqb t a) y) [
                  | inl z ↦ (let (e, m) = both (eqb r a) (member t juniors) z in inr (inl (m, test_equal e)))
                  | inr z ↦ (let (m, e) = both (member r seniors) (eqb t a) z in inr (inr (test_equal e, m)))
                ]
          ]

      -- The edges of kind 1 make no circle.
      pub place_laid : JoinsLaid (union g.roles (single a)) (λ t r. edge g t r || ((eqb r a && member t juniors) || (member r seniors && eqb t a)))
      unfolding R place
      place_laid =
          raised g w R place class
          (λ t r x.
          let (p, q) = (order g w).between_present t r x in
          omega (arith, class_old t p, class_old r q, one-le (upper t) (upper r) (upper_up t r x)))
          (λ t r x.
          elim (cases t r x) [
            | inl y ↦ inl (edge-below g t r y)
            | inr (inl (m, e)) ↦
                inr (subst (λ (i : ℕ). class t < class i) (sym e) (omega (arith, class_new, class_old t (js t m).0, one_fails (upper t) (not_junior t m))))
            | inr (inr (e, m)) ↦ inr (subst (λ (i : ℕ). class i < class r) (sym e) (class_upper r (senior_upper r r m (at_itself g r))))
          ])
          (λ t m l.
          elim (in_roles t m) [
            | inl x ↦ inl (ordinary_below g w t x l)
            | inr e ↦ inr (subst (λ (i : ℕ). class i < class max_role) (sym e) (class_upper max_role max_upper))
          ])
          (λ t r x.
          elim (cases t r x) [
            | inl y ↦ (let (p, q) = (order g w).between_present t r (edge-below g t r y) in (old_role t p, old_role r q, ((edges_laid g w).joins_to t r y).1))
            | inr (inl (m, e)) ↦ (old_role t (js t m).0, subst (λ (i : ℕ). T (has_role R i)) (sym e) new_role, omega arith)
            | inr (inr (e, m)) ↦ (subst (λ (i : ℕ). T (has_role R i)) (sym e) new_role, old_role r (ss r m).0, omega (arith, (ss r m).1))
          ])

    -- The drawn edges, with one role more, make no circle.
    pub unplaced_laid : JoinsLaid (union g.roles (single a)) (edge g)
    unfolding R place
    unplaced_laid =
        let v = place_laid 0 0 (λ t m. absurd (in_empty t m)) (λ t m. absurd (in_empty t m)) (λ j s m n. absurd (in_empty j m)) in
        record {
          height = v.height;
          falls = λ t r x. v.falls t r (or_left (edge g t r) _ x);
          top = v.top;
          joins_from = λ t r x. v.joins_from t r (or_left (edge g t r) _ x);
          joins_to = λ t r x. v.joins_to t r (or_left (edge g t r) _ x);
        }

  -- The direct privileges with those of a new role.
  pub own_laid : Formed g → (a : ℕ) → 2 ≤ a → a < role_count → (T (present g a) → ⊥) → (own : ℕ) → own < 2 ^ privilege_count
      → DirectsLaid (union g.roles (single a)) (λ r. union (direct g r) (for_role a own r))
  unfolding R present
  own_laid v a la ka na own lo = given-more (R a la ka na) (direct g) a own (under_more g.roles (R a la ka na) (direct g) (direct_laid g v) (old_role a la ka na)) (new_role a la ka na) (omega arith) lo

-- One ordinary role more.
pub one-more : (g : Graph) → Formed g → (a : ℕ) → 2 ≤ a → a < role_count → (union g.roles (single a) < 2 ^ role_count) × ((r : ℕ) → T (member r (union g.roles (single a))) → 2 ≤ r)
one-more g v a la ka = (
  union-lt role_count _ _ v.roles_lt (single-lt role_count a ka),
  λ r m. elim (in_union r g.roles (single a) m) [ inl x ↦ v.roles_ordinary r x | inr x ↦ (let e = in_single r a x in omega arith) ],
)
