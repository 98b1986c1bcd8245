-- Which roles have every privilege that a set of roles reaches: those roles, MinRole where one of them lies above it, and the ordinary roles where MaxRole is one of them.
-- Assumes nothing.
use mathlib.Core.Path.{◌≡◌, refl, sym, subst}
use mathlib.Core.Bool.{not, ◌&&◌}
use mathlib.Core.Logic.{◌⊎◌, inl, inr}
use Prim.Native.Nat.{ℕ, ◌<◌, ◌^◌}
use native.Mathlib.Omega.{arith}
use lib.Dec.{T, T_not, not_T, eqb}
use Rattle.sets.specs.Counting.{any}
use Rattle.sets.specs.Sets.{member, single, union, intersection, difference, meets, included, strictly_included, lowest_member, when, gather}
use Rattle.sets.proofs.Tests.{both, join, either, or_left, or_right, same_test, equal_test, test_equal}
use Rattle.sets.proofs.Counting.{any-some, some-any}
use Rattle.sets.proofs.Laws.{member-lt, intersection-lt, included-member}
use Rattle.sets.proofs.Members.{in_union, union_left, union_right, in_intersection, intersection_in, in_when, when_in, in_single, single_in, in_empty, in_gather, gather_in}
use Rattle.sets.proofs.Walks.{lowest_in}
use Rattle.graph.specs.Graph.{Graph, role_count, min_role, max_role, min_alone, max_alone, end_roles, ordinary, present, effective}
use Rattle.graph.specs.Drawing.{below}
use Rattle.graph.specs.Refusing.{at_or_below}
use Rattle.graph.proofs.Order.{Under, from_min, to_max, inside, present_cases, ordinary_parts, ordinary_present, end_present, below_cases, min-below, below-max}
use Rattle.graph.proofs.DrawingCode.{ordinary-member, member_with, seniors_cover}
use Rattle.sittings.specs.Sittings.{reaches}

-- ---- sets that meet
common_meets : (s t n : ℕ) → T (member n s) → T (member n t) → T (meets s t)
unfolding meets
common_meets s t n a b =
    not_T (eqb (intersection s t) 0) (λ e. in_empty n (subst (λ (x : ℕ). T (member n x)) (test_equal e) (intersection_in n s t a b)))

meets_common : (w s t : ℕ) → s < 2 ^ w → T (meets s t) → (n : ℕ) × T (member n s) × T (member n t)
unfolding meets
meets_common w s t h x =
    let both_in = intersection s t in
    let n = lowest_member w both_in in
    let m = lowest_in w both_in (intersection-lt w s t h) (λ e. T_not (eqb both_in 0) x (equal_test e)) in
    let (a, b) = in_intersection n s t m in
    (n, a, b)

-- ---- the roles that suffice
module _ (g : Graph) (held : ℕ) where
  -- The ordinary roles.
  abbrev ordinaries : ℕ
  ordinaries = difference g.roles end_roles

  -- The roles that can lie above another.
  abbrev seniors : ℕ
  seniors = union ordinaries max_alone

  -- MinRole where one of the roles lies above it.
  abbrev least : ℕ
  least = when (meets held seniors) min_alone

  -- The ordinary roles where MaxRole is one of the roles.
  abbrev lesser : ℕ
  lesser = when (member max_role held) ordinaries

  -- The roles that suffice.
  abbrev pub enough : ℕ
  enough = union held (union least lesser)

  -- What is in each of the three parts is among them.
  from_held : (t : ℕ) → T (member t held) → T (member t enough)
  from_held t m = union_left t held (union least lesser) m

  from_least : (s : ℕ) → T (member s held) → T (ordinary g s) ⊎ (s ≡ max_role) → T (member min_role enough)
  unfolding single
  from_least s m c =
      union_right min_role held (union least lesser)
      (union_left min_role least lesser (when_in min_role (meets held seniors) (single min_role) (common_meets held seniors s m (seniors_cover g s c)) (single_in min_role)))

  from_lesser : (t : ℕ) → T (member max_role held) → T (ordinary g t) → T (member t enough)
  from_lesser t m o =
      union_right t held (union least lesser) (union_right t least lesser (when_in t (member max_role held) ordinaries m (subst T (sym (ordinary-member g t)) o)))

  -- Each of them is one of the roles or lies below one.
  enough_reached : held < 2 ^ role_count → (t : ℕ) → T (member t enough) → (r : ℕ) × T (member r held) × T (at_or_below g t r)
  unfolding at_or_below single
  enough_reached h t m =
      elim (in_union t held (union least lesser) m) [
        | inl a ↦ (t, a, or_left (eqb t t) (below g t t) (equal_test {a = t} refl))
        | inr b ↦
            elim (in_union t least lesser b) [
              | inl c ↦ (
                  let (x, y) = in_when t (meets held seniors) (single min_role) c in
                  let (s, a, u) = meets_common role_count held seniors h x in
                  (s, a, or_right (eqb t s) (below g t s) (subst (λ (i : ℕ). T (below g i s)) (sym (in_single t min_role y)) (over_min s u))))
              | inr c ↦ (
                  let (x, y) = in_when t (member max_role held) ordinaries c in
                  let o = subst T (ordinary-member g t) y in
                  (max_role, x, or_right (eqb t max_role) (below g t max_role) (below-max g t (ordinary_present g t o) (λ e. omega (arith, (ordinary_parts g t o).0)))))
            ]
      ]
    where
      over_min : (s : ℕ) → T (member s seniors) → T (below g min_role s)
      over_min s u =
          elim (either (ordinary g s) (eqb s max_role) (subst T (member_with g max_role s) u)) [
            | inl o ↦ min-below g s (ordinary_present g s o) (λ e. omega (arith, (ordinary_parts g s o).0))
            | inr x ↦ (let e : s ≡ max_role = test_equal x in min-below g s (end_present g s (omega arith)) (λ q. omega arith))
          ]

  -- What a role has that is one of the roles or lies below one, one of these has.
  reached_enough : (p t r : ℕ) → t < role_count → r < role_count → T (member r held) → T (at_or_below g t r) → T (member p (effective g t))
      → (s : ℕ) × (s < role_count) × T (member s enough) × T (member p (effective g s))
  unfolding at_or_below strictly_included
  reached_enough p t r k l m b x =
      elim (either (eqb t r) (below g t r) b) [
        | inl e ↦ (t, k, from_held t (subst (λ (i : ℕ). T (member i held)) (sym (test_equal e)) m), x)
        | inr u ↦ (let (q, w, v) = below_cases g t r u in ways q w v)
      ]
    where
      at_min : T (ordinary g r) ⊎ (r ≡ max_role) → t ≡ min_role → (s : ℕ) × (s < role_count) × T (member s enough) × T (member p (effective g s))
      at_min c e = (t, k, subst (λ (i : ℕ). T (member i enough)) (sym e) (from_least r m c), x)

      ways : T (present g t) → T (present g r) → Under g t r → (s : ℕ) × (s < role_count) × T (member s enough) × T (member p (effective g s))
      ways q w (from_min e d) = at_min (elim (present_cases g r w) [ inl y ↦ inr (omega (arith, d)) | inr o ↦ inl o ]) e
      ways q w (to_max e d) =
          elim (present_cases g t q) [
            | inl y ↦ at_min (inr e) (omega (arith, d))
            | inr o ↦ (t, k, from_lesser t (subst (λ (i : ℕ). T (member i held)) e m) o, x)
          ]
      ways q w (inside a c i) =
          (r, l, from_held r m, included-member _ _ (both (included (effective g t) (effective g r)) (not (eqb (effective g t) (effective g r))) i).0 p x)

  -- The roles reach one that has the privilege where these have it.
  pub enough_tests : held < 2 ^ role_count → (p : ℕ)
      → member p (gather role_count (λ r. member r enough) (effective g)) ≡ any role_count (λ t. reaches g held t && member p (effective g t))
  unfolding reaches
  enough_tests h p = same_test _ _ there back
    where
      there : T (member p (gather role_count (λ r. member r enough) (effective g))) → T (any role_count (λ t. reaches g held t && member p (effective g t)))
      there u =
          let (t, l, m, x) = in_gather p role_count (λ r. member r enough) (effective g) u in
          let (r, a, b) = enough_reached h t m in
          some-any role_count (λ t. reaches g held t && member p (effective g t)) t l
          (join (reaches g held t) (member p (effective g t))
          (some-any role_count (λ r. member r held && at_or_below g t r) r (member-lt role_count r held h a) (join (member r held) (at_or_below g t r) a b)) x)

      back : T (any role_count (λ t. reaches g held t && member p (effective g t))) → T (member p (gather role_count (λ r. member r enough) (effective g)))
      back u =
          let (t, k, y) = any-some role_count (λ t. reaches g held t && member p (effective g t)) u in
          let (v, x) = both (reaches g held t) (member p (effective g t)) y in
          let (r, l, w) = any-some role_count (λ r. member r held && at_or_below g t r) v in
          let (m, b) = both (member r held) (at_or_below g t r) w in
          let (s, j, n, z) = reached_enough p t r k l m b x in
          gather_in p role_count (λ r. member r enough) (effective g) s j n z
