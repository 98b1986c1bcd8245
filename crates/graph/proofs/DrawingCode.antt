-- What the drawing code computes is what the definitions say: the order by a few tests, the roles below and above, the drawn edges and the direct sets.
-- Assumes nothing.
use mathlib.Core.Path.{◌≡◌, refl, sym, ap, ap₂, ◌∙◌, subst}
use mathlib.Core.Bool.{Bool, true, false, cond, not, ◌&&◌, ◌||◌, and-true, and-false, or-true, or-false, and_comm}
use mathlib.Core.Logic.{◌≢◌, ◌⊎◌, inl, inr}
use mathlib.Core.List.{List}
use Prim.Native.Nat.{ℕ, ◌<◌, ◌^◌}
use native.Mathlib.Decide.{ℕ_discrete}
use native.Mathlib.Omega.{arith}
use lib.Dec.{T, T_not, eqb, ltb, lt→ltb}
use Rattle.sets.specs.Counting.{any, count, sum}
use Rattle.sets.specs.Sets.{digit, member, single, union, difference, included, strictly_included, size, when, collect, gather}
use Rattle.sets.proofs.Tests.{both, join, either, or_left, or_right, same_test, passes, fails, equal_test, test_equal, so}
use Rattle.sets.proofs.Counting.{any-some, some-any, any_cong, count_cong, sum_cong}
use Rattle.sets.proofs.Laws.{binary, member-lt, member-single, member-union, member-difference, member-when, member-collect, member-gather, member-empty, equal_members, extensional, difference-empty, difference-lt, collect-lt, included-member, gather_cong}
use Rattle.sets.proofs.Members.{in_empty, in_difference, difference_in, in_gather, gather_in, no_members}
use Rattle.order.specs.Paths.{drawn}
use Rattle.graph.specs.Tables.{at, table}
use Rattle.graph.specs.Graph.{Graph, role_count, min_role, max_role, is_end, ordinary, present, effective, min_alone, max_alone, end_roles}
use Rattle.graph.specs.Drawing.{below, edge, juniors, seniors, edge_count, direct, roles_below}
use Rattle.graph.specs.Working.{less_juniors}
use Rattle.graph.proofs.Tables.{length-table, at-table, table_ext}
use Rattle.graph.proofs.Order.{Under, from_min, to_max, inside, is_end-lt, lt-is_end, ordinary_parts, present_cases, ordinary_present, end_present, ordinary_lt, present_lt, below_cases, below_join, min-below, above-min, not-above-max, edge-below, path_iff_below, none_between, below_junior, path_iff_included}

-- ---- the order by a few tests
-- The members of the set of end roles.
pub member_ends : (n : ℕ) → member n end_roles ≡ is_end n
unfolding member digit
member_ends n =
    same_test (member n end_roles) (is_end n) (λ m. lt-is_end n (member-lt 2 n end_roles (omega arith) m))
    (λ t. binary (λ i. T (member i end_roles)) tt tt n (is_end-lt n t))

pub ordinary-member : (g : Graph) (n : ℕ) → member n (difference g.roles end_roles) ≡ ordinary g n
unfolding ordinary
ordinary-member g n =
    member-difference n g.roles end_roles ∙ ap (λ (b : Bool). member n g.roles && not b) (member_ends n) ∙ and_comm (member n g.roles) (not (is_end n))

-- The ordinary roles with the end role z.
pub member_with : (g : Graph) (z n : ℕ) → member n (union (difference g.roles end_roles) (single z)) ≡ ordinary g n || eqb n z
member_with g z n = member-union n (difference g.roles end_roles) (single z) ∙ ap₂ ◌||◌ (ordinary-member g n) (member-single n z)

-- What a test of the code for an ordinary role says.
module _ (g : Graph) (n : ℕ) {all : ℕ} {b : Bool} (t : b ≡ member n all) (e : all ≡ difference g.roles end_roles) where
  pub found_ordinary : b ≡ true → T (ordinary g n)
  found_ordinary y = subst T (sym y ∙ t ∙ ap (member n) e ∙ ordinary-member g n) tt

  pub not_ordinary : b ≡ false → T (ordinary g n) → ⊥
  not_ordinary y = subst (λ (v : Bool). T v → ⊥) (sym y ∙ t ∙ ap (member n) e ∙ ordinary-member g n) (λ x. x)

-- An ordinary role, or the end role e.
ordinary-or : (g : Graph) (r e : ℕ) → T (ordinary g r || eqb r e) → T (ordinary g r) ⊎ (r ≡ e)
ordinary-or g r e t = elim (either (ordinary g r) (eqb r e) t) [ inl o ↦ inl o | inr x ↦ inr (test_equal x) ]

not-end : (g : Graph) (r e : ℕ) → e < 2 → T (ordinary g r) → T (eqb r e) → ⊥
not-end g r e l o t = let d : r ≡ e = test_equal t in omega (arith, (ordinary_parts g r o).0)

-- A role above some role is ordinary or MaxRole, and one below some role is ordinary or MinRole; two such roles are ordered by one of three tests.
pub below_tests : (g : Graph) (r s : ℕ)
    → below g r s ≡ (ordinary g s || eqb s max_role) && ((ordinary g r || eqb r min_role) && (eqb s max_role || (eqb r min_role || strictly_included (effective g r) (effective g s))))
below_tests g r s =
    same_test (below g r s) (high && (low && ways)) (λ t. let (p, q, u) = below_cases g r s t in there p q u)
    (λ t.
    let (x, v) = both high (low && ways) t in
    let (y, z) = both low ways v in
    back (ordinary-or g s max_role x) (ordinary-or g r min_role y) z)
  where
    strict : Bool
    strict = strictly_included (effective g r) (effective g s)

    high : Bool
    high = ordinary g s || eqb s max_role

    low : Bool
    low = ordinary g r || eqb r min_role

    ways : Bool
    ways = eqb s max_role || (eqb r min_role || strict)

    all : T high → T low → T ways → T (high && (low && ways))
    all x y z = join high (low && ways) x (join low ways y z)

    top : s ≡ max_role → T high
    top e = or_right (ordinary g s) (eqb s max_role) (equal_test e)

    bottom : r ≡ min_role → T low
    bottom e = or_right (ordinary g r) (eqb r min_role) (equal_test e)

    there : T (present g r) → T (present g s) → Under g r s → T (high && (low && ways))
    there p q (from_min e d) =
        all (elim (present_cases g s q) [ inl l ↦ top (omega (arith, d)) | inr o ↦ or_left (ordinary g s) (eqb s max_role) o ]) (bottom e)
        (or_right (eqb s max_role) (eqb r min_role || strict) (or_left (eqb r min_role) strict (equal_test e)))
    there p q (to_max e d) =
        all (top e) (elim (present_cases g r p) [ inl l ↦ bottom (omega (arith, d)) | inr o ↦ or_left (ordinary g r) (eqb r min_role) o ])
        (or_left (eqb s max_role) (eqb r min_role || strict) (equal_test e))
    there p q (inside a b i) =
        all (or_left (ordinary g s) (eqb s max_role) b) (or_left (ordinary g r) (eqb r min_role) a)
        (or_right (eqb s max_role) (eqb r min_role || strict) (or_right (eqb r min_role) strict i))

    back : T (ordinary g s) ⊎ (s ≡ max_role) → T (ordinary g r) ⊎ (r ≡ min_role) → T ways → T (below g r s)
    back (inr e) (inr d) z = below_join g r s (end_present g r (omega arith)) (end_present g s (omega arith)) (from_min d (omega arith))
    back (inr e) (inl a) z = below_join g r s (ordinary_present g r a) (end_present g s (omega arith)) (to_max e (omega (arith, (ordinary_parts g r a).0)))
    back (inl b) (inr d) z = below_join g r s (end_present g r (omega arith)) (ordinary_present g s b) (from_min d (omega (arith, (ordinary_parts g s b).0)))
    back (inl b) (inl a) z =
        below_join g r s (ordinary_present g r a) (ordinary_present g s b)
        (inside a b
        (elim (either (eqb s max_role) (eqb r min_role || strict) z) [
          | inl x ↦ (let e : s ≡ max_role = test_equal x in absurd (omega (arith, (ordinary_parts g s b).0)))
          | inr w ↦
              elim (either (eqb r min_role) strict w) [
                | inl x ↦ (let e : r ≡ min_role = test_equal x in absurd (omega (arith, (ordinary_parts g r a).0)))
                | inr i ↦ i
              ]
        ]))

-- The three tests as the code makes them.
pub below_code : (g : Graph) (r s : ℕ) {high low strict : Bool}
    → high ≡ member s (union (difference g.roles end_roles) max_alone) → low ≡ member r (union (difference g.roles end_roles) min_alone) → strict ≡ strictly_included (effective g r) (effective g s)
    → high && (low && (eqb s max_role || (eqb r min_role || strict))) ≡ below g r s
unfolding single
below_code g r s a b c = rw (a ∙ member_with g max_role s, b ∙ member_with g min_role r, c, below_tests)

-- ---- the roles below
-- A test that passes only where another does needs no other.
needless : (a b : Bool) → (T b → T a) → a && b ≡ b
needless a b f = same_test (a && b) b (λ t. (both a b t).1) (λ t. join a b (f t) t)

collected : (i n : ℕ) (f : ℕ → Bool) → i < n → member i (collect n f) ≡ f i
collected i n f l = member-collect i n f ∙ ap (λ (b : Bool). b && f i) (passes (ltb i n) (lt→ltb i n l))

bounded : (i n : ℕ) (b : Bool) → (T b → i < n) → ltb i n && b ≡ b
bounded i n b f = needless (ltb i n) b (λ t. lt→ltb i n (f t))

module _ (g : Graph) (h : g.roles < 2 ^ role_count) where
  pub below_member : (r s : ℕ) → member r (roles_below g s) ≡ below g r s
  below_member r s = member-collect r role_count (λ r. below g r s) ∙ bounded r role_count (below g r s) (λ t. present_lt g r h (below_cases g r s t).0)

  pub below_top : union (difference g.roles end_roles) min_alone ≡ roles_below g max_role
  unfolding single
  below_top = equal_members _ _ (λ n. member_with g min_role n ∙ sym (below_member n max_role ∙ below_tests g n max_role ∙ rw (or-true, and-true)))

  pub below_ordinary : (s : ℕ) → T (ordinary g s)
      → union (collect role_count (λ r. member r (difference g.roles end_roles) && strictly_included (effective g r) (effective g s))) min_alone ≡ roles_below g s
  unfolding single
  below_ordinary s o =
      equal_members _ _
      (λ n.
      member-union n (collect role_count within) (single min_role)
      ∙ ap₂ ◌||◌ (within_member n) (member-single n min_role)
      ∙ absorb (ordinary g n) (eqb n min_role) (strict n)
      ∙ sym (below_member n s ∙ below_tests g n s ∙ rw (passes (ordinary g s) o, fails (eqb s max_role) (not-end g s max_role (omega arith) o))))
    where
      strict : ℕ → Bool
      strict r = strictly_included (effective g r) (effective g s)

      within : ℕ → Bool
      within r = member r (difference g.roles end_roles) && strict r

      within_member : (n : ℕ) → member n (collect role_count within) ≡ ordinary g n && strict n
      within_member n =
          member-collect n role_count within
          ∙ rw ordinary-member (bounded n role_count (ordinary g n && strict n) (λ t. ordinary_lt g n h (both (ordinary g n) (strict n) t).0))

      absorb : (o e t : Bool) → (o && t) || e ≡ (o || e) && (e || t)
      absorb true true true = refl
      absorb true true false = refl
      absorb true false t = or-false t
      absorb false true t = refl
      absorb false false t = refl

  pub below_none : (s : ℕ) → s ≢ max_role → (T (ordinary g s) → ⊥) → 0 ≡ roles_below g s
  below_none s d f =
      equal_members 0 _
      (λ n.
      member-empty n ∙ sym (below_member n s ∙ below_tests g n s ∙ rw (fails (ordinary g s) f, fails (eqb s max_role) (λ t. d (test_equal t)))))

-- ---- the drawn edges
-- What passes p without what q reaches from it: what passes p with nothing between.
picked : (n : ℕ) (p : ℕ → Bool) (q : ℕ → ℕ → Bool) (d : ℕ → Bool) → ((i : ℕ) → p i && not (any n (λ t. p t && q t i)) ≡ d i)
    → difference (collect n p) (gather n (λ t. member t (collect n p)) (λ t. collect n (q t))) ≡ collect n d
picked n p q d e =
    extensional n _ _ (difference-lt n _ _ (collect-lt n p)) (collect-lt n d)
    (λ i l.
    member-difference i (collect n p) (gather n (λ t. member t (collect n p)) (λ t. collect n (q t)))
    ∙ ap₂ (λ (a b : Bool). a && not b) (collected i n p l)
    (member-gather i n (λ t. member t (collect n p)) (λ t. collect n (q t))
    ∙ any_cong n (λ t. member t (collect n p) && member i (collect n (q t))) (λ t. p t && q t i) (λ t k. ap₂ ◌&&◌ (collected t n p k) (collected i n (q t) l)))
    ∙ e i
    ∙ sym (collected i n d l))

-- The immediate juniors are the roles below that lie below none of these.
pub juniors_picked : (g : Graph) (s : ℕ) → difference (roles_below g s) (gather role_count (λ t. member t (roles_below g s)) (roles_below g)) ≡ juniors g s
unfolding juniors edge drawn
juniors_picked g s =
    picked role_count (λ r. below g r s) (λ t r. below g r t) (λ r. edge g r s)
    (λ r. ap (λ (b : Bool). below g r s && not b) (any_cong role_count _ _ (λ t _. and_comm (below g t s) (below g r t))))

-- The direct privileges are the effective ones that no immediate junior has.
pub direct_picked : (g : Graph) (s : ℕ) → difference (at g.sets s) (gather role_count (λ r. member r (juniors g s)) (at g.sets)) ≡ direct g s
unfolding direct effective juniors
direct_picked g s =
    ap (difference (at g.sets s))
    (gather_cong role_count (λ r. member r (juniors g s)) (λ r. edge g r s) (at g.sets) (effective g) (λ r l. collected r role_count (λ r. edge g r s) l) (λ r _ _. refl))

-- A privilege is direct in s where s has it and no immediate junior does.
pub direct-member : (g : Graph) (p s : ℕ) → member p (direct g s) ≡ member p (at g.sets s) && not (member p (gather role_count (λ r. edge g r s) (at g.sets)))
unfolding direct effective
direct-member g p s = member-difference p (at g.sets s) (gather role_count (λ r. edge g r s) (at g.sets))

gather-empty : (f : ℕ → ℕ) → gather role_count (λ r. member r 0) f ≡ 0
unfolding gather when union member digit
gather-empty f = refl

-- A role other than MinRole that lies below some role is ordinary.
low_ordinary : (g : Graph) (t s : ℕ) → t ≢ min_role → T (below g t s) → T (ordinary g t)
low_ordinary g t s d b =
    elim (present_cases g t (below_cases g t s b).0) [
      | inl l ↦ (let e : t ≡ max_role = omega (arith, d) in absurd (not-above-max g s (subst (λ (i : ℕ). T (below g i s)) e b)))
      | inr o ↦ o
    ]

-- A role that lies between two others is ordinary.
between_ordinary : (g : Graph) (r t s : ℕ) → T (below g r t) → T (below g t s) → T (ordinary g t)
between_ordinary g r t s x y = low_ordinary g t s (λ e. omega (arith, above-min g r t x)) y

-- A search for a role between two others may look among the ordinary roles only.
pub between_tests : (g : Graph) (r s : ℕ)
    → any role_count (λ t. member t (difference g.roles end_roles) && (below g r t && below g t s)) ≡ any role_count (λ t. below g r t && below g t s)
between_tests g r s =
    any_cong role_count _ _
    (λ t _.
    ap (λ (b : Bool). b && (below g r t && below g t s)) (ordinary-member g t)
    ∙ needless (ordinary g t) (below g r t && below g t s) (λ u. let (x, y) = both (below g r t) (below g t s) u in between_ordinary g r t s x y))

-- An ordinary role lies below s by two tests.
low_tests : (g : Graph) (r s : ℕ) → T (ordinary g r) → below g r s ≡ (ordinary g s || eqb s max_role) && (eqb s max_role || strictly_included (effective g r) (effective g s))
low_tests g r s o =
    below_tests g r s ∙ rw (passes (ordinary g r) o, fails (eqb r min_role) (not-end g r min_role (omega arith) o))

-- A test of s alone may come first.
regroup : (h o m w b : Bool) → (T o → b ≡ h && w) → (h && o) && (m && w) ≡ o && (m && b)
regroup true false m w b e = refl
regroup false false m w b e = refl
regroup true true m w b e = ap (◌&&◌ m) (sym (e tt))
regroup false true m w b e = sym (ap (◌&&◌ m) (e tt) ∙ and-false m)

-- The search for an ordinary role that has a privilege and lies below s, by these tests: among all of them where s can lie above another, and else among none.
module _ (g : Graph) (p s : ℕ) {all top : ℕ} (a : all ≡ when (member s (union (difference g.roles end_roles) max_alone)) (difference g.roles end_roles)) (t : top ≡ at g.sets s) where
  abbrev strict : ℕ → Bool
  strict r = eqb s max_role || strictly_included (at g.sets r) top

  among : (r : ℕ) → member r all ≡ (ordinary g s || eqb s max_role) && member r (difference g.roles end_roles)
  unfolding single
  among r =
      ap (member r) a ∙ member-when r _ (difference g.roles end_roles) ∙ ap (λ (b : Bool). b && member r (difference g.roles end_roles)) (member_with g max_role s)

  pub lower_tests : any role_count (λ r. member r all && (member p (at g.sets r) && strict r))
      ≡ any role_count (λ r. member r (difference g.roles end_roles) && (member p (at g.sets r) && below g r s))
  unfolding effective
  lower_tests =
      any_cong role_count _ _
      (λ r _.
      ap (λ (b : Bool). b && (member p (at g.sets r) && strict r)) (among r)
      ∙ regroup (ordinary g s || eqb s max_role) (member r (difference g.roles end_roles)) (member p (at g.sets r)) (strict r) (below g r s)
      (λ o. rw t (low_tests g r s (subst T (ordinary-member g r) o))))

-- ---- what immediate juniors have
module _ (g : Graph) (h : g.roles < 2 ^ role_count) (s : ℕ) where
  -- The roles below s without MinRole.
  abbrev lowers : ℕ
  lowers = difference (roles_below g s) 1

  in_lowers : (t : ℕ) → T (below g t s) → t ≢ min_role → T (member t lowers)
  unfolding single
  in_lowers t b d = difference_in t (roles_below g s) (single min_role) (subst T (sym (below_member g h t s)) b) (λ m. d (test_equal (subst T (member-single t min_role) m)))

  lowers_in : (t : ℕ) → T (member t lowers) → T (below g t s) × (t ≢ min_role)
  unfolding single
  lowers_in t m =
      let (b, d) = in_difference t (roles_below g s) (single min_role) m in
      (subst T (below_member g h t s) b, λ e. d (subst T (sym (member-single t min_role)) (equal_test e)))

  -- Where no ordinary role lies below s, the immediate juniors of s are the roles below it.
  pub inherited_least : lowers ≡ 0 → gather role_count (λ r. member r (roles_below g s)) (at g.sets) ≡ gather role_count (λ r. edge g r s) (at g.sets)
  inherited_least z =
      gather_cong role_count _ _ (at g.sets) (at g.sets)
      (λ r _. below_member g h r s ∙ same_test (below g r s) (edge g r s) (λ b. drawn_here r (below_junior g h r s b)) (edge-below g r s)) (λ r _ _. refl)
    where
      drawn_here : (r : ℕ) → T (edge g r s) ⊎ ((t : ℕ) × T (below g r t) × T (edge g t s)) → T (edge g r s)
      drawn_here r (inl d) = d
      drawn_here r (inr (t, b, d)) = absurd (in_empty t (subst (λ (i : ℕ). T (member t i)) z (in_lowers t (edge-below g t s d) (λ e. omega (arith, above-min g r t b)))))

  -- What a role other than MinRole that lies below s has, some immediate junior of s has.
  junior_has : (p r : ℕ) → T (below g r s) → r ≢ min_role → T (member p (at g.sets r)) → T (member p (gather role_count (λ r. edge g r s) (at g.sets)))
  unfolding effective strictly_included
  junior_has p r b d x =
      let sets = at g.sets in
      let q = low_ordinary g r s d b in
      elim (below_junior g h r s b) [
        | inl e ↦ gather_in p role_count (λ r. edge g r s) sets r (ordinary_lt g r h q) e x
        | inr (t, c, e) ↦ (
            let o = between_ordinary g r t s c (edge-below g t s e) in
            let i = (path_iff_included g h r t q o).0 ((path_iff_below g h r t).1 c) in
            gather_in p role_count (λ r. edge g r s) sets t (ordinary_lt g t h o) e
            (included-member _ _ (both (included (sets r) (sets t)) (not (eqb (sets r) (sets t))) i).0 p x))
      ]

  -- So an immediate junior has the privilege where an ordinary role below s has it, or MinRole is such a junior and has it.
  pub inherited_tests : (p : ℕ) → member p (gather role_count (λ r. edge g r s) (at g.sets))
      ≡ any role_count (λ r. member r (difference g.roles end_roles) && (member p (at g.sets r) && below g r s)) || (member p (at g.sets min_role) && edge g min_role s)
  inherited_tests p = same_test _ _ there back
    where
      sets : ℕ → ℕ
      sets = at g.sets

      lower_has : ℕ → Bool
      lower_has r = member r (difference g.roles end_roles) && (member p (sets r) && below g r s)

      there : T (member p (gather role_count (λ r. edge g r s) sets)) → T (any role_count lower_has || (member p (sets min_role) && edge g min_role s))
      there u =
          let (r, l, e, x) = in_gather p role_count (λ r. edge g r s) sets u in
          elim (ℕ_discrete r min_role) [
            | yes z ↦ or_right (any role_count lower_has) _ (subst (λ (i : ℕ). T (member p (sets i) && edge g i s)) z (join (member p (sets r)) (edge g r s) x e))
            | no d ↦ (
                let b = edge-below g r s e in
                or_left (any role_count lower_has) _ (some-any role_count lower_has r l
                (join (member r (difference g.roles end_roles)) _ (subst T (sym (ordinary-member g r)) (low_ordinary g r s d b)) (join (member p (sets r)) (below g r s) x b))))
          ]

      back : T (any role_count lower_has || (member p (sets min_role) && edge g min_role s)) → T (member p (gather role_count (λ r. edge g r s) sets))
      back u =
          elim (either (any role_count lower_has) (member p (sets min_role) && edge g min_role s) u) [
            | inl t ↦ (
                let (r, l, y) = any-some role_count lower_has t in
                let (o, z) = both (member r (difference g.roles end_roles)) (member p (sets r) && below g r s) y in
                let (x, b) = both (member p (sets r)) (below g r s) z in
                junior_has p r b (λ e. omega (arith, (ordinary_parts g r (subst T (ordinary-member g r) o)).0)) x)
            | inr t ↦ (let (x, e) = both (member p (sets min_role)) (edge g min_role s) t in gather_in p role_count (λ r. edge g r s) sets min_role (omega arith) e x)
          ]

  -- Where an ordinary role lies below s, what the immediate juniors of s have is what the ordinary roles below it have.
  pub inherited_ordinary : lowers ≢ 0 → gather role_count (λ r. member r lowers) (at g.sets) ≡ gather role_count (λ r. edge g r s) (at g.sets)
  inherited_ordinary some = equal_members _ _ (λ p. same_test _ _ (there p) (back p))
    where
      sets : ℕ → ℕ
      sets = at g.sets

      there : (p : ℕ) → T (member p (gather role_count (λ r. member r lowers) sets)) → T (member p (gather role_count (λ r. edge g r s) sets))
      there p u =
          let (r, _, m, x) = in_gather p role_count (λ r. member r lowers) sets u in
          let (b, d) = lowers_in r m in
          junior_has p r b d x

      -- An immediate junior of s is not MinRole.
      not_least : (r : ℕ) → T (edge g r s) → r ≢ min_role
      not_least r e z =
          some (no_members role_count lowers (difference-lt role_count _ _ (collect-lt role_count _))
          (λ t m.
          let (b, d) = lowers_in t m in
          none_between g h r s e t (subst (λ (i : ℕ). T (below g i t)) (sym z) (min-below g t (below_cases g t s b).0 d)) b))

      back : (p : ℕ) → T (member p (gather role_count (λ r. edge g r s) sets)) → T (member p (gather role_count (λ r. member r lowers) sets))
      back p u =
          let (r, l, e, x) = in_gather p role_count (λ r. edge g r s) sets u in
          gather_in p role_count (λ r. member r lowers) sets r l (in_lowers r (edge-below g r s e) (not_least r e)) x

-- ---- the tables
pub table_cong : (n : ℕ) (f h : ℕ → ℕ) → ((i : ℕ) → i < n → f i ≡ h i) → table n f ≡ table n h
table_cong n f h e =
    table_ext n (table n f) (table n h) (length-table n f) (length-table n h) (λ i l. at-table n i f l ∙ e i l ∙ sym (at-table n i h l))

-- A choice has the value that both its sides have where they are chosen.
chosen : (c : Bool) (x y z : ℕ) → (T c → x ≡ z) → ((T c → ⊥) → y ≡ z) → cond c x y ≡ z
chosen true x y z p q = p tt
chosen false x y z p q = q (λ t. t)

-- A set that has every ordinary role and MaxRole.
abbrev pub Covers : Graph → ℕ → Type 0
Covers g all = (s : ℕ) → T (ordinary g s) ⊎ (s ≡ max_role) → T (member s all)

pub seniors_cover : (g : Graph) → Covers g (union (difference g.roles end_roles) max_alone)
unfolding single
seniors_cover g s (inl o) = subst T (sym (member_with g max_role s)) (or_left (ordinary g s) (eqb s max_role) o)
seniors_cover g s (inr e) = subst T (sym (member_with g max_role s)) (or_right (ordinary g s) (eqb s max_role) (equal_test e))

module _ (g : Graph) (h : g.roles < 2 ^ role_count) (all : ℕ) (c : Covers g all) where
  outside : (s : ℕ) → (T (member s all) → ⊥) → roles_below g s ≡ 0
  outside s f = sym (below_none g h s (λ e. f (c s (inr e))) (λ o. f (c s (inl o))))

  -- Outside a set that covers there is no junior.
  no_juniors : (s : ℕ) → (T (member s all) → ⊥) → juniors g s ≡ 0
  unfolding difference
  no_juniors s f = sym (juniors_picked g s) ∙ rw (outside s f)

  -- The roles that have r among their immediate juniors are its immediate seniors.
  pub seniors_found : (r : ℕ) → collect role_count (λ s. member s all && member r (at (table role_count (juniors g)) s)) ≡ seniors g r
  unfolding seniors juniors
  seniors_found r =
      extensional role_count _ _ (collect-lt role_count _) (collect-lt role_count _)
      (λ s l.
      collected s role_count (λ s. member s all && member r (at (table role_count (juniors g)) s)) l
      ∙ ap (λ (j : ℕ). member s all && member r j) (at-table role_count s (juniors g) l)
      ∙ needless (member s all) (member r (juniors g s)) (λ t. so (member s all) (λ f. in_empty r (subst (λ (j : ℕ). T (member r j)) (no_juniors s (T_not (member s all) f)) t)))
      ∙ junior s
      ∙ sym (collected s role_count (λ s. edge g r s) l))
    where
      junior : (s : ℕ) → member r (juniors g s) ≡ edge g r s
      junior s = member-collect r role_count (λ r. edge g r s) ∙ bounded r role_count (edge g r s) (λ t. present_lt g r h (below_cases g r s (edge-below g r s t)).0)

  pub lowers_table : table role_count (λ s. cond (member s all) (roles_below g s) 0) ≡ table role_count (roles_below g)
  lowers_table = table_cong role_count _ _ (λ s _. chosen (member s all) (roles_below g s) 0 (roles_below g s) (λ _. refl) (λ f. sym (outside s f)))

  -- Taking from the roles below each role those below these leaves the immediate juniors.
  pub juniors_table : less_juniors all (table role_count (roles_below g)) (table role_count (roles_below g)) ≡ table role_count (juniors g)
  unfolding less_juniors
  juniors_table = table_cong role_count _ (juniors g) (λ s l. chosen (member s all) _ _ (juniors g s) (λ _. taken s l) (λ f. at-table role_count s (roles_below g) l ∙ outside s f ∙ sym (no_juniors s f)))
    where
      lower : List ℕ
      lower = table role_count (roles_below g)

      taken : (s : ℕ) → s < role_count → difference (at lower s) (gather role_count (λ t. member t (at lower s)) (at lower)) ≡ juniors g s
      taken s l =
          ap₂ difference (at-table role_count s (roles_below g) l)
          (gather_cong role_count (λ t. member t (at lower s)) (λ t. member t (roles_below g s)) (at lower) (roles_below g)
          (λ t _. ap (member t) (at-table role_count s (roles_below g) l)) (λ t k _. at-table role_count t (roles_below g) k))
          ∙ juniors_picked g s

  -- Taking from each role's set what its immediate juniors have leaves its direct privileges.
  pub directs_table : less_juniors all g.sets (table role_count (juniors g)) ≡ table role_count (direct g)
  unfolding less_juniors
  directs_table = table_cong role_count _ (direct g) (λ s l. chosen (member s all) _ _ (direct g s) (λ _. ap (less s) (at-table role_count s (juniors g) l) ∙ direct_picked g s) (kept s))
    where
      less : ℕ → ℕ → ℕ
      less s below = difference (at g.sets s) (gather role_count (λ r. member r below) (at g.sets))

      kept : (s : ℕ) → (T (member s all) → ⊥) → at g.sets s ≡ direct g s
      kept s f =
          sym (difference-empty (at g.sets s))
          ∙ ap (difference (at g.sets s)) (sym (gather-empty (at g.sets)))
          ∙ ap (less s) (sym (no_juniors s f))
          ∙ direct_picked g s

  -- The immediate juniors of all roles are as many as the edges.
  pub edges_counted : sum role_count (λ s. cond (member s all) (size role_count (at (table role_count (juniors g)) s)) 0) ≡ edge_count g
  unfolding edge_count juniors size count member digit
  edges_counted =
      sum_cong role_count _ _
      (λ s l.
      chosen (member s all) _ 0 _ (λ _. ap (size role_count) (at-table role_count s (juniors g) l) ∙ counted s)
      (λ f. sym (ap (size role_count) (no_juniors s f)) ∙ counted s))
    where
      counted : (s : ℕ) → size role_count (juniors g s) ≡ count role_count (λ r. edge g r s)
      counted s = count_cong role_count _ (λ r. edge g r s) (λ r l. collected r role_count (λ r. edge g r s) l)
