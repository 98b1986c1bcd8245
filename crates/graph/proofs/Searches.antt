-- What the searches of `searching` find.
-- Assumes nothing.
use mathlib.Core.Path.{◌≡◌, refl, sym, ap, ap₂, ◌∙◌, subst}
use mathlib.Core.Bool.{Bool, true, false, cond, not, ◌&&◌, ◌||◌}
use mathlib.Core.Logic.{◌≢◌, inl, inr}
use mathlib.Core.List.{List}
use Prim.Native.Nat.{ℕ, ◌<◌, ◌^◌}
use native.Mathlib.Decide.{dec_lt}
use native.Mathlib.Omega.{arith}
use borrow.Author.Tests.{lt-ltb}
use lib.Dec.{T, T_not, not_T, eqb, ltb, ltb→lt, lt→ltb}
use Rattle.sets.specs.Counting.{any, lowest}
use Rattle.sets.specs.Sets.{member, single, union, intersection, meets, difference, strictly_included, above}
use Rattle.sets.proofs.Tests.{both, join, either, or_left, or_right, same_test, passes, fails, decide, so, equal_test, test_equal, and_regroup}
use Rattle.sets.proofs.Counting.{any-some, some-any, any_cong, lowest-lt, lowest_cong, lowest_first, lowest_passes, lowest_is}
use Rattle.sets.proofs.Laws.{member-lt, member-intersection, member-collect, intersection-lt, collect-lt}
use Rattle.sets.proofs.Members.{in_intersection, intersection_in, in_empty, no_members}
use Rattle.graph.specs.Tables.{at}
use Rattle.graph.specs.Graph.{Graph, role_count, min_role, max_role, ordinary, effective, min_alone, max_alone, end_roles}
use Rattle.graph.specs.Conflicts.{conflict}
use Rattle.graph.specs.Drawing.{below}
use Rattle.graph.specs.Refusing.{at_or_below}
use Rattle.graph.specs.Searching.{nothing, found, lowest_found}
use Rattle.graph.specs.Reading.{read_found}
use Rattle.std.specs.Prelude.{Option, Some, None}
use Rattle.graph.proofs.DrawingCode.{ordinary-member, member_with, below_tests}

-- ---- what a search finds
-- The lowest number that passes is found.
pub found_is : (k : ℕ) (f : ℕ → Bool) {i : ℕ} → i < k → T (f i) → i ≡ lowest k f → found i ≡ lowest_found k f
unfolding lowest_found
found_is k f {i} l t e = ap found e ∙ sym (rw (passes (any k f) (some-any k f i l t)))

-- Where none passes, nothing is found.
pub found_none : (k : ℕ) (f : ℕ → Bool) → any k f ≡ false → nothing ≡ lowest_found k f
unfolding lowest_found
found_none k f e = sym (rw e)

pub found_cong : (k : ℕ) (f g : ℕ → Bool) → ((i : ℕ) → i < k → f i ≡ g i) → lowest_found k f ≡ lowest_found k g
unfolding lowest_found
found_cong k f g h = ap₂ (λ (t : Bool) (p : ℕ). cond t (found p) nothing) (any_cong k f g h) (lowest_cong k f g h)

-- ---- two sets
-- Some number below w is in both sets.
abbrev has_common : ℕ → ℕ → ℕ → Bool
has_common w s t = any w (λ n. member n s && member n t)

common_test : (w s t : ℕ) → s < 2 ^ w → has_common w s t ≡ meets s t
unfolding meets
common_test w s t h = same_test (has_common w s t) (not (eqb (intersection s t) 0)) there back
  where
    there : T (has_common w s t) → T (not (eqb (intersection s t) 0))
    there c =
        let (n, l, x) = any-some w (λ n. member n s && member n t) c in
        let (a, b) = both (member n s) (member n t) x in
        not_T (eqb (intersection s t) 0) (λ z. in_empty n (subst (λ (i : ℕ). T (member n i)) (test_equal z) (intersection_in n s t a b)))

    back : T (not (eqb (intersection s t) 0)) → T (has_common w s t)
    back d =
        so (has_common w s t)
        (λ u.
        T_not (eqb (intersection s t) 0) d
        (equal_test (no_members w (intersection s t) (intersection-lt w s t h)
        (λ n m.
        let (a, b) = in_intersection n s t m in
        T_not (has_common w s t) u (some-any w (λ n. member n s && member n t) n (member-lt w n s h a) (join (member n s) (member n t) a b))))))

-- What the code finds is what the search finds.
pub read_first : (k : ℕ) (f : ℕ → Bool) {r : Option ℕ} → r ≡ cond (any k f) (Some (lowest k f)) None → read_found r ≡ lowest_found k f
unfolding read_found lowest_found
read_first k f e = ap read_found e ∙ go (any k f)
  where
    go : (b : Bool) → read_found (cond b (Some (lowest k f)) None) ≡ cond b (found (lowest k f)) nothing
    go true = refl
    go false = refl

-- A test that passes where another does, and wherever the other passes first, finds the same.
pub found_first : (k : ℕ) (f g : ℕ → Bool) → ((i : ℕ) → T (f i) → T (g i)) → ((i : ℕ) → i < k → T (g i) → ((j : ℕ) → j < i → T (g j) → ⊥) → T (f i)) → lowest_found k f ≡ lowest_found k g
found_first k f g sub first = elim (decide (any k g)) [ inl t ↦ there t | inr d ↦ nowhere d ]
  where
    there : T (any k g) → lowest_found k f ≡ lowest_found k g
    there t =
        let l = lowest-lt k g t in
        let p = lowest_passes k g t in
        let q = first (lowest k g) l p (lowest_first k g) in
        sym (found_is k f l q (sym (lowest_is k f (lowest k g) l q (λ j h x. lowest_first k g j h (sub j x))))) ∙ found_is k g l p refl

    nowhere : (T (any k g) → ⊥) → lowest_found k f ≡ lowest_found k g
    nowhere d =
        sym (found_none k f (fails (any k f) (λ t. let (i, l, x) = any-some k f t in d (some-any k g i l (sub i x)))))
        ∙ found_none k g (fails (any k g) d)

-- ---- ordinary roles
module _ (g : Graph) (f : ℕ → Bool) where
  passes_ordinary : (n : ℕ) → member n (difference g.roles end_roles) && f n ≡ ordinary g n && f n
  passes_ordinary n = ap (λ (b : Bool). b && f n) (ordinary-member g n)

  pub among_ordinary : lowest_found role_count (λ n. member n (difference g.roles end_roles) && f n) ≡ lowest_found role_count (λ n. ordinary g n && f n)
  among_ordinary = found_cong role_count _ _ (λ n _. passes_ordinary n)

  pub any_ordinary : any role_count (λ n. member n (difference g.roles end_roles) && f n) ≡ any role_count (λ n. ordinary g n && f n)
  any_ordinary = any_cong role_count _ _ (λ n _. passes_ordinary n)

  -- A search among the ordinary roles.
  pub first_ordinary : {s : ℕ} {r : Option ℕ} → s ≡ difference g.roles end_roles → r ≡ cond (any role_count (λ n. member n s && f n)) (Some (lowest role_count (λ n. member n s && f n))) None
      → read_found r ≡ lowest_found role_count (λ n. ordinary g n && f n)
  first_ordinary {s} e h = read_first role_count (λ n. member n s && f n) h ∙ ap (λ (s : ℕ). lowest_found role_count (λ n. member n s && f n)) e ∙ among_ordinary

-- ---- members above a number
member-above : (w n s i : ℕ) → i < w → member i (above w n s) ≡ ltb n i && member i s
unfolding above
member-above w n s i h = member-collect i w (λ m. ltb n m && member m s) ∙ ap (λ (b : Bool). b && (ltb n i && member i s)) (lt-ltb i w h)

-- ---- twins
-- Another ordinary role has the same set as r.
abbrev pub has_twin : Graph → ℕ → Bool
has_twin g r = any role_count (λ s. (ordinary g s && not (eqb r s)) && eqb (effective g r) (effective g s))

-- A role of `all` above r has the same set.
abbrev pub twin_among : Graph → ℕ → ℕ → Bool
twin_among g all r = any role_count (λ s. member s (above role_count r all) && eqb (effective g s) (effective g r))

-- An ordinary role above r has the same set.
abbrev twin_above : Graph → ℕ → Bool
twin_above g = twin_among g (difference g.roles end_roles)

module _ (g : Graph) where
  above_ordinary : (r s : ℕ) → s < role_count → member s (above role_count r (difference g.roles end_roles)) ≡ ltb r s && ordinary g s
  above_ordinary r s h = member-above role_count r (difference g.roles end_roles) s h ∙ ap (λ (b : Bool). ltb r s && b) (ordinary-member g s)

  twin : (r s : ℕ) → s < role_count → T (ordinary g s) → r ≢ s → effective g r ≡ effective g s → T (has_twin g r)
  twin r s l o d e =
      some-any role_count (λ s. (ordinary g s && not (eqb r s)) && eqb (effective g r) (effective g s)) s l
      (join (ordinary g s && not (eqb r s)) (eqb (effective g r) (effective g s)) (join (ordinary g s) (not (eqb r s)) o (not_T (eqb r s) (λ t. d (test_equal t)))) (equal_test e))

  higher_twin : (r s : ℕ) → s < role_count → T (ordinary g s) → r < s → effective g s ≡ effective g r → T (twin_above g r)
  higher_twin r s l o h e =
      some-any role_count (λ s. member s (above role_count r (difference g.roles end_roles)) && eqb (effective g s) (effective g r)) s l
      (join (member s (above role_count r (difference g.roles end_roles))) (eqb (effective g s) (effective g r))
      (subst T (sym (above_ordinary r s l)) (join (ltb r s) (ordinary g s) (lt→ltb r s h) o)) (equal_test e))

  -- The lowest role with a twin has one above it.
  lowest_twin : lowest_found role_count (λ r. ordinary g r && twin_above g r) ≡ lowest_found role_count (λ r. ordinary g r && has_twin g r)
  lowest_twin = found_first role_count (λ r. ordinary g r && twin_above g r) (λ r. ordinary g r && has_twin g r) sub first
    where
      sub : (r : ℕ) → T (ordinary g r && twin_above g r) → T (ordinary g r && has_twin g r)
      sub r t =
          let (o, u) = both (ordinary g r) (twin_above g r) t in
          let (s, l, x) = any-some role_count (λ s. member s (above role_count r (difference g.roles end_roles)) && eqb (effective g s) (effective g r)) u in
          let (m, q) = both (member s (above role_count r (difference g.roles end_roles))) (eqb (effective g s) (effective g r)) x in
          let (h, p) = both (ltb r s) (ordinary g s) (subst T (above_ordinary r s l) m) in
          let k = ltb→lt r s h in
          join (ordinary g r) (has_twin g r) o (twin r s l p (λ e. omega arith) (sym (test_equal q)))

      first : (r : ℕ) → r < role_count → T (ordinary g r && has_twin g r) → ((j : ℕ) → j < r → T (ordinary g j && has_twin g j) → ⊥) → T (ordinary g r && twin_above g r)
      first r k t none =
          let (o, u) = both (ordinary g r) (has_twin g r) t in
          let (s, l, x) = any-some role_count (λ s. (ordinary g s && not (eqb r s)) && eqb (effective g r) (effective g s)) u in
          let (y, q) = both (ordinary g s && not (eqb r s)) (eqb (effective g r) (effective g s)) x in
          let (p, v) = both (ordinary g s) (not (eqb r s)) y in
          let e : effective g r ≡ effective g s = test_equal q in
          join (ordinary g r) (twin_above g r) o
          (elim (dec_lt r s) [
            | yes h ↦ higher_twin r s l p h (sym e)
            | no d ↦
                elim (dec_lt s r) [
                  | yes h ↦ absurd (none s h (join (ordinary g s) (has_twin g s) p (twin s r k o (λ z. omega arith) (sym e))))
                  | no f ↦ absurd (T_not (eqb r s) v (equal_test (omega arith)))
                ]
          ])

  -- What a search for a role with a twin above it finds.
  pub first_twin : {all : ℕ} {r : Option ℕ} → all ≡ difference g.roles end_roles
      → r ≡ cond (any role_count (λ n. member n all && twin_among g all n)) (Some (lowest role_count (λ n. member n all && twin_among g all n))) None
      → read_found r ≡ lowest_found role_count (λ r. ordinary g r && has_twin g r)
  first_twin {all} {r} e h =
      first_ordinary g (twin_above g) refl
      (subst (λ (s : ℕ). r ≡ cond (any role_count (λ n. member n s && twin_among g s n)) (Some (lowest role_count (λ n. member n s && twin_among g s n))) None) e h)
      ∙ lowest_twin

-- ---- declared pairs
-- A member of the set is in conflict with p, as the higher of the two.
abbrev pub has_partner : ℕ → List ℕ → ℕ → ℕ → Bool
has_partner w C all p = any w (λ q. member q all && conflict C p q)

-- The partners of p are among the members above it.
pub partner_test : (C : List ℕ) (w all p : ℕ) → has_partner w C all p ≡ meets (above w p all) (at C p)
unfolding conflict above
partner_test C w all p =
    any_cong w (λ q. member q all && conflict C p q) (λ q. member q (above w p all) && member q (at C p))
    (λ q h. regroup (member q all) (ltb p q) (member q (at C p)) ∙ ap (λ (b : Bool). b && member q (at C p)) (sym (member-above w p all q h)))
    ∙ common_test w (above w p all) (at C p) (collect-lt w (λ m. ltb p m && member m all))
  where
    regroup : (x y z : Bool) → x && (y && z) ≡ (y && x) && z
    regroup true true z = refl
    regroup true false z = refl
    regroup false true z = refl
    regroup false false z = refl

-- What meets those above p meets them all.
pub partner_meets : (w all p t : ℕ) → all < 2 ^ w → T (meets (above w p all) t) → T (meets all t)
unfolding above
partner_meets w all p t h m =
    let l = collect-lt w (λ n. ltb p n && member n all) in
    let (n, k, x) = any-some w (λ n. member n (above w p all) && member n t) (subst T (sym (common_test w (above w p all) t l)) m) in
    let (a, b) = both (member n (above w p all)) (member n t) x in
    let (c, d) = both (ltb p n) (member n all) (subst T (member-above w p all n k) a) in
    subst T (common_test w all t h) (some-any w (λ n. member n all && member n t) n k (join (member n all) (member n t) d b))

-- ---- circles
-- Whether some role of `all` lies below j.
abbrev pub some_below : Graph → ℕ → ℕ → Bool
some_below g all j = any role_count (λ s. member s all && below g s j)

module _ (g : Graph) (all j : ℕ) where
  -- What is tested of each role of `all` that can lie below others, where j can lie above others.
  abbrev pub ways_below : ℕ → Bool
  ways_below s = eqb j max_role || (eqb s min_role || strictly_included (effective g s) (effective g j))

  -- j can lie above others.
  abbrev pub high : Bool
  high = member j (union (difference g.roles end_roles) max_alone)

  abbrev low : ℕ → Bool
  low s = member s (union (difference g.roles end_roles) min_alone)

  tested : (s : ℕ) → below g s j ≡ high && (low s && ways_below s)
  unfolding single
  tested s = below_tests g s j ∙ ap₂ (λ (a b : Bool). a && (b && ways_below s)) (sym (member_with g max_role j)) (sym (member_with g min_role s))

  pub none_below : high ≡ false → false ≡ some_below g all j
  none_below e =
      sym
      (fails (some_below g all j)
      (λ t.
      let (s, l, x) = any-some role_count (λ s. member s all && below g s j) t in
      let (m, b) = both (member s all) (below g s j) x in
      subst T (tested s ∙ ap (λ (a : Bool). a && (low s && ways_below s)) e) b))

  pub found_below : high ≡ true → any role_count (λ s. member s (intersection all (union (difference g.roles end_roles) min_alone)) && ways_below s) ≡ some_below g all j
  found_below e =
      any_cong role_count _ _
      (λ s _.
      ap (λ (a : Bool). a && ways_below s) (member-intersection s all (union (difference g.roles end_roles) min_alone))
      ∙ sym (and_regroup (member s all) (low s) (ways_below s))
      ∙ ap (λ (b : Bool). member s all && b) (sym (tested s ∙ ap (λ (a : Bool). a && (low s && ways_below s)) e)))

-- A senior is j, or some senior lies below it.
pub circle_tests : (g : Graph) (seniors j : ℕ) → seniors < 2 ^ role_count
    → member j seniors || some_below g seniors j ≡ any role_count (λ s. member s seniors && at_or_below g s j)
unfolding at_or_below
circle_tests g seniors j h = same_test (member j seniors || some_below g seniors j) (any role_count (λ s. member s seniors && (eqb s j || below g s j))) there back
  where
    some : (s : ℕ) → s < role_count → T (member s seniors) → T (eqb s j || below g s j) → T (any role_count (λ s. member s seniors && (eqb s j || below g s j)))
    some s l m x = some-any role_count (λ s. member s seniors && (eqb s j || below g s j)) s l (join (member s seniors) (eqb s j || below g s j) m x)

    there : T (member j seniors || some_below g seniors j) → T (any role_count (λ s. member s seniors && (eqb s j || below g s j)))
    there t =
        elim (either (member j seniors) (some_below g seniors j) t) [
          | inl m ↦ some j (member-lt role_count j seniors h m) m (or_left (eqb j j) (below g j j) (equal_test {a = j} refl))
          | inr u ↦ (
              let (s, l, x) = any-some role_count (λ s. member s seniors && below g s j) u in
              let (m, b) = both (member s seniors) (below g s j) x in
              some s l m (or_right (eqb s j) (below g s j) b))
        ]

    back : T (any role_count (λ s. member s seniors && (eqb s j || below g s j))) → T (member j seniors || some_below g seniors j)
    back t =
        let (s, l, x) = any-some role_count (λ s. member s seniors && (eqb s j || below g s j)) t in
        let (m, y) = both (member s seniors) (eqb s j || below g s j) x in
        elim (either (eqb s j) (below g s j) y) [
          | inl e ↦ or_left (member j seniors) (some_below g seniors j) (subst (λ (i : ℕ). T (member i seniors)) (test_equal e) m)
          | inr b ↦ or_right (member j seniors) (some_below g seniors j) (some-any role_count (λ s. member s seniors && below g s j) s l (join (member s seniors) (below g s j) m b))
        ]
