-- The laws of conflicts: what holding a pair means, and what declaring and lifting change.
-- Assumes nothing.
use mathlib.Core.Path.{◌≡◌, sym, ap, ◌∙◌, subst}
use mathlib.Core.Bool.{Bool, not, ◌&&◌, ◌||◌}
use mathlib.Core.Logic.{◌≢◌, ◌⊎◌, inl, inr}
use mathlib.Core.List.{List}
use Prim.Native.Nat.{ℕ, ◌<◌, min, max}
use native.Mathlib.Decide.{dec_lt}
use native.Mathlib.Omega.{arith}
use lib.Dec.{T, eqb, ltb, ltb→lt, lt→ltb}
use Rattle.sets.specs.Counting.{any}
use Rattle.sets.specs.Sets.{member}
use Rattle.sets.proofs.Tests.{both, join, either, or_left, or_right, same_test, equal_test, test_equal, or_out, and_regroup}
use Rattle.sets.proofs.Counting.{any-some, some-any}
use Rattle.sets.proofs.Laws.{member-lt}
use Rattle.graph.specs.Tables.{at}
use Rattle.graph.specs.Graph.{privilege_count}
use Rattle.graph.specs.Conflicts.{conflict, declared, same_pair, holds_pair, declare, lift}
use Rattle.graph.specs.Invariants.{Paired}
use Rattle.graph.proofs.Tables.{put_test, take_out_test, put_table, take_out_table}

-- ---- a declared pair in a set
module _ (C : List ℕ) where
  pub conflict_parts : (p q : ℕ) → T (conflict C p q) → (p < q) × T (member q (at C p))
  unfolding conflict
  conflict_parts p q t = let (l, m) = both (ltb p q) (member q (at C p)) t in (ltb→lt p q l, m)

  pub pair_found : (s : ℕ) → T (holds_pair C s) → (p : ℕ) × (q : ℕ) × T (member p s) × T (member q s) × T (conflict C p q)
  unfolding holds_pair
  pair_found s t =
      let (p, l, x) = any-some privilege_count (λ p. member p s && any privilege_count (λ q. member q s && conflict C p q)) t in
      let (m, y) = both (member p s) (any privilege_count (λ q. member q s && conflict C p q)) x in
      let (q, k, z) = any-some privilege_count (λ q. member q s && conflict C p q) y in
      let (n, u) = both (member q s) (conflict C p q) z in
      (p, q, m, n, u)

  pub pair_holds : (s p q : ℕ) → q < privilege_count → T (member p s) → T (member q s) → T (conflict C p q) → T (holds_pair C s)
  unfolding holds_pair
  pair_holds s p q k m n u =
      let l = (conflict_parts p q u).0 in
      some-any privilege_count (λ p. member p s && any privilege_count (λ q. member q s && conflict C p q)) p (omega arith)
      (join (member p s) (any privilege_count (λ q. member q s && conflict C p q)) m
      (some-any privilege_count (λ q. member q s && conflict C p q) q k (join (member q s) (conflict C p q) n u)))

-- A set with more members, or with more conflicts, holds a pair where the other does.
pub pair_more : (C D : List ℕ) (s t : ℕ) → ((p : ℕ) → T (member p s) → T (member p t)) → ((p q : ℕ) → T (conflict C p q) → (q < privilege_count) × T (conflict D p q)) → T (holds_pair C s) → T (holds_pair D t)
pair_more C D s t f g h =
    let (p, q, m, n, u) = pair_found C s h in
    let (k, v) = g p q u in
    pair_holds D t p q k (f p m) (f q n) v

-- ---- unordered
pub declared_swap : (C : List ℕ) (a b : ℕ) → declared C a b ≡ declared C b a
unfolding declared
declared_swap C a b = let e : min a b ≡ min b a = omega arith in let f : max a b ≡ max b a = omega arith in rw (e, f)

-- Of two privileges in order the declared conflict is that of the lower and the higher.
pub declared_in_order : (C : List ℕ) (p q : ℕ) → p < q → declared C p q ≡ conflict C p q
unfolding declared
declared_in_order C p q l = let e : min p q ≡ p = omega arith in let f : max p q ≡ q = omega arith in rw (e, f)

sorted : (a b : ℕ) → ((min a b ≡ a) × (max a b ≡ b)) ⊎ ((min a b ≡ b) × (max a b ≡ a))
sorted a b = elim (dec_lt a b) [ yes l ↦ inl (omega arith, omega arith) | no d ↦ inr (omega arith, omega arith) ]

-- Two pairs with the same lower and the same higher number are the same, in one order or the other.
same_ends : (p q a b : ℕ) → min p q ≡ min a b → max p q ≡ max a b → ((p ≡ a) × (q ≡ b)) ⊎ ((p ≡ b) × (q ≡ a))
same_ends p q a b e f = go (sorted p q) (sorted a b)
  where
    go : ((min p q ≡ p) × (max p q ≡ q)) ⊎ ((min p q ≡ q) × (max p q ≡ p)) → ((min a b ≡ a) × (max a b ≡ b)) ⊎ ((min a b ≡ b) × (max a b ≡ a)) → ((p ≡ a) × (q ≡ b)) ⊎ ((p ≡ b) × (q ≡ a))
    go (inl (x, y)) (inl (u, v)) = inl (sym x ∙ e ∙ u, sym y ∙ f ∙ v)
    go (inl (x, y)) (inr (u, v)) = inr (sym x ∙ e ∙ u, sym y ∙ f ∙ v)
    go (inr (x, y)) (inl (u, v)) = inr (sym y ∙ f ∙ v, sym x ∙ e ∙ u)
    go (inr (x, y)) (inr (u, v)) = inl (sym y ∙ f ∙ v, sym x ∙ e ∙ u)

ends_same : (p q a b : ℕ) → ((p ≡ a) × (q ≡ b)) ⊎ ((p ≡ b) × (q ≡ a)) → (min p q ≡ min a b) × (max p q ≡ max a b)
ends_same p q a b (inl (x, y)) = (omega arith, omega arith)
ends_same p q a b (inr (x, y)) = (omega arith, omega arith)

pair_test : (p q a b : ℕ) → eqb (min p q) (min a b) && eqb (max p q) (max a b) ≡ same_pair p q a b
pair_test p q a b = same_test _ _ there back
  where
    there : T (eqb (min p q) (min a b) && eqb (max p q) (max a b)) → T (same_pair p q a b)
    there t =
        let (x, y) = both (eqb (min p q) (min a b)) (eqb (max p q) (max a b)) t in
        elim (same_ends p q a b (test_equal x) (test_equal y)) [
          | inl (u, v) ↦ or_left (eqb p a && eqb q b) (eqb p b && eqb q a) (join (eqb p a) (eqb q b) (equal_test u) (equal_test v))
          | inr (u, v) ↦ or_right (eqb p a && eqb q b) (eqb p b && eqb q a) (join (eqb p b) (eqb q a) (equal_test u) (equal_test v))
        ]

    back : T (same_pair p q a b) → T (eqb (min p q) (min a b) && eqb (max p q) (max a b))
    back t =
        let (x, y) = ends_same p q a b (elim (either (eqb p a && eqb q b) (eqb p b && eqb q a) t) [
          | inl u ↦ inl (let (x, y) = both (eqb p a) (eqb q b) u in (test_equal x, test_equal y))
          | inr u ↦ inr (let (x, y) = both (eqb p b) (eqb q a) u in (test_equal x, test_equal y))
        ]) in
        join (eqb (min p q) (min a b)) (eqb (max p q) (max a b)) (equal_test x) (equal_test y)

-- ---- declaring and lifting
module _ {n : ℕ} {C : List ℕ} (w : Paired n C) (a b : ℕ) (ka : a < n) (kb : b < n) where
  lower : min a b < n
  lower = omega arith

  -- After declaring, the declared pairs are the former ones and that of a and b.
  pub declare_test : a ≢ b → (p q : ℕ) → declared (declare C a b) p q ≡ declared C p q || same_pair p q a b
  unfolding declared conflict declare
  declare_test d p q =
      ap (λ (x : Bool). ltb (min p q) (max p q) && x) (put_test w.table (min a b) (max a b) lower (min p q) (max p q) ∙ ap (λ (x : Bool). member (max p q) (at C (min p q)) || x) (pair_test p q a b))
      ∙ or_out (ltb (min p q) (max p q)) (member (max p q) (at C (min p q))) (same_pair p q a b) differ
    where
      differ : T (same_pair p q a b) → T (ltb (min p q) (max p q))
      differ t =
          let (x, y) = both (eqb (min p q) (min a b)) (eqb (max p q) (max a b)) (subst T (sym (pair_test p q a b)) t) in
          let e : min p q ≡ min a b = test_equal x in
          let f : max p q ≡ max a b = test_equal y in
          let l : min a b < max a b = apart a b d in
          lt→ltb (min p q) (max p q) (omega arith)
        where
          apart : (a b : ℕ) → a ≢ b → min a b < max a b
          apart a b d = omega (arith, d)

  -- After lifting, they are the former ones but that of a and b.
  pub lift_test : (p q : ℕ) → declared (lift C a b) p q ≡ declared C p q && not (same_pair p q a b)
  unfolding declared conflict lift
  lift_test p q =
      ap (λ (x : Bool). ltb (min p q) (max p q) && x) (take_out_test w.table (min a b) (max a b) lower (min p q) (max p q) ∙ ap (λ (x : Bool). member (max p q) (at C (min p q)) && not x) (pair_test p q a b))
      ∙ and_regroup (ltb (min p q) (max p q)) (member (max p q) (at C (min p q))) (not (same_pair p q a b))

  pub declare_paired : a ≢ b → Paired n (declare C a b)
  unfolding declare
  declare_paired d = record {
    table = put_table w.table (min a b) (max a b) lower (omega arith);
    ascending = λ p q m.
        elim (either (member q (at C p)) (eqb p (min a b) && eqb q (max a b)) (subst T (put_test w.table (min a b) (max a b) lower p q) m)) [
          | inl x ↦ w.ascending p q x
          | inr x ↦ (let (y, z) = both (eqb p (min a b)) (eqb q (max a b)) x in let e : p ≡ min a b = test_equal y in let f : q ≡ max a b = test_equal z in omega (arith, d))
        ];
  }

  pub lift_paired : Paired n (lift C a b)
  unfolding lift
  lift_paired = record {
    table = take_out_table w.table (min a b) (max a b) lower;
    ascending = λ p q m. w.ascending p q (both (member q (at C p)) (not (eqb p (min a b) && eqb q (max a b))) (subst T (take_out_test w.table (min a b) (max a b) lower p q) m)).0;
  }

-- Both numbers of a pair are below the count.
pub conflict-lt : {n : ℕ} {C : List ℕ} → Paired n C → (p q : ℕ) → T (conflict C p q) → q < n
conflict-lt {n} {C} w p q t = member-lt n q (at C p) (w.table.entry_lt p) (conflict_parts C p q t).1

-- A declared pair is a conflict of the one and the other, in one order.
pub declared-parts : (C : List ℕ) (p q : ℕ) → T (declared C p q) → T (conflict C p q) ⊎ T (conflict C q p)
unfolding declared
declared-parts C p q t =
    elim (sorted p q) [
      | inl (x, y) ↦ inl (subst (λ (i : ℕ). T (conflict C i q)) x (subst (λ (i : ℕ). T (conflict C (min p q) i)) y t))
      | inr (x, y) ↦ inr (subst (λ (i : ℕ). T (conflict C i p)) x (subst (λ (i : ℕ). T (conflict C (min p q) i)) y t))
    ]
