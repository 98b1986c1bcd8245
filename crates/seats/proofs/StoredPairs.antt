-- Conflicts as entries and as a table: what is stored is listed again, and what is listed is stored again.
-- Assumes nothing.
use mathlib.Core.Path.{◌≡◌, refl, sym, ap, ◌∙◌, subst, subst₂}
use mathlib.Core.Bool.{Bool, ◌&&◌, ◌||◌, or-false, or_assoc}
use mathlib.Core.Logic.{inl, inr}
use mathlib.Core.List.{List, [], ◌∷◌}
use Prim.Native.Nat.{ℕ, ◌+◌, ◌*◌, ◌/◌, ◌%◌, ◌<◌}
use native.Mathlib.Omega.{arith}
use lib.ListN.{replicate}
use lib.Dec.{T, eqb, eqb_refl, ltb, ltb→lt, lt→ltb, lit<}
use Rattle.sets.specs.Sets.{empty, member}
use Rattle.sets.proofs.Tests.{both, join, either, or_right, same_test, equal_test, test_equal}
use Rattle.sets.proofs.Laws.{extensional, member-lt}
use Rattle.sets.proofs.Members.{in_empty}
use Rattle.graph.specs.Tables.{at}
use Rattle.graph.specs.Graph.{privilege_count}
use Rattle.graph.proofs.Tables.{at-replicate, put_test, put_table, table_ext}
use Rattle.graph.specs.Conflicts.{conflict}
use Rattle.graph.specs.Invariants.{Table, Paired}
use Rattle.seats.specs.Images.{Entry, listed_from, stored_pairs, some, pair_place}
use Rattle.seats.proofs.EntryBytes.{Each, each_map, each_zip}
use Rattle.seats.proofs.AscendingEntries.{Rising, rising_by, some-one, some-map, each_some, each_listed, listed_there, relisted}

-- ---- pairs put into a table
-- The entry is that of a and b.
abbrev pub pair_of : ℕ → ℕ → Entry → Bool
pair_of a b e = eqb a e.key && eqb b e.value

module _ {n w : ℕ} where
  pub pairs_table : (l : List Entry) {t : List ℕ} → Table n w t → Each (λ e. (e.key < n) × (e.value < w)) l → Table n w (stored_pairs l t)
  unfolding stored_pairs
  pairs_table [] v h = v
  pairs_table (e ∷ l) v h = pairs_table l (put_table v e.key e.value h.0.0 h.0.1) h.1

  -- The members after putting pairs are those of the pairs and the former ones.
  pub member_pairs : (a b : ℕ) (l : List Entry) {t : List ℕ} → Table n w t → Each (λ e. (e.key < n) × (e.value < w)) l → member b (at (stored_pairs l t) a) ≡ member b (at t a) || some (pair_of a b) l
  unfolding stored_pairs some
  member_pairs a b [] {t} v h = sym (or-false (member b (at t a)))
  member_pairs a b (e ∷ l) {t} v h =
      member_pairs a b l (put_table v e.key e.value h.0.0 h.0.1) h.1
      ∙ ap (λ (c : Bool). c || some (pair_of a b) l) (put_test v e.key e.value h.0.0 a b)
      ∙ or_assoc (member b (at t a)) (pair_of a b e) (some (pair_of a b) l)

-- ---- conflicts
-- No conflict.
abbrev pub none : List ℕ
none = replicate privilege_count empty

-- A conflict is of two privileges, the lower first.
abbrev pub Pair : Entry → Type 0
Pair e = (e.key < e.value) × (e.value < privilege_count)

-- A pair's place among all pairs of two privileges, and the pair at a place.
abbrev pub pair_number : Entry → ℕ
pair_number e = privilege_count * e.key + e.value

abbrev pub pair_at : ℕ → Entry
pair_at k = record { key = k / privilege_count; value = k % privilege_count }

-- The test by which conflicts are listed.
abbrev pub has_pair : List ℕ → ℕ → Bool
has_pair C k = conflict C (k / privilege_count) (k % privilege_count)

module _ (l : List Entry) (h : Each Pair l) where
  small : Each (λ e. (e.key < privilege_count) × (e.value < privilege_count)) l
  small = each_map l (λ e p. let a = p.0 in let b = p.1 in (omega arith, b)) h

  none_table : Table privilege_count privilege_count none
  none_table = record { whole = refl; entry_lt = λ i. rw (at-replicate privilege_count i) (lit< tt) }

  -- A stored conflict is that of an entry.
  in_pairs : (a b : ℕ) → T (member b (at (stored_pairs l none) a)) → T (some (pair_of a b) l)
  in_pairs a b t =
      elim (either (member b (at none a)) (some (pair_of a b) l) (subst T (member_pairs a b l none_table small) t)) [
        | inl x ↦ absurd (in_empty b (subst (λ (v : ℕ). T (member b v)) (at-replicate privilege_count a) x))
        | inr y ↦ y
      ]

  pairs_in : (a b : ℕ) → T (some (pair_of a b) l) → T (member b (at (stored_pairs l none) a))
  pairs_in a b t = subst T (sym (member_pairs a b l none_table small)) (or_right (member b (at none a)) (some (pair_of a b) l) t)

  -- A conflict table made of entries.
  pub pairs_paired : Paired privilege_count (stored_pairs l none)
  pairs_paired = record {
    table = pairs_table l none_table small;
    ascending = λ p q t. (
        let z = some-one (pair_of p q) l (in_pairs p q t) h in
        let v = both (eqb p z.0.key) (eqb q z.0.value) z.1 in
        let a : p ≡ z.0.key = test_equal v.0 in
        let b : q ≡ z.0.value = test_equal v.1 in
        omega (arith, z.2.0));
  }

  -- Conflicts in order are what their own table lists.
  pub pairs_listed : Rising pair_place 0 l → listed_from 0 (privilege_count * privilege_count) (has_pair (stored_pairs l none)) pair_at ≡ l
  unfolding conflict pair_place
  pairs_listed r =
      relisted (has_pair (stored_pairs l none)) pair_at pair_number (λ i. omega arith) 0 (privilege_count * privilege_count) l
      (rising_by pair_place pair_number Pair (λ e f x y m. let a = x.1 in let b = y.1 in omega arith) l h r)
      (each_zip l listed h (each_some (λ e. pair_of e.key e.value) l (λ e. join (eqb e.key e.key) _ (eqb_refl e.key) (eqb_refl e.value))))
      (λ k a b t.
      some-map (pair_of (k / privilege_count) (k % privilege_count)) (λ e. eqb k (pair_number e)) l (each_map l (λ e p. same k e) h)
      (in_pairs (k / privilege_count) (k % privilege_count) (both (ltb (k / privilege_count) (k % privilege_count)) (member (k % privilege_count) (at (stored_pairs l none) (k / privilege_count))) t).1))
    where
      listed : (e : Entry) → Pair e → T (some (pair_of e.key e.value) l) → (pair_number e < privilege_count * privilege_count) × (pair_at (pair_number e) ≡ e) × T (has_pair (stored_pairs l none) (pair_number e))
      listed e p t =
          let a = p.0 in
          let b = p.1 in
          let d : pair_number e / privilege_count ≡ e.key = omega arith in
          let m : pair_number e % privilege_count ≡ e.value = omega arith in (
            omega arith,
            (λ i. record { key = d i; value = m i }),
            rw (d, m) (join (ltb e.key e.value) _ (lt→ltb e.key e.value a) (pairs_in e.key e.value t)),
          )

      same : (k : ℕ) (e : Entry) → T (pair_of (k / privilege_count) (k % privilege_count) e) → T (eqb k (pair_number e))
      same k e t =
          let v = both (eqb (k / privilege_count) e.key) (eqb (k % privilege_count) e.value) t in
          let a : k / privilege_count ≡ e.key = test_equal v.0 in
          let b : k % privilege_count ≡ e.value = test_equal v.1 in
          let z : k ≡ pair_number e = omega arith in
          equal_test z

-- The conflicts that a table lists make it again.
pub listed_pairs : (C : List ℕ) → Paired privilege_count C → stored_pairs (listed_from 0 (privilege_count * privilege_count) (has_pair C) pair_at) none ≡ C
unfolding conflict
listed_pairs C v =
    table_ext privilege_count (stored_pairs l none) C made.table.whole v.table.whole
    (λ a q. extensional privilege_count (at (stored_pairs l none) a) (at C a) (made.table.entry_lt a) (v.table.entry_lt a)
    (λ b k. same_test (member b (at (stored_pairs l none) a)) (member b (at C a)) (to a b) (back a b)))
  where
    l : List Entry
    l = listed_from 0 (privilege_count * privilege_count) (has_pair C) pair_at

    apart : (k : ℕ) → T (has_pair C k) → (k / privilege_count < k % privilege_count) × T (member (k % privilege_count) (at C (k / privilege_count)))
    apart k t =
        let v = both (ltb (k / privilege_count) (k % privilege_count)) (member (k % privilege_count) (at C (k / privilege_count))) t in
        (ltb→lt (k / privilege_count) (k % privilege_count) v.0, v.1)

    pairs : Each Pair l
    pairs = each_listed (has_pair C) pair_at Pair 0 (privilege_count * privilege_count) (λ k q t. ((apart k t).0, omega arith))

    made : Paired privilege_count (stored_pairs l none)
    made = pairs_paired l pairs

    to : (a b : ℕ) → T (member b (at (stored_pairs l none) a)) → T (member b (at C a))
    to a b t =
        let held : Each (λ e. T (member e.value (at C e.key))) l = each_listed (has_pair C) pair_at (λ e. T (member e.value (at C e.key))) 0 (privilege_count * privilege_count) (λ k q t. (apart k t).1) in
        let z = some-one (pair_of a b) l (in_pairs l pairs a b t) held in
        let v = both (eqb a z.0.key) (eqb b z.0.value) z.1 in
        subst₂ (λ (x y : ℕ). T (member y (at C x))) (sym (test_equal v.0)) (sym (test_equal v.1)) z.2

    back : (a b : ℕ) → T (member b (at C a)) → T (member b (at (stored_pairs l none) a))
    back a b t =
        let p = v.ascending a b t in
        let q = member-lt privilege_count b (at C a) (v.table.entry_lt a) t in
        let k = privilege_count * a + b in
        let d : k / privilege_count ≡ a = omega arith in
        let m : k % privilege_count ≡ b = omega arith in
        let has : T (has_pair C k) = rw (d, m) (join (ltb a b) (member b (at C a)) (lt→ltb a b p) t) in
        pairs_in l pairs a b
        (some-map (λ e. eqb k (pair_number e)) (pair_of a b) l (each_map l (λ e x. same a b q e x.1) pairs)
        (listed_there (has_pair C) pair_at pair_number (λ i. omega arith) 0 (privilege_count * privilege_count) k (omega arith) (omega arith) has))
      where
        same : (a b : ℕ) → b < privilege_count → (e : Entry) → e.value < privilege_count → T (eqb (privilege_count * a + b) (pair_number e)) → T (pair_of a b e)
        same a b q e x t =
            let z : privilege_count * a + b ≡ pair_number e = test_equal t in
            let u : a ≡ e.key = omega arith in
            let w : b ≡ e.value = omega arith in
            join (eqb a e.key) (eqb b e.value) (equal_test u) (equal_test w)
