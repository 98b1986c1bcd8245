-- Tables with more members in an entry, tests of some entry, and tables whose entries are all empty.
-- Assumes nothing.
use mathlib.Core.Path.{◌≡◌, refl, sym, ap, ap₂, ◌∙◌, subst}
use mathlib.Core.Bool.{Bool, true, false, ◌&&◌, ◌||◌, and-true, or-false, or_assoc}
use mathlib.Core.Logic.{◌≢◌}
use mathlib.Core.List.{List, [], ◌∷◌}
use Prim.Native.Nat.{ℕ, zero, suc, min, ◌<◌, ◌≤◌}
use native.Mathlib.Omega.{arith}
use native.Mathlib.Decide.{ℕ_discrete, dec_lt}
use borrow.Author.Tests.{lt-ltb, le-ltb, eq-eqb, ne_eqb}
use lib.Dec.{T, eqb, ltb}
use lib.ListN.{length, set, take, length-set}
use lib.Seq.{get_or-set_same, get_or-set_other, set_out, length-take-le, get_or-take}
use Rattle.std.specs.List.{list_any, fold}
use Rattle.sets.specs.Counting.{any}
use Rattle.sets.specs.Sets.{member, union, when}
use Rattle.sets.proofs.Tests.{both, join, same_test, test_equal, equal_test, and_regroup}
use Rattle.sets.proofs.Laws.{union-empty, equal_members, member-union, member-when}
use Rattle.sets.proofs.Members.{in_empty, union_left, union_right}
use Rattle.graph.specs.Tables.{at}
use Rattle.graph.proofs.Tables.{at_end, table_ext}
use Rattle.seats.specs.Records.{all_empty}
use Rattle.seats.proofs.Requests.{when-empty}
use Rattle.sittings.specs.Working.{joined_at}

-- ---- more members in an entry
-- An entry of the table, with what is joined to it where the table has entry n.
pub at-joined : (l : List ℕ) (n more i : ℕ) → at (joined_at l n more) i ≡ union (at l i) (when (eqb i n) (when (ltb n (length l)) more))
unfolding joined_at at when
at-joined l n more i = elim (ℕ_discrete i n) [ yes e ↦ rw e here | no d ↦ other d ]
  where
    s : ℕ
    s = union (at l n) more

    here : at (set l n s) n ≡ union (at l n) (when (eqb n n) (when (ltb n (length l)) more))
    here =
        elim (dec_lt n (length l)) [
          | yes h ↦ get_or-set_same l n s 0 h ∙ sym (rw (eq-eqb n n refl, lt-ltb n (length l) h))
          | no d ↦ ap (λ (t : List ℕ). at t n) (set_out l n s (omega arith)) ∙ sym (rw (eq-eqb n n refl, le-ltb n (length l) (omega arith)) (union-empty (at l n)))
        ]

    other : i ≢ n → at (set l n s) i ≡ union (at l i) (when (eqb i n) (when (ltb n (length l)) more))
    other d = get_or-set_other l n i s 0 d ∙ sym (rw (ne_eqb i n d) (union-empty (at l i)))

-- The same of an entry that is read and joined in two steps.
pub entry_joined : (l : List ℕ) (n more i : ℕ) {own kept added all : ℕ} → own ≡ at l i → kept ≡ when (ltb n (length l)) more → added ≡ when (eqb i n) kept → all ≡ union own added
    → all ≡ at (joined_at l n more) i
entry_joined l n more i a b c d = d ∙ ap₂ union a (c ∙ ap (when (eqb i n)) b) ∙ sym (at-joined l n more i)

-- The rows of a table, but for those from 64 on.
module _ (l : List ℕ) {k : ℕ} (e : k ≡ min (length l) 64) where
  row_count : length (take k l) ≡ k
  row_count = length-take-le k l (omega (arith, e))

  -- One of them is a row of the table, below 64.
  pub row_below : {i : ℕ} → i < length (take k l) → (i < length l) × (i < 64)
  row_below h = (omega (arith, e, h, row_count), omega (arith, e, h, row_count))

  -- It is read and joined in one step.
  pub row_joined : (n more i : ℕ) → i < length (take k l) → {added all : ℕ} → added ≡ when (eqb i n) more → all ≡ union (at (take k l) i) added → all ≡ at (joined_at l n more) i
  unfolding at when
  row_joined n more i h a b =
      b
      ∙ ap₂ union (get_or-take k l i 0 (omega (arith, h, row_count))) (a ∙ elim (ℕ_discrete i n) [ yes d ↦ here d | no d ↦ rw (ne_eqb i n d) refl ])
      ∙ sym (at-joined l n more i)
    where
      here : i ≡ n → when (eqb i n) more ≡ when (eqb i n) (when (ltb n (length l)) more)
      here d = rw (lt-ltb n (length l) (subst (λ (x : ℕ). x < length l) d (row_below h).0)) refl

  -- Behind them nothing is joined below 64.
  pub row_end : (n more i : ℕ) → length (take k l) ≤ i → i < 64 → at (joined_at l n more) i ≡ 0
  unfolding joined_at
  row_end n more i h b = at_end _ i (omega (arith, e, h, b, row_count, length-set l n (union (at l n) more)))

-- With nothing more the table is as it was.
pub joined_none : (l : List ℕ) (n : ℕ) → joined_at l n 0 ≡ l
unfolding joined_at
joined_none l n =
    table_ext (length l) (joined_at l n 0) l (length-set l n _) refl
    (λ i _. at-joined l n 0 i ∙ ap (union (at l i)) (ap (when (eqb i n)) (when-empty _) ∙ when-empty _) ∙ union-empty (at l i))

-- ---- some entry
-- Some number below n + 1 passes: 0 does, or one above it.
any_front : (n : ℕ) (h : ℕ → Bool) → any (suc n) h ≡ h 0 || any n (λ i. h (suc i))
unfolding any
any_front zero h = refl
any_front (suc n) h = ap (λ (b : Bool). h (suc n) || b) (any_front n h) ∙ turned (h (suc n)) (h 0) (any n (λ i. h (suc i)))
  where
    turned : (x y z : Bool) → x || (y || z) ≡ y || (x || z)
    turned true true z = refl
    turned true false z = refl
    turned false true z = refl
    turned false false z = refl

-- Some entry of a table passes a test.
pub any_entry : (f : ℕ → Bool) (l : List ℕ) → list_any f l ≡ any (length l) (λ i. f (at l i))
unfolding any at
any_entry f [] = refl
any_entry f (x ∷ l) = ap (λ (b : Bool). f x || b) (any_entry f l) ∙ sym (any_front (length l) (λ i. f (at (x ∷ l) i)))

-- What a set has, joined by the entries of a list that have p: what it has, and what shares an entry with p.
pub member_shared : (p q : ℕ) (l : List ℕ) (s : ℕ) → member q (fold (λ t own. union t (when (member p own) own)) s l) ≡ member q s || list_any (λ own. member p own && member q own) l
member_shared p q [] s = sym (or-false (member q s))
member_shared p q (x ∷ l) s =
    let rest = list_any (λ own. member p own && member q own) l in
    member_shared p q l (union s (when (member p x) x))
    ∙ ap (λ (b : Bool). b || rest) (member-union q s (when (member p x) x) ∙ ap (◌||◌ (member q s)) (member-when q (member p x) x))
    ∙ or_assoc (member q s) (member p x && member q x) rest

-- ---- empty entries
-- A union is empty where both its sets are.
union_none : (s t : ℕ) → eqb (union s t) 0 ≡ eqb s 0 && eqb t 0
union_none s t = same_test (eqb (union s t) 0) (eqb s 0 && eqb t 0) there back
  where
    none : (u : ℕ) → union s t ≡ 0 → ((p : ℕ) → T (member p u) → T (member p (union s t))) → u ≡ 0
    none u e f = equal_members u 0 (λ p. same_test _ _ (λ m. subst (λ (x : ℕ). T (member p x)) e (f p m)) (λ m. absurd (in_empty p m)))

    there : T (eqb (union s t) 0) → T (eqb s 0 && eqb t 0)
    there x =
        let e : union s t ≡ 0 = test_equal x in
        join (eqb s 0) (eqb t 0) (equal_test (none s e (λ p. union_left p s t))) (equal_test (none t e (λ p. union_right p s t)))

    back : T (eqb s 0 && eqb t 0) → T (eqb (union s t) 0)
    back x =
        let (a, b) = both (eqb s 0) (eqb t 0) x in
        equal_test (ap₂ union (test_equal a) (test_equal b) ∙ union-empty 0)

-- The union of all entries, joined to a set, is empty where the set and all of them are.
pub each_empty : (l : List ℕ) (s : ℕ) → eqb (fold union s l) 0 ≡ eqb s 0 && all_empty l
unfolding all_empty
each_empty [] s = sym (and-true (eqb s 0))
each_empty (x ∷ l) s = each_empty l (union s x) ∙ ap (λ (b : Bool). b && all_empty l) (union_none s x) ∙ sym (and_regroup (eqb s 0) (eqb x 0) (all_empty l))

-- A table that is empty throughout has nothing in any entry.
pub empty_entries : (l : List ℕ) → T (all_empty l) → (i : ℕ) → at l i ≡ 0
unfolding all_empty at
empty_entries [] t i = refl
empty_entries (x ∷ l) t zero = test_equal (both (eqb x 0) (all_empty l) t).0
empty_entries (x ∷ l) t (suc i) = empty_entries l (both (eqb x 0) (all_empty l) t).1 i

-- A table that is empty throughout stays so where nothing is joined to an entry.
pub joined-empty : (l : List ℕ) (n : ℕ) {more : ℕ} → T (all_empty l) → more ≡ 0 → T (all_empty (joined_at l n more))
joined-empty l n t e = subst (λ (m : List ℕ). T (all_empty m)) (sym (ap (joined_at l n) e ∙ joined_none l n)) t
