-- Tables that entries make: what is stored is listed again, and what is listed is stored again.
-- Assumes nothing.
use mathlib.Core.Path.{◌≡◌, refl, sym, ap, ap₂, ◌∙◌, subst}
use mathlib.Core.Bool.{Bool, not, ◌||◌}
use mathlib.Core.Logic.{◌≢◌, ◌⊎◌, inl, inr}
use mathlib.Core.List.{List, [], ◌∷◌}
use Prim.Native.Nat.{ℕ, zero, suc, ◌^◌, ◌<◌}
use native.Mathlib.Omega.{arith}
use lib.ListN.{length, set, length-set}
use lib.Seq.{get_or-set_same}
use lib.Dec.{T, eqb}
use lib.Pow.{pow_pos}
use Rattle.sets.specs.Sets.{empty, member, single}
use Rattle.sets.proofs.Tests.{decide, equal_test, test_equal}
use Rattle.sets.proofs.Laws.{member-empty, member-union, member-single, union-lt, single-lt}
use Rattle.graph.specs.Tables.{at}
use Rattle.graph.proofs.Tables.{table_ext}
use Rattle.seats.specs.Images.{Entry, listed_from, keys, stored, some}
use Rattle.seats.proofs.EntryBytes.{Each, each_map, each_zip}
use Rattle.seats.proofs.AscendingEntries.{valued, there, Rising, not_there, some-one, none_each, each_listed, rising_listed, listed_there, relisted}

-- ---- one entry of a table
-- The entry of a table is not the empty set.
abbrev pub filled : List ℕ → ℕ → Bool
filled t k = not (eqb (at t k) empty)

-- What holds of the new value and of the old one holds after a store.
pub set_holds : (P : ℕ → Type 0) (t : List ℕ) (i v k : ℕ) → (i ≡ k → P v) → P (at t k) → P (at (set t i v) k)
unfolding at
set_holds P [] i v k h p = p
set_holds P (x ∷ t) zero v zero h p = h refl
set_holds P (x ∷ t) zero v (suc k) h p = p
set_holds P (x ∷ t) (suc i) v zero h p = p
set_holds P (x ∷ t) (suc i) v (suc k) h p = set_holds P t i v k (λ q. h (ap suc q)) p

-- ---- values stored at their keys
pub length-stored : (l : List Entry) (t : List ℕ) → length (stored l t) ≡ length t
unfolding stored
length-stored [] t = refl
length-stored (e ∷ l) t = length-stored l (set t e.key e.value) ∙ length-set t e.key e.value

-- What holds of the values for place k and of what the table had there holds of what it has then.
pub stored_holds : (P : ℕ → Type 0) (k : ℕ) (l : List Entry) (t : List ℕ) → Each (λ e. e.key ≡ k → P e.value) l → P (at t k) → P (at (stored l t) k)
unfolding stored
stored_holds P k [] t h p = p
stored_holds P k (e ∷ l) t h p = stored_holds P k l (set t e.key e.value) h.1 (set_holds P t e.key e.value k h.0 p)

-- A place that no entry has keeps what it had.
pub stored_other : (k : ℕ) (l : List Entry) (t : List ℕ) → Each (λ e. e.key ≢ k) l → at (stored l t) k ≡ at t k
stored_other k l t h = stored_holds (λ v. v ≡ at t k) k l t (each_map l (λ e d q. absurd (d q)) h) refl

pub stored_absent : (k : ℕ) (l : List Entry) (t : List ℕ) → (T (there Entry.key k l) → ⊥) → at (stored l t) k ≡ at t k
stored_absent k l t n = stored_other k l t (each_map l (λ e f q. f (equal_test (sym q))) (none_each (λ e. eqb k e.key) l n))

-- Each value of an ascending list stands at its key.
pub stored_each : (low : ℕ) (l : List Entry) (t : List ℕ) → Rising Entry.key low l → Each (λ e. e.key < length t) l → Each (λ e. at (stored l t) e.key ≡ e.value) l
unfolding stored at
stored_each low [] t r h = tt
stored_each low (e ∷ l) t r h =
    let t' = set t e.key e.value in
    let z = length-set t e.key e.value in (
      stored_absent e.key l t' (not_there Entry.key e.key (suc e.key) l (omega arith) r.1)
          ∙ get_or-set_same t e.key e.value 0 h.0,
      stored_each (suc e.key) l t' r.1 (each_map l (λ x p. rw z p) h.1),
    )

-- An ascending list is what its own table lists.
pub stored-listed : (n : ℕ) (has : ℕ → Bool) (l : List Entry) (t : List ℕ) → length t ≡ n → Rising Entry.key 0 l → Each (λ e. (e.key < n) × T (has e.key)) l → ((k : ℕ) → T (has k) → T (there Entry.key k l)) → listed_from 0 n has (valued (at (stored l t))) ≡ l
stored-listed n has l t e r h f =
    relisted has (valued (at (stored l t))) Entry.key (λ i. refl) 0 n l r
    (each_zip l (λ x p q. (let z = p.0 in omega arith, ap (λ (v : ℕ). record { key = x.key; value = v }) q, p.1)) h
    (stored_each 0 l t r (each_map l (λ x p. rw e p.0) h)))
    (λ k a b. f k)

-- What a table lists makes it again, on a table that has what it has at the other places.
pub listed-stored : (n : ℕ) (has : ℕ → Bool) (x t : List ℕ) → length x ≡ n → length t ≡ n → ((k : ℕ) → (T (has k) → ⊥) → at t k ≡ at x k) → stored (listed_from 0 n has (valued (at x))) t ≡ x
unfolding at
listed-stored n has x t a b other =
    table_ext n (stored l t) x (length-stored l t ∙ b) a (λ k q. by_place k q (decide (has k)))
  where
    entry : ℕ → Entry
    entry = valued (at x)

    l : List Entry
    l = listed_from 0 n has entry

    by_place : (k : ℕ) → k < n → T (has k) ⊎ (T (has k) → ⊥) → at (stored l t) k ≡ at x k
    by_place k q (inl m) =
        let small : Each (λ e. e.key < length t) l = each_listed has entry (λ e. e.key < length t) 0 n (λ j p u. omega arith) in
        let same : Each (λ e. e.value ≡ at x e.key) l = each_listed has entry (λ e. e.value ≡ at x e.key) 0 n (λ j p u. refl) in
        let found = some-one (λ e. eqb k e.key) l (listed_there has entry Entry.key (λ i. refl) 0 n k (omega arith) (omega arith) m)
        (each_zip {R = λ e. at (stored l t) e.key ≡ at x e.key} l (λ e u v. u ∙ v) (stored_each 0 l t (rising_listed has entry Entry.key (λ i. refl) 0 n) small) same) in
        subst (λ (j : ℕ). at (stored l t) j ≡ at x j) (sym (test_equal found.1)) found.2
    by_place k q (inr f) =
        stored_other k l t (each_listed has entry (λ e. e.key ≢ k) 0 n (λ j p u v. f (subst (λ (i : ℕ). T (has i)) v u))) ∙ other k f

-- ---- keys as a set
pub member-keys : (k : ℕ) (l : List Entry) → member k (keys l) ≡ there Entry.key k l
unfolding keys some
member-keys k [] = member-empty k
member-keys k (e ∷ l) = member-union k (single e.key) (keys l) ∙ ap₂ ◌||◌ (member-single k e.key) (member-keys k l)

pub keys-lt : (w : ℕ) (l : List Entry) → Each (λ e. e.key < w) l → keys l < 2 ^ w
unfolding keys
keys-lt w [] h = pow_pos w
keys-lt w (e ∷ l) h = union-lt w (single e.key) (keys l) (single-lt w e.key h.0) (keys-lt w l h.1)
