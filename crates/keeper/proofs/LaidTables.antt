-- Tables one behind the other in a list of words: cut out by their sizes, laid out again, and one of them written over.
-- Assumes nothing.
use mathlib.Core.Path.{◌≡◌, refl, sym, ap, ap₂, ◌∙◌}
use mathlib.Core.Bool.{Bool, true, ◌&&◌}
use mathlib.Core.List.{List, [], ◌∷◌, ◌++◌, map, append_assoc}
use Prim.Native.Nat.{ℕ, zero, suc, ◌+◌, ◌≤◌}
use native.Mathlib.Omega.{arith}
use borrow.Rule.Slice.PartMut.{put_mid}
use lib.ListN.{length, take, drop, set, length-append, length-drop, take-append-drop}
use lib.Seq.{take_at, drop_at, length-take-le, drop-drop}
use lib.Dec.{T, leb, eqb, leb→le}
use Rattle.std.proofs.lemmas.List.{drop-take}
use Rattle.std.proofs.lemmas.Slice.{take-put_mid_below, drop-put_mid}
use Rattle.sets.proofs.Tests.{both, test_equal}

-- The tables of these sizes from word i on.
unfoldable pub cut : List ℕ → ℕ → List ℕ → List (List ℕ)
cut [] i X = []
cut (n ∷ l) i X = take n (drop i X) ∷ cut l (i + n) X

-- The word behind them.
unfoldable pub past : List ℕ → ℕ → ℕ
past [] i = i
past (n ∷ l) i = past l (i + n)

-- Tables one behind the other, and behind them the words D.
unfoldable pub laid : List (List ℕ) → List ℕ → List ℕ
laid [] D = D
laid (t ∷ l) D = t ++ laid l D

-- A list is its tables, and what stands behind them.
pub laid_cut : (l : List ℕ) (i : ℕ) (X : List ℕ) → drop i X ≡ laid (cut l i X) (drop (past l i) X)
unfolding cut past laid
laid_cut [] i X = refl
laid_cut (n ∷ l) i X =
    sym (take-append-drop n (drop i X)) ∙ ap (λ (k : List ℕ). take n (drop i X) ++ k) (drop-drop n i X ∙ laid_cut l (i + n) X)

-- Of laid tables the same are cut out.
pub cut_laid : (F : List ℕ) (m : List (List ℕ)) (D : List ℕ) {i : ℕ} → length F ≡ i → cut (map length m) i (F ++ laid m D) ≡ m
unfolding cut laid
cut_laid F [] D e = refl
cut_laid F (t ∷ m) D {i} e =
    ap₂ (λ (a : List ℕ) (k : List (List ℕ)). a ∷ k) (ap (take (length t)) (drop_at F (t ++ laid m D) i e) ∙ take_at t (laid m D) (length t) refl)
    (rw (sym (append_assoc F t (laid m D))) (cut_laid (F ++ t) m D (length-append F t ∙ ap (λ (k : ℕ). k + length t) e)))

-- What stands behind laid tables.
pub drop_laid : (F : List ℕ) (m : List (List ℕ)) (D : List ℕ) {i : ℕ} → length F ≡ i → drop (past (map length m) i) (F ++ laid m D) ≡ D
unfolding past laid
drop_laid F [] D {i} e = drop_at F D i e
drop_laid F (t ∷ m) D e = rw (sym (append_assoc F t (laid m D))) (drop_laid (F ++ t) m D (length-append F t ∙ ap (λ (k : ℕ). k + length t) e))

-- ---- one table written over

-- Table k, of those from word i on, starts at word a and has n words.
unfoldable pub stands : ℕ → ℕ → List ℕ → ℕ → ℕ → Bool
stands a n [] i k = true
stands a n (m ∷ l) i zero = eqb i a && eqb m n
stands a n (m ∷ l) i (suc k) = leb (i + m) a && stands a n l (i + m) k

-- The n words from word a on are written over by as many others.
module _ (X t : List ℕ) (a n : ℕ) (same : length t ≡ length (take n (drop a X))) (room : a + n ≤ length X) where
  as_many : length t ≡ n
  as_many = same ∙ length-take-le n (drop a X) (simp length-drop (omega arith))

  before_stays : (i m : ℕ) → i + m ≤ a → take m (drop i (put_mid a n X t)) ≡ take m (drop i X)
  before_stays i m h = sym (drop-take i m (put_mid a n X t)) ∙ ap (drop i) (take-put_mid_below a n X t (i + m) h (omega arith)) ∙ drop-take i m X

  own_table : take n (drop a (put_mid a n X t)) ≡ t
  own_table = ap (take n) (drop_at (take a X) (t ++ drop n (drop a X)) a (length-take-le a X (omega arith))) ∙ take_at t (drop n (drop a X)) n as_many

  -- Tables behind it stay.
  cut_behind : (l : List ℕ) (i : ℕ) → a + n ≤ i → cut l i (put_mid a n X t) ≡ cut l i X
  unfolding cut
  cut_behind [] i h = refl
  cut_behind (m ∷ l) i h = ap₂ (λ (x : List ℕ) (k : List (List ℕ)). x ∷ k) (ap (take m) (drop-put_mid a n X t i h (omega arith) as_many)) (cut_behind l (i + m) (omega arith))

  -- One table is what is written, and the others stay.
  pub cut_put : (l : List ℕ) (i k : ℕ) → T (stands a n l i k) → cut l i (put_mid a n X t) ≡ set (cut l i X) k t
  unfolding cut stands
  cut_put [] i k h = refl
  cut_put (m ∷ l) i zero h =
      let (p, q) = both (eqb i a) (eqb m n) h in
      let x : i ≡ a = test_equal p in
      let y : m ≡ n = test_equal q in
      ap₂ (λ (x : List ℕ) (k : List (List ℕ)). x ∷ k) (ap₂ (λ (j k : ℕ). take j (drop k (put_mid a n X t))) y x ∙ own_table) (cut_behind l (i + m) (omega arith))
  cut_put (m ∷ l) i (suc k) h =
      let (p, q) = both (leb (i + m) a) (stands a n l (i + m) k) h in
      ap₂ (λ (x : List ℕ) (k : List (List ℕ)). x ∷ k) (before_stays i m (leb→le (i + m) a p)) (cut_put l (i + m) k q)
