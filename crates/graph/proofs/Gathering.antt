-- The laws of gathering down the juniors: where a height rises from junior to senior, it gives the one solution of the paper's equation.
-- Assumes nothing.
use mathlib.Core.Path.{◌≡◌, refl, sym, ap, ap₂, ◌∙◌}
use mathlib.Core.Bool.{Bool, true}
use Prim.Native.Nat.{ℕ, zero, suc, ◌<◌, ◌^◌}
use native.Mathlib.Nat.{not-suc-le-zero}
use native.Mathlib.Omega.{arith}
use lib.Pow.{pow_pos}
use lib.Dec.{T, ltb, ltb→lt, lt→ltb}
use Rattle.sets.specs.Counting.{count}
use Rattle.sets.specs.Sets.{union, gather}
use Rattle.sets.proofs.Counting.{count-lt, count_all}
use Rattle.sets.proofs.Laws.{gather_cong, gather-lt, union-lt}
use Rattle.graph.specs.Graph.{role_count, privilege_count}
use Rattle.graph.specs.Closing.{gathered}

-- Equal direct sets and equal juniors gather the same.
pub gathered_cong : (D F : ℕ → ℕ) (E G : ℕ → ℕ → Bool) → ((r : ℕ) → r < role_count → D r ≡ F r) → ((t r : ℕ) → t < role_count → r < role_count → E t r ≡ G t r)
    → (k r : ℕ) → r < role_count → gathered D E k r ≡ gathered F G k r
unfolding gathered
gathered_cong D F E G p q zero r l = refl
gathered_cong D F E G p q (suc k) r l =
    ap₂ union (p r l)
    (gather_cong role_count (λ t. E t r) (λ t. G t r) (gathered D E k) (gathered F G k) (λ t h. q t r h l) (λ t h u. gathered_cong D F E G p q k t h))

pub gathered-lt : (D : ℕ → ℕ) (E : ℕ → ℕ → Bool) → ((r : ℕ) → D r < 2 ^ privilege_count) → (k r : ℕ) → gathered D E k r < 2 ^ privilege_count
unfolding gathered
gathered-lt D E h zero r = pow_pos privilege_count
gathered-lt D E h (suc k) r = union-lt privilege_count _ _ (h r) (gather-lt privilege_count role_count _ _ (λ i _. gathered-lt D E h k i))

-- ---- the equation and its one solution, where a height rises from junior to senior
module _ (D : ℕ → ℕ) (E : ℕ → ℕ → Bool) (height : ℕ → ℕ) (falls : (t r : ℕ) → t < role_count → r < role_count → T (E t r) → height t < height r) where
  -- Any height makes one below role-count: how many roles are lower.
  level : ℕ → ℕ
  level r = count role_count (λ t. ltb (height t) (height r))

  not_lower : (r : ℕ) → T (ltb (height r) (height r)) → ⊥
  not_lower r t = let l = ltb→lt (height r) (height r) t in omega arith

  level_falls : (t r : ℕ) → t < role_count → r < role_count → T (E t r) → level t < level r
  unfolding level
  level_falls t r h l u =
      let f = falls t r h l u in
      count-lt role_count (λ i. ltb (height i) (height t)) (λ i. ltb (height i) (height r))
      (λ i _ x. lt→ltb (height i) (height r) (let y = ltb→lt (height i) (height t) x in omega arith)) t h (lt→ltb (height t) (height r) f) (not_lower t)

  level_bound : (r : ℕ) → r < role_count → level r < role_count
  unfolding level
  level_bound r l =
      omega (arith, count-lt role_count (λ i. ltb (height i) (height r)) (λ i. true) (λ i _ x. tt) r l tt (not_lower r), count_all role_count)

  -- One more round changes nothing.
  stable : (k r : ℕ) → r < role_count → level r < k → gathered D E (suc k) r ≡ gathered D E k r
  unfolding gathered
  stable zero r h l = absurd (not-suc-le-zero l)
  stable (suc k) r h l =
      ap (union (D r))
      (gather_cong role_count (λ t. E t r) (λ t. E t r) (gathered D E (suc k)) (gathered D E k) (λ i _. refl) (λ t b u. stable k t b (omega (arith, level_falls t r b h u))))

  pub equation : (r : ℕ) → r < role_count → gathered D E role_count r ≡ union (D r) (gather role_count (λ t. E t r) (gathered D E role_count))
  unfolding gathered
  equation r h = sym (stable role_count r h (level_bound r h))

  module _ (F : ℕ → ℕ) (solves : (r : ℕ) → r < role_count → F r ≡ union (D r) (gather role_count (λ t. E t r) F)) where
    unique_at : (k r : ℕ) → r < role_count → level r < k → gathered D E k r ≡ F r
    unfolding gathered
    unique_at zero r h l = absurd (not-suc-le-zero l)
    unique_at (suc k) r h l =
        ap (union (D r))
        (gather_cong role_count (λ t. E t r) (λ t. E t r) (gathered D E k) F (λ i _. refl) (λ t b u. unique_at k t b (omega (arith, level_falls t r b h u))))
        ∙ sym (solves r h)

    pub unique : (r : ℕ) → r < role_count → gathered D E role_count r ≡ F r
    unique r h = unique_at role_count r h (level_bound r h)
