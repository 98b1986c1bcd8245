-- How many numbers lie below a number: the count rises along a strict order, and is below n.
-- Assumes nothing.
use mathlib.Core.Bool.{Bool}
use Prim.Native.Nat.{ℕ, ◌<◌, ◌≤◌}
use lib.Dec.{T}
use Rattle.sets.specs.Counting.{count}
use Rattle.sets.proofs.Counting.{count-lt, count_bound}
use Rattle.order.specs.Paths.{StrictOrder}

-- How many numbers below n are below r in the order.
unfoldable pub rank : ℕ → (ℕ → ℕ → Bool) → ℕ → ℕ
rank n below r = count n (λ t. below t r)

pub rank_le : (n : ℕ) (below : ℕ → ℕ → Bool) (r : ℕ) → rank n below r ≤ n
unfolding rank
rank_le n below r = count_bound n (λ t. below t r)

module _ (n : ℕ) (present : ℕ → Bool) (below : ℕ → ℕ → Bool) (o : StrictOrder n present below) where
  pub rank_lt : (r s : ℕ) → T (below r s) → rank n below r < rank n below s
  unfolding rank
  rank_lt r s t =
      count-lt n (λ i. below i r) (λ i. below i s) (λ i l x. o.transitive i r s x t) r (o.bounded r (o.between_present r s t).0) t (o.irreflexive r)
