-- Document 01, "Closing and redrawing" and "Lists of calls": the edges drawn of an order, and paths along edges.
use Rattle.std.specs.Prelude.{Bool, not, ◌&&◌, ◌↔◌, ℕ, ◌<◌, T}
use Rattle.sets.specs.Counting.{any}

-- An edge is drawn from r to s where r is below s and no third number lies between.
unfoldable pub drawn : ℕ → (ℕ → ℕ → Bool) → ℕ → ℕ → Bool
drawn n below r s = below r s && not (any n (λ t. below r t && below t s))

-- One or more edges, each starting at the number where the one before ended.
pub data Path (Edge : ℕ → ℕ → Type 0) : ℕ → ℕ → Type 0 where
  last : {r s : ℕ} → Edge r s → Path Edge r s
  then : {r t s : ℕ} → Edge r t → Path Edge t s → Path Edge r s

-- A strict order on the numbers present, all of them below n.
pub record StrictOrder (n : ℕ) (present : ℕ → Bool) (below : ℕ → ℕ → Bool) : Type 0 where
  pub bounded : (r : ℕ) → T (present r) → r < n
  pub between_present : (r s : ℕ) → T (below r s) → T (present r) × T (present s)
  pub irreflexive : (r : ℕ) → T (below r r) → ⊥
  pub transitive : (r s t : ℕ) → T (below r s) → T (below s t) → T (below r t)

-- The edges run between numbers present.
abbrev pub Between : (ℕ → Bool) → (ℕ → ℕ → Type 0) → Type 0
Between present Edge = (r s : ℕ) → Edge r s → T (present r) × T (present s)

-- From any number present to any, one set of edges has a path exactly when the other has.
abbrev pub SamePaths : (ℕ → Bool) → (ℕ → ℕ → Type 0) → (ℕ → ℕ → Type 0) → Type 0
SamePaths present E F = (r s : ℕ) → T (present r) → T (present s) → Path E r s ↔ Path F r s
