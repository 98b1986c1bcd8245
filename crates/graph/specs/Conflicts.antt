-- Document 01, kinds 8 and 9 and refusals 29 and 30: unordered conflicts of two privileges. A conflict stands in the entry of its lower privilege.
use Rattle.std.specs.Prelude.{Bool, ◌&&◌, ◌||◌, List, ℕ, min, max, eqb, ltb}
use Rattle.sets.specs.Counting.{any}
use Rattle.sets.specs.Sets.{member}
use Rattle.graph.specs.Tables.{at, put, take_out}
use Rattle.graph.specs.Graph.{privilege_count}

-- The lower and the higher of two privileges are a declared conflict.
unfoldable pub conflict : List ℕ → ℕ → ℕ → Bool
conflict C lower higher = ltb lower higher && member higher (at C lower)

-- The unordered conflict of a and b is declared.
unfoldable pub declared : List ℕ → ℕ → ℕ → Bool
declared C a b = conflict C (min a b) (max a b)

-- The unordered pairs of p and q and of a and b are the same.
abbrev pub same_pair : ℕ → ℕ → ℕ → ℕ → Bool
same_pair p q a b = (eqb p a && eqb q b) || (eqb p b && eqb q a)

-- A set holds both a and b.
unfoldable pub holds_both : ℕ → ℕ → ℕ → Bool
holds_both a b s = member a s && member b s

-- A set holds both privileges of some declared conflict.
unfoldable pub holds_pair : List ℕ → ℕ → Bool
holds_pair C s = any privilege_count (λ p. member p s && any privilege_count (λ q. member q s && conflict C p q))

-- The conflicts with that of a and b declared.
unfoldable pub declare : List ℕ → ℕ → ℕ → List ℕ
declare C a b = put C (min a b) (max a b)

-- The conflicts with that of a and b lifted.
unfoldable pub lift : List ℕ → ℕ → ℕ → List ℕ
lift C a b = take_out C (min a b) (max a b)
