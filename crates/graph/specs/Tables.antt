-- Tables: a list whose entry n belongs to the number n.
use Rattle.std.specs.Prelude.{List, [], ◌∷◌, ℕ, zero, suc, get_or, set}
use Rattle.sets.specs.Sets.{single, union, difference}

-- Entry n of a table; the empty set beyond its end.
unfoldable pub at : List ℕ → ℕ → ℕ
at l n = get_or l n 0

-- The table of f i for n numbers i, from i on.
unfoldable pub table_from : ℕ → ℕ → (ℕ → ℕ) → List ℕ
table_from i zero f = []
table_from i (suc n) f = f i ∷ table_from (suc i) n f

-- The table of f i for the numbers i below n.
unfoldable pub table : ℕ → (ℕ → ℕ) → List ℕ
table n f = table_from 0 n f

-- Member b put into entry a.
unfoldable pub put : List ℕ → ℕ → ℕ → List ℕ
put l a b = set l a (union (at l a) (single b))

-- Member b taken out of entry a.
unfoldable pub take_out : List ℕ → ℕ → ℕ → List ℕ
take_out l a b = set l a (difference (at l a) (single b))
