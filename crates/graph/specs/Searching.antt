-- Document 01, places of refusals, "lowest such": what a search among numbers finds.
use Rattle.std.specs.Prelude.{Bool, cond, ℕ}
use Rattle.sets.specs.Counting.{any, lowest}

-- Nothing, or a number.
pub data Found : Type 0 where
  nothing : Found
  found : ℕ → Found

-- What a search below n finds: nothing where no number passes, and otherwise the lowest that does.
unfoldable pub lowest_found : ℕ → (ℕ → Bool) → Found
lowest_found n f = cond (any n f) (found (lowest n f)) nothing
