-- Numbers written in a list, one behind the other: bytes in a lent buffer, words in a lent block.
use Rattle.std.specs.Prelude.{List, ◌≡◌, ℕ, ◌+◌, length}
use Rattle.std.proofs.lemmas.List.Edits.{sets}

-- The numbers w written at place i of the list `before` leave the list `after`, and `next` is the place behind them.
pub record Written (before : List ℕ) (i : ℕ) (w after : List ℕ) (next : ℕ) : Type 0 where
  pub list : after ≡ sets before i w
  pub place : next ≡ i + length w
