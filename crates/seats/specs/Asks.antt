-- Asks one after another: how many of them are answered yes.
use Rattle.std.specs.Prelude.{Bool, false, cond, List, [], ◌∷◌, ℕ, ◌+◌}
use Rattle.seats.specs.Seats.{State}
use Rattle.seats.specs.Calls.{Answer, accepted, answered, refused}
use Rattle.seats.specs.Records.{step}
use Rattle.seats.specs.ListTheorem.{ask_record}

-- The answer is yes.
unfoldable pub is_yes : Answer → Bool
is_yes accepted = false
is_yes (answered b) = b
is_yes (refused n p) = false

-- How many of these asks, two bytes each, a seat and a privilege, are answered yes; a byte left over asks nothing.
unfoldable pub yes_count : State → List ℕ → ℕ
yes_count s [] = 0
yes_count s (a ∷ []) = 0
yes_count s (a ∷ b ∷ l) = cond (is_yes (step s (ask_record a b)).0) 1 0 + yes_count s l
