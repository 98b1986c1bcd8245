-- Document 02, Item 1, on the bench graph: what a withdrawal is refused with.
-- Assumes nothing.
use mathlib.Core.Path.{◌≡◌, refl}
use mathlib.Core.List.{[], ◌∷◌}
use Rattle.seats.specs.Calls.{accepted, refused}
use Rattle.seats.specs.Lists.{answers, end}
use Rattle.seats.specs.Computes.{computes}
use Rattle.seats.proofs.Examples.{plain, A, spelled_out}

-- 31 for what the role has through a junior, 23 for what it does not hold at all, neither for what is direct until it is withdrawn.
withdrawals : answers A (plain 5 5 1 ∷ plain 5 5 12 ∷ plain 5 8 9 ∷ plain 5 8 9 ∷ []) ≡ refused 31 5 ∷ refused 23 5 ∷ accepted ∷ refused 23 8 ∷ []
unfolding computes spelled_out
withdrawals = refl

-- Either refusal leaves the state.
withdrawals_leave : end A (plain 5 5 1 ∷ plain 5 5 12 ∷ []) ≡ A
unfolding computes spelled_out
withdrawals_leave = refl

-- 2, 3 and 21 come before them.
withdrawals_in_order : answers A (plain 5 5 64 ∷ plain 5 1 1 ∷ plain 5 20 1 ∷ []) ≡ refused 2 64 ∷ refused 3 1 ∷ refused 21 20 ∷ []
unfolding computes spelled_out
withdrawals_in_order = refl

-- Kinds 7, 9 and 11 keep 23.
others_keep_23 : answers A (plain 7 2 8 ∷ plain 9 1 2 ∷ plain 11 9 4 ∷ []) ≡ refused 23 2 ∷ refused 23 1 ∷ refused 23 9 ∷ []
unfolding computes spelled_out
others_keep_23 = refl
