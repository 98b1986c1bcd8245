-- How many asks are answered yes, taken from the front two bytes at a time.
-- Assumes nothing.
use mathlib.Core.Path.{◌≡◌, refl}
use mathlib.Core.Bool.{Bool, true, false, cond}
use mathlib.Core.List.{List, [], ◌∷◌, ◌++◌}
use Prim.Native.Nat.{ℕ, ◌+◌, ◌<◌, ◌≤◌}
use native.Mathlib.Omega.{arith}
use lib.ListN.{length, get_or}
use mir.Val.{bool_byte}
use Rattle.std.specs.Prelude.{Result, Ok, Err}
use Rattle.std.specs.Result.{result_unwrap_or}
use Rattle.graph.specs.declared.Refusal.{Refusal}
use Rattle.seats.specs.Seats.{State}
use Rattle.seats.specs.Calls.{Answer}
use Rattle.seats.specs.Records.{step}
use Rattle.seats.specs.ListTheorem.{ask_record}
use Rattle.seats.specs.Asks.{is_yes, yes_count}
use Rattle.seats.specs.Reading.{read_asked}

-- 1 for a yes, 0 for any other answer.
abbrev pub counts : Answer → ℕ
counts a = cond (is_yes a) 1 0

-- The first two bytes are an ask before the rest.
pub yes_first : (s : State) (x rest : List ℕ) → length x ≡ 2 → yes_count s (x ++ rest) ≡ counts (step s (ask_record (get_or x 0 0) (get_or x 1 0))).0 + yes_count s rest
unfolding yes_count
yes_first s [] rest e = absurd (omega arith)
yes_first s (a ∷ []) rest e = absurd (omega arith)
yes_first s (a ∷ b ∷ []) rest e = refl
yes_first s (a ∷ b ∷ c ∷ x) rest e = absurd (omega arith)

-- Fewer than two bytes ask nothing.
pub yes_none : (s : State) (l : List ℕ) → length l < 2 → yes_count s l ≡ 0
unfolding yes_count
yes_none s [] h = refl
yes_none s (a ∷ []) h = refl
yes_none s (a ∷ b ∷ l) h = absurd (omega arith)

-- An ask that is answered yes counts 1, and any other 0.
pub yes_byte : (r : Result Bool Refusal) → bool_byte (result_unwrap_or r false) ≡ counts (read_asked r)
unfolding is_yes read_asked
yes_byte (Ok true) = refl
yes_byte (Ok false) = refl
yes_byte (Err f) = refl

pub counts_most : (a : Answer) → counts a ≤ 1
counts_most a = go (is_yes a)
  where
    go : (b : Bool) → cond b 1 0 ≤ 1
    go true = omega arith
    go false = omega arith
