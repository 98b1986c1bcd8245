-- The laws of tables of privilege sets held in words: how many entries they have, and the table without members.
-- Assumes nothing.
use mathlib.Core.Path.{◌≡◌}
use mathlib.Core.List.{List}
use Prim.Native.Nat.{ℕ}
use lib.ListN.{length}
use Rattle.graph.specs.Graph.{role_count}
use Rattle.graph.specs.Reading.{sets_in}

-- The words of a table for all roles hold a set for each role.
pub whole_sets : (l : List ℕ) → length l ≡ role_count → length (sets_in l) ≡ role_count
unfolding sets_in
whole_sets l e = e
