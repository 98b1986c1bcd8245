use mathlib.Core.Path.{◌≡◌}
use Prim.Native.Nat.{ℕ, ◌≤◌}
use Rattle.graph.specs.Tables.{at}
use Rattle.graph.proofs.Loops.{Filled}
use Rattle.sittings.specs.Working.{reached_by, joined_at}
use Rattle.sittings.proofs.reaching.all_reached.Given as goal

abbrev pub invariant-loop-i : goal.invariant-loop-i
invariant-loop-i l = Filled (λ i. reached_by l.lower (at (joined_at l.held l.added.at l.added.set) i)) l.i l.all × ((j : ℕ) → l.i ≤ j → at l.all j ≡ 0)
