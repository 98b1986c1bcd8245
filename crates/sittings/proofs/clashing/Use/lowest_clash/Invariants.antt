use mathlib.Core.Path.{◌≡◌}
use mathlib.Core.Bool.{Bool, false}
use mathlib.Core.List.{List}
use Prim.Native.Nat.{ℕ, ◌<◌}
use Rattle.graph.specs.Tables.{at}
use Rattle.sittings.specs.Working.{joined_at, meets_by}
use Rattle.sittings.proofs.clashing.Use.lowest_clash.Given as goal

-- Row p has a role together with p, where these roles are added to row n.
abbrev pub clashes : List ℕ → List ℕ → List ℕ → ℕ → ℕ → ℕ → Bool
clashes lower used pairs n added p = meets_by lower used p (at (joined_at pairs n added) p)

abbrev pub invariant-loop-p : goal.invariant-loop-p
invariant-loop-p l = (j : ℕ) → j < l.p → clashes l.self.lower.now l.self.used.now l.pairs l.added.at l.added.set j ≡ false
