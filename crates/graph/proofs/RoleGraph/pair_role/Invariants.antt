use mathlib.Core.Bool.{Bool, ◌&&◌}
use mathlib.Core.List.{List}
use mathlib.Core.Path.{◌≡◌}
use Prim.Native.Nat.{ℕ}
use Rattle.std.specs.List.{find}
use Rattle.std.specs.Prelude.{Option, None}
use Rattle.sets.specs.Counting.{any}
use Rattle.sets.specs.Sets.{member}
use Rattle.graph.specs.Tables.{at}
use Rattle.graph.specs.Graph.{privilege_count}
use Rattle.graph.specs.Conflicts.{conflict, holds_pair}
use Rattle.graph.specs.Reading.{read_set, sets_in}
use Rattle.graph.proofs.RoleGraph.pair_role.Given as goal

-- The set of r holds a declared pair.
abbrev pub pair_at : List ℕ → List ℕ → ℕ → Bool
pair_at sets conflicts r = holds_pair (sets_in conflicts) (at (sets_in sets) r)

-- The set s holds a privilege that p is in conflict with as the lower of the two.
abbrev pub partner_in : List ℕ → ℕ → ℕ → Bool
partner_in conflicts s p = any privilege_count (λ q. member q s && conflict (sets_in conflicts) p q)

-- Nothing is found yet, and none of the numbers seen passes.
abbrev pub NoneYet : Option ℕ → (ℕ → Bool) → List ℕ → Type 0
NoneYet found test xs = (found ≡ None) × (find test xs ≡ None)

abbrev pub invariant-loop-p : goal.invariant-loop-p
invariant-loop-p l = NoneYet l.found (partner_in l.conflicts (read_set l.own)) l.yielded

abbrev pub invariant-roles : goal.invariant-roles
invariant-roles l = NoneYet l.found (pair_at l.self.sets.now l.conflicts) l.yielded
