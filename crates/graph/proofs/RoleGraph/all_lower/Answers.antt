-- `graph::RoleGraph::all_lower` meets its contract: the roles below each are gathered.
-- Assumes nothing.
use borrow.Author.Rules.{rules}
use mathlib.Core.Path.{refl}
use Prim.Native.Nat.{ℕ}
use Rattle.sets.proofs.Walking.{gathered_members}
use Rattle.graph.specs.Drawing.{roles_below}
use Rattle.graph.specs.Reading.{drawn}
use Rattle.graph.proofs.RoleGraph.all_lower.Goals as goal

pub returns : goal.returns
returns c = gathered_members c.members.ensures (λ (s : ℕ). s) refl (roles_below (drawn c.args.self)) _ c.fold.ensures.ran (λ b n d q k. search rules)
