-- `graph::RoleGraph::included_in` meets its contract: the roles whose sets are strictly included are collected.
-- Assumes nothing.
use borrow.Author.Rules.{rules}
use mathlib.Core.Path.{refl}
use Prim.Native.Nat.{ℕ}
use Rattle.sets.specs.Sets.{strictly_included}
use Rattle.sets.proofs.Walking.{collected_members}
use Rattle.graph.specs.Tables.{at}
use Rattle.graph.specs.Reading.{read_set, sets_in}
use Rattle.graph.proofs.RoleGraph.included_in.Goals as goal

pub returns : goal.returns
returns c =
    let a = c.args in
    collected_members c.members.ensures (λ (s : ℕ). s) refl (λ r. strictly_included (at (sets_in a.self.sets.now) r) (read_set a.top)) _ c.fold.ensures.ran
    (λ b n d q k. search rules)
