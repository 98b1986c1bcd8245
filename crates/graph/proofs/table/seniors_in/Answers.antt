-- `graph::table::seniors_in` meets its contract: the fold joins each role present that has the junior.
-- Assumes nothing.
use borrow.Author.Rules.{rules}
use mathlib.Core.Path.{refl}
use Prim.Native.Nat.{ℕ}
use Rattle.sets.specs.Sets.{member}
use Rattle.sets.proofs.Walking.{collected_members}
use Rattle.graph.specs.Tables.{at}
use Rattle.graph.proofs.table.seniors_in.Goals as goal

pub returns : goal.returns
returns c =
    collected_members c.members.ensures (λ (s : ℕ). s) refl (λ r. member c.args.a (at c.args.juniors.now r)) _ c.fold.ensures.ran (λ b n d q k. search rules)
