-- `sittings::reaching::still_reached` meets its contract: the roles that are reached are collected.
-- Assumes nothing.
use borrow.Author.Rules.{rules}
use mathlib.Core.Path.{refl}
use Prim.Native.Nat.{ℕ}
use Rattle.sets.proofs.Walking.{collected_members}
use Rattle.graph.specs.Reading.{drawn}
use Rattle.sittings.specs.Sittings.{reaches}
use Rattle.sittings.proofs.reaching.still_reached.Goals as goal

pub returns : goal.returns
returns c =
    let a = c.args in
    collected_members c.members.ensures (λ (s : ℕ). s) refl (reaches (drawn a.graph) a.held) _ c.fold.ensures.ran (λ b n d q k. search rules)
