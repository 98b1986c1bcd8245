-- `keeper::codes::code` meets its contract: it is 256 times the answer's number, and its place.
-- Assumes nothing.
use mathlib.Core.Path.{ap₂, ◌∙◌}
use Prim.Native.Nat.{ℕ, ◌+◌, ◌*◌}
use native.Mathlib.Omega.{arith}
use Rattle.keeper.specs.Block.{code_of}
use Rattle.keeper.proofs.codes.code.Goals as goal

pub returns : goal.returns
unfolding code_of
returns c =
    (ap₂ (λ (n p : ℕ). 256 * n + p) (c.from.ensures ∙ c.number_of.ensures) (c.from-2.ensures ∙ c.place_of.ensures), omega arith)
