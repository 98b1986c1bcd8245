-- An answer, or its code, with the block after it.
-- Assumes nothing.
use mathlib.Core.Path.{◌≡◌, ap, ◌∙◌}
use mathlib.Core.List.{List, ◌++◌}
use Prim.Native.Nat.{ℕ}
use lib.ListN.{drop}
use Rattle.seats.specs.Calls.{Answer}
use Rattle.sittings.specs.Sittings.{Sitting}
use Rattle.keeper.specs.Block.{block_length, words_of, holding, code_of}
use Rattle.keeper.specs.Exports.{left, given}

-- An answer, and the words of the sitting beside it.
pub leaves : {X : List ℕ} (a : Answer) (z : Sitting) {r : Answer × Sitting} → X ≡ words_of z → (a, z) ≡ r → ◌≡◌ {A = Answer × List ℕ} (a, X) (left r)
unfolding left
leaves a z p e = ap (λ (Y : List ℕ). (a, Y)) p ∙ ap left e

-- The answer's code, and the block with these words in the place of its first.
pub coded : (W : List ℕ) {X : List ℕ} {v : ℕ} {a : Answer} (r : Answer × Sitting) → v ≡ code_of a → (a, X) ≡ left r → ◌≡◌ {A = ℕ × List ℕ} (v, X ++ drop block_length W) (given W r)
unfolding left given holding
coded W {X = X} r p e = ap (λ (n : ℕ). (n, X ++ drop block_length W)) p ∙ ap (λ (y : Answer × List ℕ). (code_of y.0, y.1 ++ drop block_length W)) e

pub gives : (W : List ℕ) {v : ℕ} {X : List ℕ} (a : Answer) (z : Sitting) {r : Answer × Sitting} → v ≡ code_of a → X ≡ words_of z → (a, z) ≡ r → ◌≡◌ {A = ℕ × List ℕ} (v, X ++ drop block_length W) (given W r)
gives W a z {r = r} p q e = coded W r p (leaves a z q e)
