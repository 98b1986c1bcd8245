-- `seats::loading::far_back` meets its contract: the distance is a number of four bytes.
-- Assumes nothing.
use native.Mathlib.Omega.{arith}
use mathlib.Core.Path.{◌∙◌}
use Prim.Native.Nat.{◌-◌}
use lib.ListN.{length}
use Rattle.seats.specs.Images.{far_at, trailer_length}
use Rattle.seats.proofs.Numbers.{number_sliced}
use Rattle.seats.proofs.loading.far_back.Goals as goal

pub returns : goal.returns
unfolding far_at
returns c =
    let l = c.args.bytes.now in
    c.number.ensures.0 ∙ number_sliced 4 (length l - trailer_length) l (omega arith) (omega arith)
