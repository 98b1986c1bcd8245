-- `seats::endian::number` meets its contract: the bytes with zeros behind them make a word.
-- Assumes nothing.
use lib.ListN.{length}
use mathlib.Core.Path.{◌≡◌, ◌∙◌}
use Rattle.seats.specs.Bytes.{number_at}
use Rattle.seats.proofs.Numbers.{places_bytes, number_lt}
use Rattle.seats.proofs.ShortNumbers.{number_padded}
use Rattle.seats.proofs.endian.number.Goals as goal

pub returns : goal.returns
returns c =
    let l = c.args.bytes.now in
    let n : c.from_le_bytes.result ≡ number_at (length l) 0 l = c.from_le_bytes.ensures ∙ rw c.copy_from_slice.ensures.after (number_padded l c.requires) in
    (n, rw n (number_lt (length l) 0 l (places_bytes l (λ j. (c.type_inv.bytes j).fits))))
