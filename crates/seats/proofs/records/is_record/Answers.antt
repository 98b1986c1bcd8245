-- `records::is_record` meets its contract: the number of bytes 3 to 7 is tested.
-- Assumes nothing.
use native.Mathlib.Omega.{arith}
use mathlib.Core.Path.{◌≡◌, refl, ◌∙◌}
use lib.ListN.{length}
use borrow.Author.Tests.{eq-eqb}
use Rattle.seats.specs.Bytes.{number_at}
use Rattle.seats.specs.Records.{record_length}
use Rattle.seats.proofs.Numbers.{number_sliced}
use Rattle.seats.proofs.records.is_record.Goals as goal

pub returns-then-bytes-eq-RECORD : goal.returns-then-bytes-eq-RECORD
returns-then-bytes-eq-RECORD c =
    let l = c.args.bytes.now in
    let long = c.if-bytes-eq-RECORD.true in
    let n : c.number.result ≡ number_at 5 3 l = c.number.ensures.0 ∙ number_sliced 5 3 l (omega arith) refl in
    rw (eq-eqb (length l) record_length long, n)
