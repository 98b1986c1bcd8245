-- `records::decoded_change` meets its contract: it is the call of the change.
-- Assumes nothing.
use Rattle.seats.specs.Reading.{read_call}
use Rattle.seats.proofs.records.decoded_change.Goals as goal

pub returns : goal.returns
unfolding read_call
returns c = c.formed.ensures
