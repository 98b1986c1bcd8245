-- `records::decoded_request` meets its contract: it is the call of the request.
-- Assumes nothing.
use Rattle.seats.specs.Reading.{read_call}
use Rattle.seats.proofs.records.decoded_request.Goals as goal

pub returns : goal.returns
unfolding read_call
returns c = c.formed.ensures
