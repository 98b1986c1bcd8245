-- `sittings::records::chosen` meets its contract: the choice is a call.
-- Assumes nothing.
use Rattle.sittings.specs.Reading.{read_call}
use Rattle.sittings.proofs.records.chosen.Goals as goal

pub returns : goal.returns
unfolding read_call
returns c = c.formed.ensures
