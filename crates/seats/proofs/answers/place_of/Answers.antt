-- `seats::answers::place_of` meets its contract: a refusal has its place, and a reply its own.
-- Assumes nothing.
use Rattle.seats.specs.Tape.{answer_place}
use Rattle.seats.specs.Reading.{read_answer}
use Rattle.seats.proofs.answers.place_of.Goals as goal

pub returns-in-Ok : goal.returns-in-Ok
returns-in-Ok c = rw c.in-Ok.is c.place_of_reply.ensures

pub returns-in-Err : goal.returns-in-Err
unfolding read_answer answer_place
returns-in-Err c = rw c.in-Err.is
