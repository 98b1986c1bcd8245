-- `keeper::codes::ask_code` meets its contract: it is the code of the answer.
-- Assumes nothing.
use Rattle.seats.specs.Reading.{read_asked, read_answer}
use Rattle.keeper.proofs.codes.ask_code.Goals as goal

pub returns-in-Ok : goal.returns-in-Ok
unfolding read_asked read_answer
returns-in-Ok c = rw c.in-Ok.is c.code.ensures.0

pub returns-in-Err : goal.returns-in-Err
unfolding read_asked read_answer
returns-in-Err c = rw c.in-Err.is c.code-in-Err.ensures.0
