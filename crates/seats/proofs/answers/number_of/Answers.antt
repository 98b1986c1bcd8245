-- `seats::answers::number_of` meets its contract: a refusal has its number, and any other answer 0.
-- Assumes nothing.
use mathlib.Core.Path.{◌≡◌, refl}
use Rattle.std.specs.Prelude.{Ok}
use Rattle.seats.specs.Tape.{answer_number}
use Rattle.seats.specs.Reading.{read_answer}
use Rattle.seats.specs.declared.Reply.{Reply}
use Rattle.seats.specs.declared.Reply.TheVariants.{Accepted, Answered}
use Rattle.seats.proofs.answers.number_of.Goals as goal

-- What is not refused has the number 0.
none : (r : Reply) → 0 ≡ answer_number (read_answer (Ok r))
unfolding read_answer answer_number
none Accepted = refl
none (Answered b) = refl

pub returns-in-Ok : goal.returns-in-Ok
unfolding read_answer answer_number
returns-in-Ok c = rw c.in-Ok.is (none c.in-Ok.field-0)

pub returns-in-Err : goal.returns-in-Err
unfolding read_answer answer_number
returns-in-Err c = rw c.in-Err.is c.number.ensures
