-- `seats::answers::place_of_reply` meets its contract: a yes has the place 1.
-- Assumes nothing.
use mathlib.Core.Bool.{Bool, true, false}
use mathlib.Core.Path.{◌≡◌, refl, ◌∙◌}
use mir.Val.{bool_byte}
use Rattle.seats.specs.Calls.{answered}
use Rattle.seats.specs.Tape.{answer_place}
use Rattle.seats.specs.Reading.{read_answer}
use Rattle.seats.proofs.answers.place_of_reply.Goals as goal

-- A yes is the number 1, and a no 0.
yes : (b : Bool) → bool_byte b ≡ answer_place (answered b)
unfolding answer_place
yes true = refl
yes false = refl

pub returns-in-Accepted : goal.returns-in-Accepted
unfolding read_answer answer_place
returns-in-Accepted c = rw c.in-Accepted.is

pub returns-in-Answered : goal.returns-in-Answered
unfolding read_answer answer_place
returns-in-Answered c = rw c.in-Answered.is (c.from.ensures ∙ yes c.in-Answered.held)
