-- Answers as the code gives them.
use Rattle.std.specs.Prelude.{Result}
use Rattle.graph.specs.declared.Refusal.{Refusal}
use Rattle.seats.specs.declared.Reply.{Reply}

-- An answer: accepted, an ask's yes or no, or a refusal.
abbrev pub Answer : Type 0
Answer = Result Reply Refusal
