-- Document 01, "The twelve calls" and both lists of refusals: the step from a state and a call to an answer and a state.
use Rattle.std.specs.Prelude.{Bool, true, false, not, List, [], ◌∷◌, ◌++◌, ℕ, leb}
use Rattle.lists.specs.Settling.{Judged}
use Rattle.lists.specs.Settling as settling
use Rattle.graph.specs.Tables.{put, take_out}
use Rattle.graph.specs.Graph.{Graph}
use Rattle.graph.specs.Conflicts as conflicts
use Rattle.graph.specs.Editing.{Change, add_by_place, add_by_privileges, remove_role, grant, withdraw, add_edge, remove_edge, changed}
use Rattle.graph.specs.Refusing.{Check, refuse, refuse_lowest, Verdict, passed, verdict, no_role_number, no_privilege_number, end_role, role_absent, input_checks, state_checks, still_below, closed_checks, declare_checks, lift_checks}
use Rattle.graph.specs.Refusing as refusing
use Rattle.seats.specs.Seats.{State, seat_count, assigned, may_use, pair_seat, offered_seat}

-- A call, with the fields that its kind names.
pub data Call : Type 0 where
  -- kinds 1 to 7
  change : Change → Call
  -- two privileges
  declare : ℕ → ℕ → Call
  lift : ℕ → ℕ → Call
  -- seat, role
  assign : ℕ → ℕ → Call
  unassign : ℕ → ℕ → Call
  -- seat, privilege
  ask : ℕ → ℕ → Call

-- An answer: accepted, an ask's yes or no, or a refusal with its number and place.
pub data Answer : Type 0 where
  accepted : Answer
  answered : Bool → Answer
  refused : ℕ → ℕ → Answer

-- 2: no seat has this number.
abbrev pub no_seat_number : ℕ → Check
no_seat_number a = refuse 2 (leb seat_count a) a

-- What refuses a seat and a role by their numbers and the roles present: 2, 3 and 21.
abbrev pub seat_role_checks : Graph → ℕ → ℕ → List Check
seat_role_checks g a b = no_seat_number a ∷ no_role_number b ∷ end_role b ∷ role_absent g b ∷ []

-- 24: kind 3, and some seat has role a.
unfoldable pub seat_checks : State → Change → List Check
seat_checks s (remove_role a b) = refuse_lowest 24 seat_count (λ i. assigned s i a) ∷ []
seat_checks s (add_by_place a own juniors seniors) = []
seat_checks s (add_by_privileges a own) = []
seat_checks s (grant a b) = []
seat_checks s (withdraw a b) = []
seat_checks s (add_edge a b) = []
seat_checks s (remove_edge a b) = []

-- The checks of a call in the order of refusals, h being the state that the call would leave.
unfoldable pub checks : State → Call → State → List Check
checks s (change c) h =
    input_checks c
    ++ (state_checks s.graph c
    ++ (seat_checks s c
    ++ (still_below h.graph c ++ (closed_checks h.graph ++ (refuse_lowest 30 seat_count (pair_seat h) ∷ [])))))
checks s (declare a b) h = declare_checks s.graph a b ++ (refuse_lowest 30 seat_count (offered_seat s a b) ∷ [])
checks s (lift a b) h = lift_checks s.graph a b
checks s (assign a b) h = seat_role_checks s.graph a b ++ (refuse 22 (assigned s a b) a ∷ refuse_lowest 30 seat_count (pair_seat h) ∷ [])
checks s (unassign a b) h = seat_role_checks s.graph a b ++ (refuse 23 (not (assigned s a b)) a ∷ [])
checks s (ask a b) h = no_seat_number a ∷ no_privilege_number b ∷ []

-- The state with another graph.
unfoldable pub with_graph : State → Graph → State
with_graph s g = record { graph = g; seats = s.seats }

-- The state with other conflicts.
unfoldable pub with_conflicts : State → List ℕ → State
with_conflicts s C = with_graph s (record { roles = s.graph.roles; sets = s.graph.sets; conflicts = C })

-- The state with other roles of seats.
unfoldable pub with_seats : State → List ℕ → State
with_seats s W = record { graph = s.graph; seats = W }

-- The state that a call leaves where nothing refuses it.
unfoldable pub after : State → Call → State
after s (change c) = with_graph s (changed s.graph c)
after s (declare a b) = with_conflicts s (conflicts.declare s.graph.conflicts a b)
after s (lift a b) = with_conflicts s (conflicts.lift s.graph.conflicts a b)
after s (assign a b) = with_seats s (put s.seats a b)
after s (unassign a b) = with_seats s (take_out s.seats a b)
after s (ask a b) = s

-- The answer to a call where nothing refuses it.
unfoldable pub reply : State → Call → Answer
reply s (change c) = accepted
reply s (declare a b) = accepted
reply s (lift a b) = accepted
reply s (assign a b) = accepted
reply s (unassign a b) = accepted
reply s (ask a b) = answered (may_use s a b)

-- A verdict by the answer that refuses, if one does.
unfoldable pub judged : Verdict → Judged Answer
judged passed = settling.passed
judged (refusing.refused n p) = settling.refused (refused n p)

-- A refusal leaves the state s as it was; without one the answer is a and the state h.
unfoldable pub settle : {S : Type 0} → Verdict → Answer → S → S → Answer × S
settle v a s h = settling.settle (judged v) a s h

-- One call.
unfoldable pub perform : State → Call → Answer × State
perform s c =
    let h = after s c in
    settle (verdict (checks s c h)) (reply s c) s h

-- The answer is a refusal.
unfoldable pub is_refusal : Answer → Bool
is_refusal accepted = false
is_refusal (answered b) = false
is_refusal (refused n p) = true
