-- Document 01, "Lists of calls": what a list of records makes of a state, and what its accepted calls say is present, declared and assigned.
use Rattle.std.specs.Prelude.{Bool, not, ◌&&◌, ◌||◌, List, ℕ, T, eqb}
use Rattle.lists.specs.Runs.{run, unrefused, trace}
use Rattle.graph.specs.Graph.{Graph}
use Rattle.graph.specs.Conflicts.{same_pair}
use Rattle.graph.specs.Drawing.{edge}
use Rattle.graph.specs.Editing.{Change, add_by_place, add_by_privileges, remove_role, grant, withdraw, add_edge, remove_edge}
use Rattle.seats.specs.Seats.{State}
use Rattle.seats.specs.Calls.{Call, change, declare, lift, assign, unassign, ask, Answer, is_refusal}
use Rattle.seats.specs.Records.{Decoded, malformed, well_formed, decode, step}

-- The answers to a list of records.
unfoldable pub answers : State → List (List ℕ) → List Answer
answers s l = (run step s l).0

-- The state that a list of records leaves.
unfoldable pub end : State → List (List ℕ) → State
end s l = (run step s l).1

-- The list without its refused calls.
unfoldable pub without_refused : State → List (List ℕ) → List (List ℕ)
without_refused s l = unrefused is_refusal l (answers s l)

-- An edge drawn in the graph.
abbrev pub Edge : Graph → ℕ → ℕ → Type 0
Edge g r s = T (edge g r s)

-- Role r is present from kind 1 or 2 until kind 3.
unfoldable pub presence_change : ℕ → Change → Bool → Bool
presence_change r (add_by_place a own juniors seniors) x = x || eqb r a
presence_change r (add_by_privileges a own) x = x || eqb r a
presence_change r (remove_role a b) x = x && not (eqb r a)
presence_change r (grant a b) x = x
presence_change r (withdraw a b) x = x
presence_change r (add_edge a b) x = x
presence_change r (remove_edge a b) x = x

unfoldable pub presence : ℕ → Call → Bool → Bool
presence r (change c) x = presence_change r c x
presence r (declare a b) x = x
presence r (lift a b) x = x
presence r (assign a b) x = x
presence r (unassign a b) x = x
presence r (ask a b) x = x

-- The conflict of p and q is declared from kind 8 until kind 9.
unfoldable pub declaration : ℕ → ℕ → Call → Bool → Bool
declaration p q (declare a b) x = x || same_pair p q a b
declaration p q (lift a b) x = x && not (same_pair p q a b)
declaration p q (change c) x = x
declaration p q (assign a b) x = x
declaration p q (unassign a b) x = x
declaration p q (ask a b) x = x

-- Role r is seat i's from kind 10 until kind 11.
unfoldable pub assignment : ℕ → ℕ → Call → Bool → Bool
assignment i r (assign a b) x = x || (eqb i a && eqb r b)
assignment i r (unassign a b) x = x && not (eqb i a && eqb r b)
assignment i r (change c) x = x
assignment i r (declare a b) x = x
assignment i r (lift a b) x = x
assignment i r (ask a b) x = x

-- What a record says of something, by the call that it decodes to.
unfoldable pub by_call : (Call → Bool → Bool) → Decoded → Bool → Bool
by_call say malformed x = x
by_call say (well_formed c) x = say c x

-- What the accepted records of a list, one after the other, make of what held at the start.
unfoldable pub history : (Call → Bool → Bool) → Bool → State → List (List ℕ) → Bool
history say x s l = trace (λ r. by_call say (decode r)) x (without_refused s l)
