-- Document 01, "Lists of calls", with the calls of a sitting: what a list of records makes of a sitting, and what its accepted calls say is excluded and active.
use Rattle.std.specs.Prelude.{Bool, true, false, not, ◌&&◌, ◌||◌, List, ℕ, eqb}
use Rattle.lists.specs.Runs.{run, unrefused, trace, trace_in}
use Rattle.graph.specs.Conflicts.{same_pair}
use Rattle.graph.specs.Editing.{Change, add_by_place, add_by_privileges, remove_role, grant, withdraw, add_edge, remove_edge}
use Rattle.seats.specs.Seats.{State}
use Rattle.seats.specs.Calls.{Answer, is_refusal}
use Rattle.seats.specs.Calls as base
use Rattle.seats.specs.Records as base-records
use Rattle.sittings.specs.Sittings.{Sitting, covered}
use Rattle.sittings.specs.Calls.{Call, call, exclude, activate, deactivate}
use Rattle.sittings.specs.Records.{Decoded, malformed, well_formed, decode, step}

-- The answers to a list of records.
unfoldable pub answers : Sitting → List (List ℕ) → List Answer
answers z l = (run step z l).0

-- The sitting that a list of records leaves.
unfoldable pub end : Sitting → List (List ℕ) → Sitting
end z l = (run step z l).1

-- The list without its refused calls.
unfoldable pub without_refused : Sitting → List (List ℕ) → List (List ℕ)
without_refused z l = unrefused is_refusal l (answers z l)

-- A record of document 01's kinds.
unfoldable pub is_base : base-records.Decoded → Bool
is_base base-records.malformed = false
is_base (base-records.well_formed c) = true

-- What document 01's calls say of something; the others say nothing of it.
unfoldable pub lifted : (base.Call → Bool → Bool) → Call → Bool → Bool
lifted say (call c) x = say c x
lifted say (exclude a b) x = x
lifted say (activate a b) x = x
lifted say (deactivate a b) x = x

-- p and q exclude each other from kind 13 until kind 3 of either.
unfoldable pub exclusion_change : ℕ → ℕ → Change → Bool → Bool
exclusion_change p q (remove_role a b) x = x && not (eqb p a || eqb q a)
exclusion_change p q (add_by_place a own juniors seniors) x = x
exclusion_change p q (add_by_privileges a own) x = x
exclusion_change p q (grant a b) x = x
exclusion_change p q (withdraw a b) x = x
exclusion_change p q (add_edge a b) x = x
exclusion_change p q (remove_edge a b) x = x

unfoldable pub exclusion_call : ℕ → ℕ → base.Call → Bool → Bool
exclusion_call p q (base.change c) x = exclusion_change p q c x
exclusion_call p q (base.declare a b) x = x
exclusion_call p q (base.lift a b) x = x
exclusion_call p q (base.assign a b) x = x
exclusion_call p q (base.unassign a b) x = x
exclusion_call p q (base.ask a b) x = x

unfoldable pub exclusion : ℕ → ℕ → Call → Bool → Bool
exclusion p q (exclude a b) x = x || same_pair p q a b
exclusion p q (call c) x = exclusion_call p q c x
exclusion p q (activate a b) x = x
exclusion p q (deactivate a b) x = x

-- Role r is active at seat i from kind 14 until kind 15, or until a call after which, in the state h, no assigned role of the seat reaches it.
unfoldable pub activity : ℕ → ℕ → Call → State → Bool → Bool
activity i r (activate a b) h x = x || (eqb i a && eqb r b)
activity i r (deactivate a b) h x = x && not (eqb i a && eqb r b)
activity i r (call c) h x = x && covered h i r
activity i r (exclude a b) h x = x

-- What a record says of something, by the call that it decodes to.
unfoldable pub by_call : (Call → Bool → Bool) → Decoded → Bool → Bool
by_call say malformed x = x
by_call say (well_formed c) x = say c x

-- What the accepted records of a list, one after the other, make of what held at the start.
unfoldable pub history : (Call → Bool → Bool) → Bool → Sitting → List (List ℕ) → Bool
history say x z l = trace (λ r. by_call say (decode r)) x (without_refused z l)

-- The same, where a call says it with the state that it left.
unfoldable pub history_in : (Call → State → Bool → Bool) → Bool → Sitting → List (List ℕ) → Bool
history_in say x z l = trace_in step is_refusal (λ r h. by_call (λ c. say c h.state) (decode r)) x z l
