-- Document 02, Item 3: the calls of a sitting, kinds 1 to 15, and refusals 34 and 35 behind those of document 01; and the question.
use Rattle.std.specs.Prelude.{not, List, [], ◌∷◌, ◌++◌, ℕ, eqb, set}
use Rattle.sets.specs.Sets.{single, difference, when}
use Rattle.graph.specs.Tables.{at, table, put, take_out}
use Rattle.graph.specs.Graph.{Graph, role_count}
use Rattle.graph.specs.Conflicts as conflicts
use Rattle.graph.specs.Editing.{Change, add_by_place, add_by_privileges, remove_role, grant, withdraw, add_edge, remove_edge}
use Rattle.graph.specs.Refusing.{Check, refuse, refuse_lowest, verdict, no_role_number, no_privilege_number, end_role, role_absent}
use Rattle.seats.specs.Seats.{State}
use Rattle.seats.specs.Calls.{Answer, accepted, answered, no_seat_number, seat_role_checks, settle}
use Rattle.seats.specs.Calls as base
use Rattle.sittings.specs.Sittings.{Sitting, excluded, is_active, covered, still_covered, still_active, clashing, may_use_active}

-- A call of a sitting.
pub data Call : Type 0 where
  -- kinds 1 to 12
  call : base.Call → Call
  -- kind 13: two roles
  exclude : ℕ → ℕ → Call
  -- kinds 14 and 15: seat, role
  activate : ℕ → ℕ → Call
  deactivate : ℕ → ℕ → Call

-- ---- refusals

-- 35: an excluding pair is together; the place is the lower role of the lowest such pair.
abbrev pub pair_together : Sitting → Check
pair_together h = refuse_lowest 35 role_count (clashing h)

-- 35 in kinds 1 to 12: those that draw anew.
unfoldable pub drawn_checks : base.Call → Sitting → List Check
drawn_checks (base.change c) h = pair_together h ∷ []
drawn_checks (base.declare a b) h = []
drawn_checks (base.lift a b) h = []
drawn_checks (base.assign a b) h = []
drawn_checks (base.unassign a b) h = []
drawn_checks (base.ask a b) h = []

-- What refuses two roles by their numbers and the roles present: 2, 3, 5 and 21.
abbrev pub role_pair_checks : Graph → ℕ → ℕ → List Check
role_pair_checks g a b =
    no_role_number a
    ∷ no_role_number b
    ∷ end_role a
    ∷ end_role b
    ∷ refuse 5 (eqb a b) a
    ∷ role_absent g a
    ∷ role_absent g b
    ∷ []

-- The checks of a call in the order of refusals, h being the sitting that the call would leave.
unfoldable pub checks : Sitting → Call → Sitting → List Check
checks z (call c) h = base.checks z.state c h.state ++ drawn_checks c h
checks z (exclude a b) h = role_pair_checks z.state.graph a b ++ (refuse 22 (excluded z a b) a ∷ pair_together h ∷ [])
checks z (activate a b) h =
    seat_role_checks z.state.graph a b
    ++ (refuse 22 (is_active z a b) a ∷ refuse 34 (not (covered z.state a b)) a ∷ pair_together h ∷ [])
checks z (deactivate a b) h = seat_role_checks z.state.graph a b ++ (refuse 23 (not (is_active z a b)) a ∷ [])

-- ---- what a call leaves

-- The pairs without those of role a.
unfoldable pub without_role : ℕ → List ℕ → List ℕ
without_role a pairs = table role_count (λ p. when (not (eqb p a)) (difference (at pairs p) (single a)))

-- The pairs that a change leaves: kind 3 takes those of its role.
unfoldable pub pairs_changed : Change → List ℕ → List ℕ
pairs_changed (remove_role a b) pairs = without_role a pairs
pairs_changed (add_by_place a own juniors seniors) pairs = pairs
pairs_changed (add_by_privileges a own) pairs = pairs
pairs_changed (grant a b) pairs = pairs
pairs_changed (withdraw a b) pairs = pairs
pairs_changed (add_edge a b) pairs = pairs
pairs_changed (remove_edge a b) pairs = pairs

-- The pairs that kinds 1 to 12 leave.
unfoldable pub pairs_after : base.Call → List ℕ → List ℕ
pairs_after (base.change c) pairs = pairs_changed c pairs
pairs_after (base.declare a b) pairs = pairs
pairs_after (base.lift a b) pairs = pairs
pairs_after (base.assign a b) pairs = pairs
pairs_after (base.unassign a b) pairs = pairs
pairs_after (base.ask a b) pairs = pairs

-- The active roles that kinds 1 to 12 leave, h being the state after: kinds 1 to 7 switch off what no assigned role reaches any longer, and kind 11 does at the seat that it names.
unfoldable pub active_after : base.Call → State → List ℕ → List ℕ
active_after (base.change c) h active = still_active h active
active_after (base.unassign a b) h active = set active a (still_covered h a (at active a))
active_after (base.declare a b) h active = active
active_after (base.lift a b) h active = active
active_after (base.assign a b) h active = active
active_after (base.ask a b) h active = active

-- The sitting that a call leaves where nothing refuses it.
unfoldable pub after : Sitting → Call → Sitting
after z (call c) =
    let h = base.after z.state c in
    record { state = h; pairs = pairs_after c z.pairs; active = active_after c h z.active }
after z (exclude a b) = record { state = z.state; pairs = conflicts.declare z.pairs a b; active = z.active }
after z (activate a b) = record { state = z.state; pairs = z.pairs; active = put z.active a b }
after z (deactivate a b) = record { state = z.state; pairs = z.pairs; active = take_out z.active a b }

-- The answer to a call where nothing refuses it.
unfoldable pub reply : Sitting → Call → Answer
reply z (call c) = base.reply z.state c
reply z (exclude a b) = accepted
reply z (activate a b) = accepted
reply z (deactivate a b) = accepted

-- One call.
unfoldable pub perform : Sitting → Call → Answer × Sitting
perform z c =
    let h = after z c in
    settle (verdict (checks z c h)) (reply z c) z h

-- ---- the question

-- The question, an operation of its own and no record: may seat a use privilege b by its active roles? Only 2 refuses it.
unfoldable pub ask_active : Sitting → ℕ → ℕ → Answer
ask_active z a b = (settle (verdict (no_seat_number a ∷ no_privilege_number b ∷ [])) (answered (may_use_active z a b)) z z).0
