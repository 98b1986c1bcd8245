-- Document 02, Item 3: pairs that exclude each other, active roles, refusals 34 and 35, switch-offs and the question, each by evaluation of the definitions.
-- Assumes nothing.
use mathlib.Core.Path.{◌≡◌, refl}
use mathlib.Core.Bool.{true, false}
use mathlib.Core.List.{[], ◌∷◌, ◌++◌}
use lib.ListN.{replicate}
use Rattle.sets.specs.Sets.{empty}
use Rattle.graph.proofs.Examples.{set_of}
use Rattle.seats.specs.Calls.{accepted, answered, refused}
use Rattle.seats.proofs.Examples.{call, plain, add, state_of, sample, sample_image, spelled_out}
use Rattle.sittings.specs.Sittings.{Sitting, begun, fresh, excluded, is_active}
use Rattle.sittings.specs.Calls.{ask_active}
use Rattle.sittings.specs.Lists.{answers, end}
use Rattle.sittings.specs.Images.{load_over}
use Rattle.sittings.specs.Computes.{computes}

-- Roles 2 {1}, 3 {1,2} and 4 {2,3}: 2 lies below 3, and no other ordinary role below another.
unfoldable desk : Sitting
desk = begun (state_of ((1 ∷ []) ∷ (1 ∷ 2 ∷ []) ∷ (2 ∷ 3 ∷ []) ∷ []))

-- ---- kind 13
-- Two roles once, in either order; a role not with itself; two ordinary roles that are present; the numbers in order.
pairs_refused : answers desk (plain 13 4 3 ∷ plain 13 3 4 ∷ plain 13 4 3 ∷ plain 13 3 3 ∷ plain 13 2 9 ∷ plain 13 1 4 ∷ plain 13 64 1 ∷ plain 13 9 9 ∷ [])
    ≡ accepted ∷ refused 22 3 ∷ refused 22 4 ∷ refused 5 3 ∷ refused 21 9 ∷ refused 3 1 ∷ refused 2 64 ∷ refused 5 9 ∷ []
unfolding computes spelled_out desk
pairs_refused = refl

-- 35: one of the two lies below the other; the place is the lower number, whichever is named first.
pair_joined : answers desk (plain 13 3 2 ∷ plain 13 2 3 ∷ []) ≡ refused 35 2 ∷ refused 35 2 ∷ []
unfolding computes spelled_out desk
pair_joined = refl

-- 35: a seat's one active role reaches both.
pair_under_one : answers desk (add 5 (1 ∷ 2 ∷ 3 ∷ []) ∷ plain 10 6 5 ∷ plain 14 6 5 ∷ plain 13 2 4 ∷ plain 15 6 5 ∷ plain 13 2 4 ∷ plain 14 6 5 ∷ [])
    ≡ accepted ∷ accepted ∷ accepted ∷ refused 35 2 ∷ accepted ∷ accepted ∷ refused 35 2 ∷ []
unfolding computes spelled_out desk
pair_under_one = refl

-- A pair goes with either of its roles, and is not there when the role comes back.
pair_goes : answers desk (plain 13 2 4 ∷ plain 3 4 0 ∷ add 4 (2 ∷ 3 ∷ []) ∷ plain 13 4 2 ∷ plain 3 2 1 ∷ add 2 (1 ∷ []) ∷ plain 13 2 4 ∷ [])
    ≡ accepted ∷ accepted ∷ accepted ∷ accepted ∷ accepted ∷ accepted ∷ accepted ∷ []
unfolding computes spelled_out desk
pair_goes = refl

-- ---- kinds 14 and 15
-- 34 until an assigned role reaches the role; repeats; an assigned role is no active one.
activates : answers desk (plain 14 5 2 ∷ plain 10 5 3 ∷ plain 14 5 2 ∷ plain 14 5 2 ∷ plain 15 5 3 ∷ plain 15 5 2 ∷ plain 15 5 2 ∷ [])
    ≡ refused 34 5 ∷ accepted ∷ accepted ∷ refused 22 5 ∷ refused 23 5 ∷ accepted ∷ refused 23 5 ∷ []
unfolding computes spelled_out desk
activates = refl

-- The numbers and the role named come first.
activates_in_order : answers desk (plain 14 64 64 ∷ plain 14 5 64 ∷ plain 14 5 1 ∷ plain 14 5 9 ∷ plain 15 64 2 ∷ plain 15 5 0 ∷ plain 15 5 9 ∷ [])
    ≡ refused 2 64 ∷ refused 2 64 ∷ refused 3 1 ∷ refused 21 9 ∷ refused 2 64 ∷ refused 3 0 ∷ refused 21 9 ∷ []
unfolding computes spelled_out desk
activates_in_order = refl

-- 35: two active roles of one seat reach the two of a pair, itself or through a junior.
both_reached : answers desk (plain 13 2 4 ∷ plain 10 5 3 ∷ plain 10 5 4 ∷ plain 14 5 4 ∷ plain 14 5 3 ∷ plain 14 5 2 ∷ [])
    ≡ accepted ∷ accepted ∷ accepted ∷ accepted ∷ refused 35 2 ∷ refused 35 2 ∷ []
unfolding computes spelled_out desk
both_reached = refl

-- 34 comes before 35.
reached_first : answers desk (plain 13 2 4 ∷ plain 10 5 4 ∷ plain 14 5 4 ∷ plain 14 5 2 ∷ plain 10 5 3 ∷ plain 14 5 2 ∷ [])
    ≡ accepted ∷ accepted ∷ accepted ∷ refused 34 5 ∷ accepted ∷ refused 35 2 ∷ []
unfolding computes spelled_out desk
reached_first = refl

-- A junior is reached, and no member: it cannot be taken out, and can be put in.
junior_no_member : answers desk (plain 10 5 3 ∷ plain 14 5 3 ∷ plain 15 5 2 ∷ plain 14 5 2 ∷ []) ≡ accepted ∷ accepted ∷ refused 23 5 ∷ accepted ∷ []
unfolding computes spelled_out desk
junior_no_member = refl

-- ---- refusal 35 in kinds 1 to 7
-- By a role placed between, a grant and an edge.
adding_joins : answers desk (plain 13 2 4 ∷ call 1 5 0 (set_of (9 ∷ [])) (set_of (2 ∷ [])) (set_of (4 ∷ [])) ∷ plain 4 4 1 ∷ plain 6 2 4 ∷ add 5 (1 ∷ 2 ∷ 3 ∷ []) ∷ [])
    ≡ accepted ∷ refused 35 2 ∷ refused 35 2 ∷ refused 35 2 ∷ accepted ∷ []
unfolding computes spelled_out desk
adding_joins = refl

-- By a removal with b 0 or an edge removed, after which role 3 has {2}; with b 1 it keeps its set.
removing_joins : answers desk (plain 13 4 3 ∷ plain 3 2 0 ∷ plain 7 2 3 ∷ plain 3 2 1 ∷ []) ≡ accepted ∷ refused 35 3 ∷ refused 35 3 ∷ accepted ∷ []
unfolding computes spelled_out desk
removing_joins = refl

-- By a withdrawal: role 2 {1,5} without 5 lies below role 3 {1,2}.
unfoldable shelf : Sitting
shelf = begun (state_of ((1 ∷ 5 ∷ []) ∷ (1 ∷ 2 ∷ []) ∷ []))

withdrawing_joins : answers shelf (plain 13 2 3 ∷ plain 5 2 5 ∷ []) ≡ accepted ∷ refused 35 2 ∷ []
unfolding computes spelled_out shelf
withdrawing_joins = refl

-- ---- switch-offs
-- Kind 11 switches off what no other role of the seat reaches, and no more.
unfoldable left_one : Sitting
left_one = end desk (plain 10 5 3 ∷ plain 10 5 4 ∷ plain 14 5 2 ∷ plain 14 5 4 ∷ plain 11 5 3 ∷ [])

unassigned : (is_active left_one 5 2 ≡ false) × (is_active left_one 5 4 ≡ true)
unfolding computes spelled_out desk left_one
unassigned = (refl, refl)

-- Kind 7: role 3 no longer reaches role 2.
unfoldable seated : Sitting
seated = end desk (plain 10 5 3 ∷ plain 14 5 2 ∷ [])

edge_removed : (is_active seated 5 2 ≡ true) × (is_active (end seated (add 5 (2 ∷ 7 ∷ []) ∷ plain 4 3 8 ∷ plain 7 2 3 ∷ [])) 5 2 ≡ false)
unfolding computes spelled_out desk seated
edge_removed = (refl, refl)

-- Kind 3: an active role that no seat is assigned may be removed, and is switched off.
active_removed : (answers seated (plain 3 3 0 ∷ plain 3 2 0 ∷ add 2 (1 ∷ []) ∷ []) ≡ refused 24 5 ∷ accepted ∷ accepted ∷ [])
    × (is_active (end seated (plain 3 2 0 ∷ add 2 (1 ∷ []) ∷ [])) 5 2 ≡ false)
unfolding computes spelled_out desk seated
active_removed = (refl, refl)

-- A refused call switches nothing off: here 35 refuses the removal of the edge through which role 2 is reached.
unfoldable paired : Sitting
paired = end seated (plain 13 3 4 ∷ [])

refused_keeps : (answers paired (plain 7 2 3 ∷ []) ≡ refused 35 3 ∷ []) × (is_active (end paired (plain 7 2 3 ∷ [])) 5 2 ≡ true) × (excluded (end paired (plain 7 2 3 ∷ [])) 4 3 ≡ true)
unfolding computes spelled_out desk seated paired
refused_keeps = (refl, refl, refl)

-- 35 is judged after the switch-offs: of a sitting that no list leaves, the active roles of a seat without roles do not count.
unfoldable damaged : Sitting
damaged = record {
  state = desk.state;
  pairs = replicate 2 empty ++ (set_of (4 ∷ []) ∷ replicate 61 empty);
  active = replicate 5 empty ++ (set_of (2 ∷ 4 ∷ []) ∷ replicate 58 empty);
}

switched_first : (answers damaged (plain 4 3 9 ∷ []) ≡ accepted ∷ []) × (answers (end damaged (plain 10 5 2 ∷ plain 10 5 4 ∷ [])) (plain 4 3 9 ∷ []) ≡ refused 35 2 ∷ [])
unfolding computes spelled_out desk damaged
switched_first = (refl, refl)

-- ---- the question
-- By active roles, themselves and through juniors; kind 12 by assigned ones.
questions : (ask_active seated 5 1 ≡ answered true) × (ask_active seated 5 2 ≡ answered false) × (answers seated (plain 12 5 2 ∷ []) ≡ answered true ∷ [])
    × (ask_active (end seated (plain 15 5 2 ∷ plain 14 5 3 ∷ [])) 5 1 ≡ answered true)
unfolding computes spelled_out desk seated
questions = (refl, refl, refl, refl)

-- Only 2 refuses it, the seat's number first; a seat without active roles may use nothing.
questions_refused : (ask_active seated 64 65 ≡ refused 2 64) × (ask_active seated 5 64 ≡ refused 2 64) × (ask_active seated 6 1 ≡ answered false)
unfolding computes spelled_out desk seated
questions_refused = (refl, refl, refl)

-- ---- records and images
-- Refusal 1 knows kinds 13 to 15, and what they do not name is zero.
unknown : answers desk (plain 16 2 4 ∷ call 13 2 4 1 0 0 ∷ call 14 5 2 0 1 0 ∷ call 15 5 2 0 0 1 ∷ (13 ∷ 2 ∷ 4 ∷ 1 ∷ replicate 28 0) ∷ (13 ∷ 2 ∷ 4 ∷ replicate 28 0) ∷ [])
    ≡ refused 1 0 ∷ refused 1 0 ∷ refused 1 0 ∷ refused 1 0 ∷ refused 1 0 ∷ refused 1 0 ∷ []
unfolding computes spelled_out desk
unknown = refl

-- A load clears pairs and active roles; a refused one keeps them.
loads : (load_over paired sample_image ≡ (accepted, begun sample)) × (load_over paired (replicate 15 0) ≡ (refused 6 0, paired))
unfolding computes spelled_out desk seated paired sample sample_image
loads = (refl, refl)

-- A fresh sitting has no pair and nothing active.
fresh-empty : (excluded fresh 2 3 ≡ false) × (is_active fresh 0 2 ≡ false)
unfolding computes
fresh-empty = (refl, refl)
