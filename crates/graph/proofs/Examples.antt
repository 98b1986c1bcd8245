-- What the definitions make of document 01's bench graph, by evaluation: drawing, closing, the edits and the refusals that need no seat.
-- Assumes nothing.
use mathlib.Core.Path.{◌≡◌, refl}
use mathlib.Core.Bool.{true}
use mathlib.Core.List.{List, [], ◌∷◌, ◌++◌}
use Prim.Native.Nat.{ℕ, zero, suc}
use lib.ListN.{set, replicate}
use Rattle.sets.specs.Sets.{empty, single, union}
use Rattle.graph.specs.Graph.{Graph, fresh, effective, max_role}
use Rattle.graph.specs.Conflicts.{declare}
use Rattle.graph.specs.Drawing.{edge, edge_count, direct}
use Rattle.graph.specs.Editing.{add_by_place, add_by_privileges, remove_role, grant, withdraw, add_edge, remove_edge, changed}
use Rattle.graph.specs.Refusing.{passed, refused, verdict, judged, declare_checks}
use Rattle.graph.specs.Computes.{computes}

-- The set of the listed members.
unfoldable pub set_of : List ℕ → ℕ
set_of [] = empty
set_of (n ∷ l) = union (single n) (set_of l)

-- The listed sets of the roles from r on, up to the last role number.
unfoldable pub sets_from : ℕ → List (List ℕ) → List ℕ
sets_from n [] = replicate n empty
sets_from zero (s ∷ l) = []
sets_from (suc n) (s ∷ l) = set_of s ∷ sets_from n l

-- The set of as many roles from r on as there are listed sets.
unfoldable pub roles_from : ℕ → List (List ℕ) → ℕ
roles_from r [] = empty
roles_from r (s ∷ l) = union (single r) (roles_from (suc r) l)

-- The union of the listed sets.
unfoldable pub union_of : List (List ℕ) → ℕ
union_of [] = empty
union_of (s ∷ l) = union (set_of s) (union_of l)

-- The graph of the roles from 2 on with the listed sets, and of MaxRole with their union.
unfoldable pub graph_of : List (List ℕ) → Graph
graph_of l = record {
  roles = roles_from 2 l;
  sets = empty ∷ (union_of l ∷ sets_from 62 l);
  conflicts = replicate 64 empty;
}

unfoldable pub one_to_eight : List ℕ
one_to_eight = 1 ∷ 2 ∷ 3 ∷ 4 ∷ 5 ∷ 6 ∷ 7 ∷ 8 ∷ []

-- The sets of roles 2 to 9 in document 000's Table I, as document 01 restores it.
unfoldable pub table-one : List (List ℕ)
table-one =
    (1 ∷ [])
    ∷ (2 ∷ [])
    ∷ (1 ∷ 3 ∷ 4 ∷ [])
    ∷ (1 ∷ 2 ∷ 4 ∷ 5 ∷ [])
    ∷ (1 ∷ 2 ∷ 5 ∷ 6 ∷ [])
    ∷ (2 ∷ 7 ∷ 8 ∷ [])
    ∷ (one_to_eight ++ (9 ∷ 10 ∷ []))
    ∷ (one_to_eight ++ (11 ∷ []))
    ∷ []

-- The bench graph.
unfoldable pub A : Graph
A = graph_of table-one

-- All that the examples are written with, to be opened at once.
unfoldable pub written_out : Unit {0}
unfolding set_of sets_from roles_from union_of graph_of one_to_eight table-one A
written_out = tt

-- ---- drawing
edges_of_A : edge_count A ≡ 18
unfolding computes written_out
edges_of_A = refl

direct_of_8 : direct A 8 ≡ set_of (9 ∷ 10 ∷ [])
unfolding computes written_out
direct_of_8 = refl

-- MaxRole is above a role whose set equals its own, and so nothing joins it to MinRole.
equal_top : (edge (graph_of ((1 ∷ []) ∷ [])) 2 max_role ≡ true) × (edge_count (graph_of ((1 ∷ []) ∷ [])) ≡ 2)
unfolding computes written_out
equal_top = (refl, refl)

-- MaxRole's direct privileges may be non-empty: 9 and 10 where no ordinary role has them.
direct_top : direct (record { roles = A.roles; sets = set A.sets 8 (set_of one_to_eight); conflicts = A.conflicts }) max_role ≡ set_of (9 ∷ 10 ∷ [])
unfolding computes written_out
direct_top = refl

-- ---- the edits
-- Kind 1: role 10 between 2 and 8, with privilege 12 direct; its juniors' and seniors' sets follow.
placed : (changed A (add_by_place 10 (single 12) (single 2) (single 8))).sets ≡ set (set (set A.sets 10 (set_of (1 ∷ 12 ∷ []))) 8 (set_of (one_to_eight ++ (9 ∷ 10 ∷ 12 ∷ [])))) 1 (set_of (one_to_eight ++ (9 ∷ 10 ∷ 11 ∷ 12 ∷ [])))
unfolding computes written_out
placed = refl

-- Kind 2: the role has the set it was given.
added : edge_count (changed A (add_by_privileges 10 (set_of (9 ∷ 10 ∷ 11 ∷ [])))) ≡ 20
unfolding computes written_out
added = refl

-- Kind 3 with b 0: role 8's direct privileges are dropped, from MaxRole too.
dropped : effective (changed A (remove_role 8 0)) max_role ≡ set_of (one_to_eight ++ (11 ∷ []))
unfolding computes written_out
dropped = refl

-- Kind 3 with b 1: they become direct in MaxRole.
handed_up : (changed A (remove_role 8 1)).sets ≡ set A.sets 8 empty
unfolding computes written_out
handed_up = refl

-- Kind 3 joins every immediate junior to every immediate senior.
rejoined : (changed A (remove_role 5 1)).sets ≡ set A.sets 5 empty
unfolding computes written_out
rejoined = refl

-- Kind 4: a senior gets what its junior is granted.
granted : effective (changed A (grant 5 9)) 9 ≡ set_of (one_to_eight ++ (9 ∷ 11 ∷ []))
unfolding computes written_out
granted = refl

-- Two grants put 8 below 9, an edge that nobody gave.
implied : edge_count (changed (changed A (grant 5 9)) (grant 5 10)) ≡ 14
unfolding computes written_out
implied = refl

-- Kind 5: what was direct goes, from the seniors too.
withdrawn : effective (changed A (withdraw 4 3)) 9 ≡ set_of (1 ∷ 2 ∷ 4 ∷ 5 ∷ 6 ∷ 7 ∷ 8 ∷ 11 ∷ [])
unfolding computes written_out
withdrawn = refl

-- Kind 6: the senior gets the junior's set.
linked : effective (changed A (add_edge 7 6)) 6 ≡ set_of (1 ∷ 2 ∷ 5 ∷ 6 ∷ 7 ∷ 8 ∷ [])
unfolding computes written_out
linked = refl

-- Kind 7: only the senior's set changes.
unlinked : (changed A (remove_edge 4 8)).sets ≡ set A.sets 8 (set_of (1 ∷ 2 ∷ 4 ∷ 5 ∷ 6 ∷ 7 ∷ 8 ∷ 9 ∷ 10 ∷ []))
unfolding computes written_out
unlinked = refl

-- Three roles, each below the next.
unfoldable chain : Graph
chain = graph_of ((1 ∷ []) ∷ (1 ∷ 2 ∷ []) ∷ (1 ∷ 2 ∷ 3 ∷ []) ∷ [])

-- Kind 7: the junior's juniors are joined to the senior.
junior_rejoined : (changed chain (remove_edge 3 4)).sets ≡ set chain.sets 4 (set_of (1 ∷ 3 ∷ []))
unfolding computes written_out chain
junior_rejoined = refl

-- Kind 7: the junior is joined to the senior's seniors.
senior_rejoined : (changed chain (remove_edge 2 3)).sets ≡ set chain.sets 3 (set_of (2 ∷ []))
unfolding computes written_out chain
senior_rejoined = refl

-- ---- the refusals
-- 2 comes before 3, whichever field has it.
number_first : judged A (grant 0 64) ≡ refused 2 64
unfolding computes written_out
number_first = refl

-- 3: juniors before seniors.
end_junior : judged A (add_by_place 10 empty (single 1) (single 0)) ≡ refused 3 1
unfolding computes written_out
end_junior = refl

own_junior : judged A (add_by_place 10 empty (single 10) empty) ≡ refused 5 10
unfolding computes written_out
own_junior = refl

-- 20 comes before 21.
present_first : judged A (add_by_place 9 empty (single 12) empty) ≡ refused 20 9
unfolding computes written_out
present_first = refl

absent_senior : judged A (add_by_place 10 empty (single 2) (set_of (3 ∷ 20 ∷ 30 ∷ []))) ≡ refused 21 20
unfolding computes written_out
absent_senior = refl

held_already : judged A (grant 8 1) ≡ refused 22 8
unfolding computes written_out
held_already = refl

-- 23: not held at all.
not-held : judged A (withdraw 5 12) ≡ refused 23 5
unfolding computes written_out
not-held = refl

-- 31: effective but not direct.
not-direct : judged A (withdraw 5 1) ≡ refused 31 5
unfolding computes written_out
not-direct = refl

-- Direct: nothing refuses.
held_directly : judged A (withdraw 8 9) ≡ passed
unfolding computes written_out
held_directly = refl

-- 23: below, with a third role between.
not-drawn : judged A (remove_edge 2 8) ≡ refused 23 2
unfolding computes written_out
not-drawn = refl

circle : judged A (add_edge 8 4) ≡ refused 25 8
unfolding computes written_out
circle = refl

-- 25, kind 1: a senior that equals a junior, and one that lies below it; the lowest such junior.
circle_through : judged A (add_by_place 10 empty (set_of (7 ∷ 6 ∷ 8 ∷ [])) (set_of (2 ∷ 8 ∷ []))) ≡ refused 25 6
unfolding computes written_out
circle_through = refl

still : judged A (remove_edge 5 8) ≡ refused 26 8
unfolding computes written_out
still = refl

nothing_left : judged fresh (add_by_place 2 empty empty empty) ≡ refused 27 2
unfolding computes written_out
nothing_left = refl

-- 28: the lower twin.
twins : judged (changed (changed A (grant 5 9)) (grant 5 10)) (grant 5 11) ≡ refused 28 8
unfolding computes written_out
twins = refl

-- 29: in a senior that inherits one half of the pair.
pair_above : judged (record { roles = A.roles; sets = A.sets; conflicts = declare A.conflicts 11 9 }) (grant 5 9) ≡ refused 29 9
unfolding computes written_out
pair_above = refl

-- 29, kind 8: the lowest role that holds both, MaxRole left out.
pair_offered : verdict (declare_checks A 1 4) ≡ refused 29 4
unfolding computes written_out
pair_offered = refl

top_left_out : verdict (declare_checks A 9 11) ≡ passed
unfolding computes written_out
top_left_out = refl

-- 22: a conflict is unordered.
declared_already : verdict (declare_checks (record { roles = A.roles; sets = A.sets; conflicts = declare A.conflicts 11 9 }) 9 11) ≡ refused 22 9
unfolding computes written_out
declared_already = refl
