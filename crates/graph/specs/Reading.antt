-- How the code's values are read as the paper's: sets, graphs, verdicts, what searches find, and changes.
use Rattle.std.specs.Prelude.{◌≡◌, refl, List, [], ℕ, Option, Some, None, Result, Ok, Err}
use Rattle.graph.specs.Graph.{Graph}
use Rattle.graph.specs.Editing.{Change, add_by_place, add_by_privileges, remove_role, grant, withdraw, add_edge, remove_edge}
use Rattle.graph.specs.Refusing.{Verdict, passed, refused}
use Rattle.graph.specs.Reasons.{reason_number}
use Rattle.graph.specs.Searching.{Found, nothing, found}
use Rattle.graph.specs.declared.PrivilegeSet as privilege-set-struct
use Rattle.graph.specs.declared.Refusal.{Refusal}
use Rattle.graph.specs.declared.RoleGraph as role-graph-struct
use Rattle.graph.specs.declared.Redrawn as redrawn-struct
use Rattle.graph.specs.declared.Removal as removal-enum
use Rattle.graph.specs.declared.Removal.TheVariants as removals
use Rattle.graph.specs.declared.Change as change-enum
use Rattle.graph.specs.declared.Change.TheVariants as changes

-- A set of privileges as the code holds it.
abbrev pub read_set : privilege-set-struct.PrivilegeSet → ℕ
read_set s = s.word

-- The sets of privileges that a table's words hold, by number.
unfoldable pub sets_in : List ℕ → List ℕ
sets_in words = words

-- Each set takes one word.
pub word_each : (l : List ℕ) → sets_in l ≡ l
unfolding sets_in
word_each l = refl

-- The graph of these roles and sets, whatever the conflicts: its order, edges and direct privileges do not depend on them.
abbrev pub drawn_from : ℕ → List ℕ → Graph
drawn_from roles sets = record { roles = roles; sets = sets_in sets; conflicts = [] }

-- The graph of these roles, sets and conflicts.
abbrev pub graph_of : ℕ → List ℕ → List ℕ → Graph
graph_of roles sets conflicts = record { roles = roles; sets = sets_in sets; conflicts = sets_in conflicts }

-- The graph of the roles and sets that are lent.
abbrev pub drawn : role-graph-struct.RoleGraph → Graph
drawn g = drawn_from g.roles g.sets.now

-- A verdict's number and place.
unfoldable pub read_verdict : Result (Unit {0}) Refusal → Verdict
read_verdict (Ok _) = passed
read_verdict (Err r) = refused (reason_number r.reason) r.place

-- What a search finds.
unfoldable pub read_found : Option ℕ → Found
read_found None = nothing
read_found (Some n) = found n

-- What a change of the graph g comes to: its verdict, and the graph after it.
unfoldable pub read_attempt : Graph → Result redrawn-struct.Redrawn Refusal → Verdict × Graph
read_attempt g (Ok d) = (passed, drawn_from d.roles d.sets)
read_attempt g (Err r) = (refused (reason_number r.reason) r.place, g)

-- A removal's b: 0 where the direct privileges are dropped, 1 where they go to the immediate seniors.
unfoldable pub read_removal : removal-enum.Removal → ℕ
read_removal removals.Dropped = 0
read_removal removals.HandedUp = 1

-- A change's kind and fields.
unfoldable pub read_change : change-enum.Change → Change
read_change (changes.AddByPlace a own juniors seniors) = add_by_place a.0 (read_set own) juniors seniors
read_change (changes.AddByPrivileges a own) = add_by_privileges a.0 (read_set own)
read_change (changes.RemoveRole a b) = remove_role a.0 (read_removal b)
read_change (changes.Grant a b) = grant a.0 b.0
read_change (changes.Withdraw a b) = withdraw a.0 b.0
read_change (changes.AddEdge a b) = add_edge a.0 b.0
read_change (changes.RemoveEdge a b) = remove_edge a.0 b.0
