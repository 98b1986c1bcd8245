-- Document 01, "Refusals that come from the input" and "Refusals that come from the state", and document 02, Item 1: for each call one list of checks in the order of refusals, the first that holds refuses.
use Rattle.std.specs.Prelude.{Bool, false, cond, not, ◌&&◌, ◌||◌, ◌≡◌, ◌⊎◌, List, [], ◌∷◌, ◌++◌, ℕ, T, leb, eqb}
use Rattle.sets.specs.Counting.{any, lowest}
use Rattle.sets.specs.Sets.{empty, member, included}
use Rattle.graph.specs.Graph.{Graph, role_count, privilege_count, is_end, ordinary, present, effective}
use Rattle.graph.specs.Conflicts.{declared, holds_both, holds_pair}
use Rattle.graph.specs.Drawing.{below, edge, direct}
use Rattle.graph.specs.Editing.{Change, add_by_place, add_by_privileges, remove_role, grant, withdraw, add_edge, remove_edge, changed}

-- A refusal's number, the condition under which it comes, and its place.
pub record Check : Type 0 where
  pub number : ℕ
  pub holds : Bool
  pub place : ℕ

-- Refusal n at place p where the condition holds.
abbrev pub refuse : ℕ → Bool → ℕ → Check
refuse n b p = record { number = n; holds = b; place = p }

-- Refusal n at the lowest number below k for which the condition holds.
abbrev pub refuse_lowest : ℕ → ℕ → (ℕ → Bool) → Check
refuse_lowest n k f = record { number = n; holds = any k f; place = lowest k f }

-- What a list of checks comes to: nothing refuses, or a refusal with its number and place.
pub data Verdict : Type 0 where
  passed : Verdict
  refused : ℕ → ℕ → Verdict

-- The first check that holds refuses.
unfoldable pub verdict : List Check → Verdict
verdict [] = passed
verdict (c ∷ l) = cond c.holds (refused c.number c.place) (verdict l)

-- No check of the list holds.
unfoldable pub Passes : List Check → Type 0
Passes [] = Unit {0}
Passes (c ∷ l) = (T c.holds → ⊥) × Passes l

-- The first check of the list that holds has number n and place p.
unfoldable pub First : List Check → ℕ → ℕ → Type 0
First [] n p = ⊥
First (c ∷ l) n p = (T c.holds × (c.number ≡ n) × (c.place ≡ p)) ⊎ ((T c.holds → ⊥) × First l n p)

-- ---- the order of refusals

-- Of the conditions that hold, the first in this list of numbers answers.
unfoldable pub refusal_order : List ℕ
refusal_order = 1 ∷ 2 ∷ 3 ∷ 4 ∷ 5 ∷ 20 ∷ 21 ∷ 22 ∷ 23 ∷ 31 ∷ 24 ∷ 25 ∷ 26 ∷ 27 ∷ 28 ∷ 29 ∷ 30 ∷ 34 ∷ 35 ∷ []

-- An order has the number n.
unfoldable pub listed : List ℕ → ℕ → Bool
listed [] n = false
listed (m ∷ o) n = eqb m n || listed o n

-- An order from the number n on.
unfoldable pub from : List ℕ → ℕ → List ℕ
from [] n = []
from (m ∷ o) n = cond (eqb m n) (m ∷ o) (from o n)

-- The number m is n or stands behind it in the order.
unfoldable pub no_earlier : List ℕ → ℕ → ℕ → Bool
no_earlier o n m = listed (from o n) m

-- ---- refusals of the input, 2 to 5

-- 2: no role has this number.
abbrev pub no_role_number : ℕ → Check
no_role_number a = refuse 2 (leb role_count a) a

-- 2: no privilege has this number.
abbrev pub no_privilege_number : ℕ → Check
no_privilege_number p = refuse 2 (leb privilege_count p) p

-- 3: an end role is named.
abbrev pub end_role : ℕ → Check
end_role a = refuse 3 (is_end a) a

-- 3: an end role is named among several.
abbrev pub end_role_in : ℕ → Check
end_role_in s = refuse_lowest 3 role_count (λ r. is_end r && member r s)

-- 4: a conflict of a privilege with itself.
abbrev pub pair_of_one : ℕ → ℕ → Check
pair_of_one a b = refuse 4 (eqb a b) a

-- 5: an edge from a role to itself.
abbrev pub edge_to_itself : ℕ → ℕ → Check
edge_to_itself a b = refuse 5 (eqb a b) a

-- Refusals 2 to 5 of each kind, by the fields alone.
unfoldable pub input_checks : Change → List Check
input_checks (add_by_place a own juniors seniors) =
    no_role_number a
    ∷ end_role a
    ∷ end_role_in juniors
    ∷ end_role_in seniors
    ∷ refuse 5 (member a juniors || member a seniors) a
    ∷ []
input_checks (add_by_privileges a own) = no_role_number a ∷ end_role a ∷ []
input_checks (remove_role a b) = no_role_number a ∷ end_role a ∷ []
input_checks (grant a b) = no_role_number a ∷ no_privilege_number b ∷ end_role a ∷ []
input_checks (withdraw a b) = no_role_number a ∷ no_privilege_number b ∷ end_role a ∷ []
input_checks (add_edge a b) = no_role_number a ∷ no_role_number b ∷ end_role a ∷ end_role b ∷ edge_to_itself a b ∷ []
input_checks (remove_edge a b) = no_role_number a ∷ no_role_number b ∷ end_role a ∷ end_role b ∷ edge_to_itself a b ∷ []

-- ---- refusals of the state, 20 to 25, and 31

-- 20: a role to be added is present.
abbrev pub role_present : Graph → ℕ → Check
role_present g a = refuse 20 (present g a) a

-- 21: another named role is absent.
abbrev pub role_absent : Graph → ℕ → Check
role_absent g a = refuse 21 (not (present g a)) a

-- 21: a role named among several is absent.
abbrev pub role_absent_in : Graph → ℕ → Check
role_absent_in g s = refuse_lowest 21 role_count (λ r. member r s && not (present g r))

-- r is s or lies below it.
unfoldable pub at_or_below : Graph → ℕ → ℕ → Bool
at_or_below g r s = eqb r s || below g r s

-- Refusals 20 to 25 and 31 of each kind, by the graph at hand; 24 concerns seats and is not here.
unfoldable pub state_checks : Graph → Change → List Check
state_checks g (add_by_place a own juniors seniors) =
    role_present g a
    ∷ role_absent_in g juniors
    ∷ role_absent_in g seniors
    ∷ refuse_lowest 25 role_count (λ j. member j juniors && any role_count (λ s. member s seniors && at_or_below g s j))
    ∷ []
state_checks g (add_by_privileges a own) = role_present g a ∷ []
state_checks g (remove_role a b) = role_absent g a ∷ []
state_checks g (grant a b) = role_absent g a ∷ refuse 22 (member b (effective g a)) a ∷ []
state_checks g (withdraw a b) =
    role_absent g a
    ∷ refuse 23 (not (member b (effective g a))) a
    ∷ refuse 31 (member b (effective g a) && not (member b (direct g a))) a
    ∷ []
state_checks g (add_edge a b) =
    role_absent g a ∷ role_absent g b ∷ refuse 22 (below g a b) a ∷ refuse 25 (below g b a) a ∷ []
state_checks g (remove_edge a b) = role_absent g a ∷ role_absent g b ∷ refuse 23 (not (edge g a b)) a ∷ []

-- ---- refusals after closing, 26 to 29

-- An ordinary role is empty.
unfoldable pub empty_role : Graph → ℕ → Bool
empty_role g r = ordinary g r && eqb (effective g r) empty

-- An ordinary role has a twin, another with an equal set.
unfoldable pub twin_role : Graph → ℕ → Bool
twin_role g r = ordinary g r && any role_count (λ s. (ordinary g s && not (eqb r s)) && eqb (effective g r) (effective g s))

-- An ordinary role holds a declared pair.
unfoldable pub pair_role : Graph → ℕ → Bool
pair_role g r = ordinary g r && holds_pair g.conflicts (effective g r)

-- An ordinary role holds both privileges of the pair offered.
unfoldable pub offered_role : Graph → ℕ → ℕ → ℕ → Bool
offered_role g a b r = ordinary g r && holds_both a b (effective g r)

-- 26: kind 7, and a's set is still included in b's.
unfoldable pub still_below : Graph → Change → List Check
still_below h (remove_edge a b) = refuse 26 (included (effective h a) (effective h b)) b ∷ []
still_below h (add_by_place a own juniors seniors) = []
still_below h (add_by_privileges a own) = []
still_below h (remove_role a b) = []
still_below h (grant a b) = []
still_below h (withdraw a b) = []
still_below h (add_edge a b) = []

-- Refusals 27 to 29 of the graph h after closing.
unfoldable pub closed_checks : Graph → List Check
closed_checks h =
    refuse_lowest 27 role_count (empty_role h)
    ∷ refuse_lowest 28 role_count (twin_role h)
    ∷ refuse_lowest 29 role_count (pair_role h)
    ∷ []

-- What a change comes to before closing, by the fields and the graph at hand.
unfoldable pub early : Graph → Change → Verdict
early g c = verdict (input_checks c ++ state_checks g c)

-- The refusals of a change that need no seat, h being the graph after it.
unfoldable pub change_checks : Graph → Change → Graph → List Check
change_checks g c h = input_checks c ++ (state_checks g c ++ (still_below h c ++ closed_checks h))

-- What a change comes to by the graph alone.
unfoldable pub judged : Graph → Change → Verdict
judged g c = verdict (change_checks g c (changed g c))

-- ---- refusals of kinds 8 and 9

-- Kind 8: 29 is judged by the pair offered, on the graph as it is.
unfoldable pub declare_checks : Graph → ℕ → ℕ → List Check
declare_checks g a b =
    no_privilege_number a
    ∷ no_privilege_number b
    ∷ pair_of_one a b
    ∷ refuse 22 (declared g.conflicts a b) a
    ∷ refuse_lowest 29 role_count (offered_role g a b)
    ∷ []

-- Kind 9.
unfoldable pub lift_checks : Graph → ℕ → ℕ → List Check
lift_checks g a b =
    no_privilege_number a
    ∷ no_privilege_number b
    ∷ pair_of_one a b
    ∷ refuse 23 (not (declared g.conflicts a b)) a
    ∷ []

-- ---- what a call leaves

-- A call's verdict and the graph after it: a refused call leaves the graph as it was, and one that passed has h.
unfoldable pub keep : Verdict → Graph → Graph → Verdict × Graph
keep passed g h = (passed, h)
keep (refused n p) g h = (refused n p, g)
