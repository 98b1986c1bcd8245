-- Document 01, "Roles, privileges and sets": role and privilege numbers, and a role graph as an image keeps it.
use Rattle.std.specs.Prelude.{Bool, not, ◌&&◌, ◌||◌, List, ℕ, replicate, ltb}
use Rattle.sets.specs.Sets.{empty, member}
use Rattle.graph.specs.Tables.{at}

-- How many role numbers there are: 0 to 63.
abbrev pub role_count : ℕ
role_count = 64

-- How many privilege numbers there are: 0 to 63.
abbrev pub privilege_count : ℕ
privilege_count = 64

-- MinRole's number.
abbrev pub min_role : ℕ
min_role = 0

-- MaxRole's number.
abbrev pub max_role : ℕ
max_role = 1

-- The number is that of an end role, MinRole or MaxRole.
unfoldable pub is_end : ℕ → Bool
is_end r = ltb r 2

-- MinRole alone, as a set of roles.
abbrev pub min_alone : ℕ
min_alone = 1

-- MaxRole alone, as a set of roles.
abbrev pub max_alone : ℕ
max_alone = 2

-- The two end roles, as a set of roles.
abbrev pub end_roles : ℕ
end_roles = 3

-- A role graph is given by its ordinary roles, the effective set of each role, and the declared conflicts; order, edges and direct privileges follow from these.
pub record Graph : Type 0 where
  -- the ordinary roles present, as a set
  pub roles : ℕ
  -- by role number, the role's effective set
  pub sets : List ℕ
  -- by privilege number, the higher privileges in conflict with it
  pub conflicts : List ℕ

-- A fresh graph has only the two end roles, nothing in them, and no conflict.
unfoldable pub fresh : Graph
fresh = record { roles = empty; sets = replicate role_count empty; conflicts = replicate privilege_count empty }

-- r is an ordinary role that is present.
unfoldable pub ordinary : Graph → ℕ → Bool
ordinary g r = not (is_end r) && member r g.roles

-- r is present: the end roles always are.
unfoldable pub present : Graph → ℕ → Bool
present g r = is_end r || member r g.roles

-- The effective set of role r.
unfoldable pub effective : Graph → ℕ → ℕ
effective g r = at g.sets r
