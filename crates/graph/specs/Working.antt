-- What the contracts of private functions speak of: drawings held in tables, and edges without a circle.
use Rattle.std.specs.Prelude.{◌≡◌, Bool, cond, ◌||◌, List, ℕ, ◌<◌, ◌≤◌, length, T}
use Rattle.sets.specs.Sets.{empty, member, difference, size, gather}
use Rattle.graph.specs.Tables.{at, table}
use Rattle.graph.specs.Graph.{role_count, max_role, is_end}
use Rattle.graph.specs.Drawing.{Drawing}
use Rattle.graph.specs.Closing.{gathered}
use Rattle.graph.specs.Invariants.{Table}

-- Sets less those of immediate juniors, by a table of these: each role of `all` loses what its juniors have, and any other role keeps its set.
unfoldable pub less_juniors : ℕ → List ℕ → List ℕ → List ℕ
less_juniors all sets juniors =
    table role_count (λ s. cond (member s all) (difference (at sets s) (gather role_count (λ r. member r (at juniors s)) (at sets))) (at sets s))

-- A role of a drawing with the ordinary roles R.
abbrev pub has_role : ℕ → ℕ → Bool
has_role R r = is_end r || member r R

-- Edges run between roles, none to MinRole, and a height rises along them and from ordinary roles to MaxRole.
pub record JoinsLaid (R : ℕ) (joins : ℕ → ℕ → Bool) : Type 0 where
  pub height : ℕ → ℕ
  pub falls : (t r : ℕ) → T (joins t r) → height t < height r
  pub top : (t : ℕ) → T (member t R) → 2 ≤ t → height t < height max_role
  pub joins_from : (t r : ℕ) → T (joins t r) → T (has_role R t)
  pub joins_to : (t r : ℕ) → T (joins t r) → T (has_role R r) × (1 ≤ r)

-- Tables that hold a drawing without a circle: its roles, by role number the direct sets, and by senior the immediate juniors.
pub record Holds (d : Drawing) (roles : ℕ) (directs juniors : List ℕ) : Type 0 where
  pub same_roles : roles ≡ d.roles
  pub whole : length directs ≡ role_count
  pub table : Table role_count role_count juniors
  pub same_directs : (r : ℕ) → r < role_count → at directs r ≡ d.directs r
  pub same_joins : (t r : ℕ) → t < role_count → r < role_count → member t (at juniors r) ≡ d.joins t r
  pub no_circle : JoinsLaid d.roles d.joins

-- ---- closing under way
-- Going down along juniors ends: some number falls from senior to junior, so that no way down comes back to a role.
pub record Ending (juniors : List ℕ) : Type 0 where
  pub height : ℕ → ℕ
  pub falls : (t r : ℕ) → t < role_count → r < role_count → T (member t (at juniors r)) → height t < height r

-- Going down along juniors ends, and a role that is not present has no juniors.
pub record Acyclic (present : ℕ) (juniors : List ℕ) : Type 0 where
  pub ending : Ending juniors
  pub outside : (r : ℕ) → r < role_count → (T (member r present) → ⊥) → at juniors r ≡ empty

-- The set that closing gives role r, from a table of direct sets and a table of juniors.
unfoldable pub closed_set : List ℕ → List ℕ → ℕ → ℕ
closed_set directs juniors = gathered (at directs) (λ t r. member t (at juniors r)) role_count

-- The roles below r along juniors: its juniors joined with the roles below these, as closing joins privileges.
unfoldable pub roles_under : List ℕ → ℕ → ℕ
roles_under juniors = closed_set juniors juniors

-- How many roles lie below r along juniors.
unfoldable pub number_below : List ℕ → ℕ → ℕ
number_below juniors r = size role_count (roles_under juniors r)

-- A table while closing is under way: it has an entry for each role, and the entry of each role that is done is its closed set.
pub record Memo (directs juniors : List ℕ) (done : ℕ) (sets : List ℕ) : Type 0 where
  pub whole : length sets ≡ role_count
  pub right : (r : ℕ) → T (member r done) → at sets r ≡ closed_set directs juniors r
