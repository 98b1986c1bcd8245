-- What every graph has that a list of calls leaves: the invariants that document 01's calls keep.
use Rattle.std.specs.Prelude.{◌≡◌, ◌≢◌, List, ℕ, ◌<◌, ◌≤◌, ◌^◌, length, T}
use Rattle.sets.specs.Sets.{empty, member, included}
use Rattle.graph.specs.Tables.{at}
use Rattle.graph.specs.Graph.{Graph, role_count, privilege_count, max_role, ordinary, present, effective}
use Rattle.graph.specs.Conflicts.{holds_pair}

-- A table of n entries, each a set of w digits.
pub record Table (n w : ℕ) (l : List ℕ) : Type 0 where
  pub whole : length l ≡ n
  pub entry_lt : (i : ℕ) → at l i < 2 ^ w

-- The roles are ordinary; only a role that is present and not MinRole holds anything; MaxRole holds all that an ordinary role holds.
pub record Formed (g : Graph) : Type 0 where
  pub roles_lt : g.roles < 2 ^ role_count
  pub roles_ordinary : (r : ℕ) → T (member r g.roles) → 2 ≤ r
  pub sets : Table role_count privilege_count g.sets
  pub held : (p r : ℕ) → T (member p (effective g r)) → T (present g r) × (1 ≤ r)
  pub top_whole : (r : ℕ) → T (ordinary g r) → T (included (effective g r) (effective g max_role))

-- Ordinary roles are non-empty and pairwise different: refusals 27 and 28 find nothing.
pub record Distinct (g : Graph) : Type 0 where
  pub non_empty : (r : ℕ) → T (ordinary g r) → effective g r ≢ empty
  pub different : (r s : ℕ) → T (ordinary g r) → T (ordinary g s) → effective g r ≡ effective g s → r ≡ s

-- Pairs of two numbers below n, each of which stands under its lower one.
pub record Paired (n : ℕ) (C : List ℕ) : Type 0 where
  pub table : Table n n C
  pub ascending : (p q : ℕ) → T (member q (at C p)) → p < q

-- No ordinary role holds a declared pair: refusal 29 finds nothing.
abbrev pub PairFree : Graph → Type 0
PairFree g = (r : ℕ) → T (ordinary g r) → T (holds_pair g.conflicts (effective g r)) → ⊥

-- The graph's invariants together.
pub record Kept (g : Graph) : Type 0 where
  pub formed : Formed g
  pub distinct : Distinct g
  pub paired : Paired privilege_count g.conflicts
  pub pair_free : PairFree g
