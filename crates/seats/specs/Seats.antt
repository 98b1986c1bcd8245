-- Document 01, "Roles, privileges and sets" and kinds 10 to 12: the state of a keeper, a role graph with the roles of each seat.
use Rattle.std.specs.Prelude.{Bool, List, ℕ, replicate}
use Rattle.sets.specs.Sets.{empty, member, gather}
use Rattle.graph.specs.Tables.{at}
use Rattle.graph.specs.Graph.{Graph, role_count, effective}
use Rattle.graph.specs.Graph as graph
use Rattle.graph.specs.Conflicts.{holds_both, holds_pair}

-- How many seat numbers there are: 0 to 63.
abbrev pub seat_count : ℕ
seat_count = 64

-- What a keeper holds, and an image saves.
pub record State : Type 0 where
  pub graph : Graph
  -- by seat number, the set of the seat's roles
  pub seats : List ℕ

-- A fresh graph, and no seat with a role.
unfoldable pub fresh : State
fresh = record { graph = graph.fresh; seats = replicate seat_count empty }

-- Role r is a role of seat i.
unfoldable pub assigned : State → ℕ → ℕ → Bool
assigned s i r = member r (at s.seats i)

-- What a seat holds: the union of its roles' sets.
unfoldable pub held : State → ℕ → ℕ
held s i = gather role_count (assigned s i) (effective s.graph)

-- Seat i may use privilege p.
unfoldable pub may_use : State → ℕ → ℕ → Bool
may_use s i p = member p (held s i)

-- A seat holds a declared pair.
unfoldable pub pair_seat : State → ℕ → Bool
pair_seat s i = holds_pair s.graph.conflicts (held s i)

-- A seat holds both privileges of the pair offered.
unfoldable pub offered_seat : State → ℕ → ℕ → ℕ → Bool
offered_seat s a b i = holds_both a b (held s i)
