-- Document 01, "Closing and redrawing", closing: effective sets from direct privileges and edges.
use Rattle.std.specs.Prelude.{Bool, not, ◌&&◌, ◌||◌, List, ℕ, zero, suc, eqb}
use Rattle.sets.specs.Sets.{empty, member, union, collect, gather}
use Rattle.graph.specs.Tables.{at, table}
use Rattle.graph.specs.Graph.{role_count, max_role, is_end}
use Rattle.graph.specs.Drawing.{Drawing}

-- r is an ordinary role of the drawing.
abbrev pub drawn_role : Drawing → ℕ → Bool
drawn_role d r = not (is_end r) && member r d.roles

-- t counts as a junior of r: by an edge, or as an ordinary role of MaxRole.
unfoldable pub counts : Drawing → ℕ → ℕ → Bool
counts d t r = d.joins t r || (eqb r max_role && drawn_role d t)

-- A role's direct privileges joined with the sets of its juniors, down to n roles; without a circle of juniors role-count is deep enough for every role.
unfoldable pub gathered : (ℕ → ℕ) → (ℕ → ℕ → Bool) → ℕ → ℕ → ℕ
gathered directs junior zero r = empty
gathered directs junior (suc n) r = union (directs r) (gather role_count (λ t. junior t r) (gathered directs junior n))

-- The effective sets that closing gives; direct sets and juniors are tabled first, so that each is computed once.
unfoldable pub close : Drawing → List ℕ
close d =
    let directs = table role_count d.directs in
    let juniors = table role_count (λ r. collect role_count (λ t. counts d t r)) in
    table role_count (gathered (at directs) (λ t r. member t (at juniors r)) role_count)
