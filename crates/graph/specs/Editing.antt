-- Document 01, "The twelve calls", kinds 1 to 7: what each does to the drawn graph, and the graph that closing makes of it.
use Rattle.std.specs.Prelude.{not, ◌&&◌, ◌||◌, ℕ, eqb}
use Rattle.sets.specs.Sets.{member, single, union, difference, when}
use Rattle.graph.specs.Graph.{Graph}
use Rattle.graph.specs.Drawing.{Drawing, redraw}
use Rattle.graph.specs.Closing.{close}

-- The calls that change roles, sets or edges, kinds 1 to 7, with the fields that each names.
pub data Change : Type 0 where
  -- role, direct set, juniors, seniors
  add_by_place : ℕ → ℕ → ℕ → ℕ → Change
  -- role, effective set
  add_by_privileges : ℕ → ℕ → Change
  -- role, and 1 where its direct privileges go to its immediate seniors
  remove_role : ℕ → ℕ → Change
  -- role, privilege
  grant : ℕ → ℕ → Change
  withdraw : ℕ → ℕ → Change
  -- junior, senior
  add_edge : ℕ → ℕ → Change
  remove_edge : ℕ → ℕ → Change

-- The set s for role a, and nothing for another role.
unfoldable pub for_role : ℕ → ℕ → ℕ → ℕ
for_role a s r = when (eqb r a) s

-- The edit of each kind.
unfoldable pub edit : Change → Drawing → Drawing
edit (add_by_place a own juniors seniors) d = record {
  roles = union d.roles (single a);
  directs = λ r. union (d.directs r) (for_role a own r);
  joins = λ t r. d.joins t r || ((eqb r a && member t juniors) || (member r seniors && eqb t a));
}
edit (add_by_privileges a own) d = record {
  roles = union d.roles (single a);
  directs = λ r. union (d.directs r) (for_role a own r);
  joins = d.joins;
}
edit (remove_role a b) d = record {
  roles = difference d.roles (single a);
  directs = λ r. when (not (eqb r a)) (union (d.directs r) (when (eqb b 1 && d.joins a r) (d.directs a)));
  joins = λ t r. not (eqb r a) && ((d.joins t r || (d.joins a r && d.joins t a)) && not (eqb t a));
}
edit (grant a b) d = record {
  roles = d.roles;
  directs = λ r. union (d.directs r) (for_role a (single b) r);
  joins = d.joins;
}
edit (withdraw a b) d = record {
  roles = d.roles;
  directs = λ r. difference (d.directs r) (for_role a (single b) r);
  joins = d.joins;
}
edit (add_edge a b) d = record {
  roles = d.roles;
  directs = d.directs;
  joins = λ t r. d.joins t r || (eqb r b && eqb t a);
}
edit (remove_edge a b) d = record {
  roles = d.roles;
  directs = d.directs;
  joins = λ t r. (d.joins t r && not (eqb r b && eqb t a)) || ((eqb r b && d.joins t a) || (d.joins b r && eqb t a));
}

-- The graph after a change: the drawn graph edited, then closed; redrawing follows from the sets.
unfoldable pub changed : Graph → Change → Graph
changed g c =
    let d = edit c (redraw g) in
    record { roles = d.roles; sets = close d; conflicts = g.conflicts }
