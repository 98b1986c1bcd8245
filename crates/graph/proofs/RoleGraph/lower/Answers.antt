-- `graph::RoleGraph::lower` meets its contract: all roles but MaxRole lie below MaxRole, and below an ordinary role the ordinary ones whose sets its set strictly includes, and MinRole.
-- Assumes nothing.
use borrow.Author.Rules.{rules}
use mathlib.Core.Path.{◌∙◌}
use Rattle.graph.specs.Graph.{effective}
use Rattle.graph.specs.Reading.{drawn}
use Rattle.graph.proofs.DrawingCode.{found_ordinary, not_ordinary, below_top, below_ordinary, below_none}
use Rattle.graph.proofs.RoleGraph.lower.Goals as goal

pub returns-then-s-eq1 : goal.returns-then-s-eq1
returns-then-s-eq1 c =
    c.union.ensures ∙ rw (c.ordinary_roles-ordinary.ensures, c.if-s-eq1.true) (below_top (drawn c.args.self) (search rules))

pub returns-then-member : goal.returns-then-member
unfolding effective
returns-then-member c =
    let o = c.ordinary_roles-ordinary.ensures in
    let a = c.args in
    let g = drawn a.self in
    c.union-then-member.ensures
    ∙ rw (c.included_in.ensures, c.effective_of.ensures, o)
    (below_ordinary g (search rules) a.s.0 (found_ordinary g a.s.0 c.member.ensures o c.if-member.true))

pub returns : goal.returns
returns c =
    let a = c.args in
    let g = drawn a.self in
    below_none g (search rules) a.s.0 c.if-s-eq1.false (not_ordinary g a.s.0 c.member.ensures c.ordinary_roles-ordinary.ensures c.if-member.false)
