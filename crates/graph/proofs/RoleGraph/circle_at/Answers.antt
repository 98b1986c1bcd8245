-- `graph::RoleGraph::circle_at` meets its contract: a senior is j, or some senior lies below it.
-- Assumes nothing.
use borrow.Author.Rules.{rules}
use Rattle.graph.specs.Reading.{drawn}
use Rattle.graph.proofs.Searches.{circle_tests}
use Rattle.graph.proofs.RoleGraph.circle_at.Goals as goal

pub returns-then-member : goal.returns-then-member
returns-then-member c =
    let a = c.args in
    rw (← circle_tests (drawn a.self) a.seniors a.j.0 (search rules), ← c.member.ensures, c.if-member.true)

pub returns-else-member : goal.returns-else-member
returns-else-member c =
    let a = c.args in
    rw (← circle_tests (drawn a.self) a.seniors a.j.0 (search rules), ← c.member.ensures, c.if-member.false) c.some_below.ensures
