-- `graph::RoleGraph::is_direct` meets its contract: a privilege is direct in s where s has it and no immediate junior does.
-- Assumes nothing.
use borrow.Author.Rules.{rules}
use mathlib.Core.Bool.{true, false}
use mathlib.Core.Path.{◌≡◌}
use Rattle.graph.specs.Reading.{drawn}
use Rattle.graph.proofs.DrawingCode.{direct-member, inherited_tests}
use Rattle.graph.proofs.RoleGraph.is_direct.Goals as goal

pub returns-then-not-member : goal.returns-then-not-member
returns-then-not-member c =
    let none : c.member.result ≡ false = search rules in
    rw (direct-member, ← c.effective_of.ensures, ← c.member.ensures, none)

pub returns-then-lower_has : goal.returns-then-lower_has
returns-then-lower_has c =
    let a = c.args in
    let some : c.member.result ≡ true = search rules in
    rw (direct-member, ← c.effective_of.ensures, ← c.member.ensures, some, inherited_tests (drawn a.self) (search rules) a.s.0 a.privilege.0, ← c.lower_has.ensures, c.if-lower_has.true)

pub returns-then-not-member-2 : goal.returns-then-not-member-2
returns-then-not-member-2 c =
    let a = c.args in
    let some : c.member.result ≡ true = search rules in
    let none : c.member-2.result ≡ false = search rules in
    rw (direct-member, ← c.effective_of.ensures, ← c.member.ensures, some, inherited_tests (drawn a.self) (search rules) a.s.0 a.privilege.0, ← c.lower_has.ensures, c.if-lower_has.false, ← c.effective_of-2.ensures, ← c.member-2.ensures, none)

pub returns : goal.returns
returns c =
    let some : c.member.result ≡ true = search rules in
    rw (direct-member, ← c.effective_of.ensures, ← c.member.ensures, some, ← c.inherited.ensures, c.member-3.ensures)
