-- `sets::Set::member` meets its contract: below 64 the code reads the digit, and from 64 on a set of 64 digits has no members.
-- Assumes nothing.
use borrow.Author.Rules.{rules}
use borrow.Author.Tests.{le-ltb}
use mathlib.Core.Path.{sym, ◌∙◌}
use native.Mathlib.Omega.{arith}
use Rattle.sets.specs.Sets.{digit, member}
use Rattle.sets.proofs.Tests.{fails}
use Rattle.sets.proofs.Laws.{member-lt}
use Rattle.sets.proofs.Set.member.Goals as goal

pub returns-then-i-lt64 : goal.returns-then-i-lt64
unfolding member digit
returns-then-i-lt64 g c = rw (← c.number-i.ensures, ← c.word-s.ensures)

pub returns-else-i-lt64 : goal.returns-else-i-lt64
returns-else-i-lt64 g c =
    let s = c.word-s.result in
    let i = c.number-i.result in
    rw (← c.number-i.ensures, ← c.word-s.ensures)
    (le-ltb i 64 c.if-i-lt64.false ∙ sym (fails (member i s) (λ m. let l = member-lt 64 i s (search rules) m in omega arith)))
