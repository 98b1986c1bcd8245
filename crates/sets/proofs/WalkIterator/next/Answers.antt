-- `sets::WalkIterator::next` meets its contract: the lowest member left comes first among those left.
-- Assumes nothing.
use borrow.Author.Rules.{rules}
use mathlib.Core.Path.{ap}
use native.Mathlib.Omega.{arith}
use lib.ListN.{length}
use Rattle.sets.specs.Sets.{member, lowest_member}
use Rattle.sets.proofs.Counting.{lowest-le}
use Rattle.sets.proofs.Ascending.{members_none, members_first}
use Rattle.sets.proofs.WalkIterator.next.Goals as goal

pub overflow_cast-result : goal.overflow_cast-result
unfolding lowest_member
overflow_cast-result c = let l = lowest-le 64 (λ n. member n c.args.self.now.rest) in omega (arith, c.lowest_member.ensures)

pub returns-then-s-eq0-clause-steps : goal.returns-then-s-eq0-clause-steps
returns-then-s-eq0-clause-steps c = let e = members_none 64 c.if-s-eq0.true in (e, e)

pub returns-clause-steps : goal.returns-clause-steps
returns-clause-steps c = members_first 64 (search rules) c.if-s-eq0.false c.lowest_member.ensures c.without_lowest-self.ensures

pub returns-clause-goes : goal.returns-clause-goes
returns-clause-goes c =
    let l = ap length (members_first 64 (search rules) c.if-s-eq0.false c.lowest_member.ensures c.without_lowest-self.ensures) in
    record { on = λ f. (tt, tt, omega (arith, l)); keeps = tt; rests = λ f. tt }
