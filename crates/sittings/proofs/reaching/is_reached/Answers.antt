-- `sittings::reaching::is_reached` meets its contract: it searches the roles for one that is t or lies above it.
-- Assumes nothing.
use borrow.Author.Rules.{rules}
use Rattle.sets.proofs.Walking.{any_member}
use Rattle.graph.specs.Refusing.{at_or_below}
use Rattle.graph.specs.Reading.{drawn}
use Rattle.sittings.specs.Sittings.{reaches}
use Rattle.sittings.proofs.reaching.is_reached.Goals as goal

pub returns : goal.returns
unfolding reaches at_or_below
returns c = any_member c.members.ensures (at_or_below (drawn c.args.graph) c.args.t.0) _ _ _ c.any.ensures.ran (λ n b q k. search rules)
