-- `sittings::LentSitting::unassigned` meets its contract: the seat's active roles that its assigned roles reach.
-- Assumes nothing.
use mathlib.Core.Bool.{◌&&◌}
use mathlib.Core.Path.{refl, ap₂, ◌∙◌}
use Prim.Native.Nat.{ℕ}
use Rattle.sets.specs.Sets.{member, collect}
use Rattle.graph.specs.Graph.{role_count, ordinary, present, effective}
use Rattle.graph.specs.Drawing.{below}
use Rattle.graph.specs.Refusing.{at_or_below}
use Rattle.graph.specs.Reading.{drawn}
use Rattle.sittings.specs.Sittings.{reaches, covered, still_covered}
use Rattle.sittings.proofs.LentSitting.unassigned.Goals as goal

pub returns : goal.returns
unfolding still_covered covered reaches at_or_below below present ordinary effective
returns c =
    let g = drawn c.args.self.state.graph in (
      refl,
      c.still_reached.ensures ∙ ap₂ (λ (held own : ℕ). collect role_count (λ r. member r own && reaches g held r)) c.roles_of-held.ensures c.entry-own.ensures,
    )
