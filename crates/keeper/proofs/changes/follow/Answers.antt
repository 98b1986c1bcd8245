-- `keeper::changes::follow` meets its contract, by the parts of the sitting that the block holds.
-- Assumes nothing.
use mathlib.Core.Path.{◌≡◌, subst}
use mathlib.Core.List.{List, [], ◌∷◌}
use Prim.Native.Nat.{ℕ}
use Rattle.graph.specs.Tables.{at, table}
use Rattle.graph.specs.Graph.{role_count}
use Rattle.graph.specs.Editing.{Change}
use Rattle.graph.specs.Refusing.{verdict}
use Rattle.graph.specs.Reading.{read_verdict, read_change}
use Rattle.seats.specs.Seats.{State}
use Rattle.seats.proofs.Changing.{redrawn}
use Rattle.sittings.specs.Sittings.{Sitting, still_active}
use Rattle.sittings.specs.Calls.{pair_together, pairs_changed}
use Rattle.sittings.specs.Reading.{sitting_of}
use Rattle.sittings.specs.declared.Followed.{Followed}
use Rattle.keeper.proofs.changes.follow.Goals as goal

-- What follows the change c, which leaves the state h, by these pairs and active roles.
abbrev Follows : Change → Followed → State → List ℕ → List ℕ → Type 0
Follows c f h P A =
    (f.pairs ≡ table role_count (at (pairs_changed c P)))
    × (f.active ≡ still_active h A)
    × (read_verdict f.verdict ≡ verdict (pair_together (sitting_of h (pairs_changed c P) (still_active h A)) ∷ []))

pub returns : goal.returns
returns c =
    let a = c.args in
    let e = read_change a.edit in
    let r = c.follow.result in
    subst (λ (z : Sitting). Follows e r (redrawn z.state a.roles a.sets.now) z.pairs z.active) c.lent-sitting.ensures
    (subst (λ (h : State). Follows e r h c.lent-sitting.result.pairs.now c.lent-sitting.result.active.now) c.of-state.ensures c.follow.ensures)
