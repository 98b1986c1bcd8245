-- `sittings::Sitting::switch_off` meets its contract: the seat that kind 11 names is looked at, and no other request switches anything off.
-- Assumes nothing.
use mathlib.Core.Path.{ap, ap₂, ◌∙◌}
use lib.ListN.{set}
use Rattle.graph.specs.Tables.{at}
use Rattle.seats.specs.Reading.{read_state, read_request}
use Rattle.sittings.specs.Sittings.{Sitting, still_covered}
use Rattle.sittings.specs.Calls.{active_after}
use Rattle.sittings.specs.Reading.{sitting_of}
use Rattle.sittings.proofs.TakenCalls.{none_off}
use Rattle.sittings.proofs.Sitting.switch_off.Goals as goal

pub returns-in-Unassign : goal.returns-in-Unassign
unfolding read_request active_after
returns-in-Unassign c =
    let z = c.args.self.now in
    let i = c.in-Unassign.seat.0 in
    let u = c.unassigned-row.ensures in
    rw c.in-Unassign.is
    (ap (sitting_of (read_state z.state) z.pairs)
    (c.store.ensures ∙ ap₂ (set z.active) u.0 (u.1 ∙ ap (λ (y : Sitting). still_covered y.state i (at y.active i)) c.lent.ensures)))

pub returns-in_default : goal.returns-in_default
returns-in_default c =
    let z = c.args.self.now in
    ap (sitting_of (read_state z.state) z.pairs) (none_off _ _ c.args.request c.in_default.not-Unassign)
