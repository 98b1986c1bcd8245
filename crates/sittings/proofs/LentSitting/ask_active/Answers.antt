-- `sittings::LentSitting::ask_active` meets its contract: its early returns are the two checks, and what is reached depends on the roles present and the sets alone.
-- Assumes nothing.
use borrow.Author.Tests.{le-leb, lt-leb}
use mathlib.Core.Bool.{◌&&◌}
use mathlib.Core.Path.{sym, ap, ◌∙◌}
use Prim.Native.Nat.{ℕ}
use Rattle.lists.specs.Settling as settling
use Rattle.sets.specs.Counting.{any}
use Rattle.sets.specs.Sets.{member}
use Rattle.graph.specs.Graph.{role_count, ordinary, present, effective}
use Rattle.graph.specs.Drawing.{below}
use Rattle.graph.specs.Refusing.{at_or_below}
use Rattle.graph.specs.Reading.{drawn}
use Rattle.graph.proofs.Judging.{stops, moves_on, ends}
use Rattle.seats.specs.Calls.{answered, judged, settle}
use Rattle.seats.specs.Reading.{read_asked}
use Rattle.sittings.specs.Sittings.{reaches, in_use, may_use_active}
use Rattle.sittings.specs.Reading.{lent}
use Rattle.sittings.proofs.Question.{asked}
use Rattle.sittings.proofs.LentSitting.ask_active.Goals as goal

pub returns-then-seat-ge64 : goal.returns-then-seat-ge64
unfolding settle judged settling.settle read_asked
returns-then-seat-ge64 c =
    let g = c.args in
    sym (asked (lent g.self) g.seat.0 g.privilege.0 (stops _ _ (le-leb 64 _ c.if-seat-ge64.true)))

pub returns-then-privilege-ge64 : goal.returns-then-privilege-ge64
unfolding settle judged settling.settle read_asked
returns-then-privilege-ge64 c =
    let g = c.args in
    sym (asked (lent g.self) g.seat.0 g.privilege.0 (moves_on _ _ (lt-leb 64 _ c.if-seat-ge64.false) ∙ stops _ _ (le-leb 64 _ c.if-privilege-ge64.true)))

pub returns : goal.returns
unfolding settle judged settling.settle may_use_active in_use reaches at_or_below below present ordinary effective read_asked
returns c =
    let g = c.args in
    let d = drawn g.self.state.graph in
    ap answered
    (c.reach_privilege.ensures
    ∙ ap (λ (roles : ℕ). any role_count (λ t. reaches d roles t && member g.privilege.0 (effective d t))) c.entry-held.ensures)
    ∙ sym (asked (lent g.self) g.seat.0 g.privilege.0 (moves_on _ _ (lt-leb 64 _ c.if-seat-ge64.false) ∙ moves_on _ _ (lt-leb 64 _ c.if-privilege-ge64.false) ∙ sym ends))
