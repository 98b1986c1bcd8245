-- `seats::LentState::holds_offered` meets its contract: a seat without roles holds nothing.
-- Assumes nothing.
use mathlib.Core.Path.{sym, ap, ◌∙◌}
use Rattle.graph.specs.Conflicts.{holds_both}
use Rattle.graph.specs.Graph.{effective}
use Rattle.graph.specs.Reading.{sets_in}
use Rattle.seats.specs.Seats.{assigned, held, offered_seat}
use Rattle.seats.proofs.Requests.{joint, none_both}
use Prim.Native.Nat.{ℕ}
use Rattle.seats.proofs.LentState.holds_offered.Goals as goal

pub returns-then-own-ne0 : goal.returns-then-own-ne0
unfolding offered_seat held assigned effective
returns-then-own-ne0 c = c.holds_both.ensures ∙ ap (holds_both _ _) (c.union_at.ensures ∙ ap (joint _) c.entry-own.ensures)

pub returns-else-own-ne0 : goal.returns-else-own-ne0
unfolding offered_seat held assigned effective
returns-else-own-ne0 c =
    let g = c.args in
    rw c.if-own-ne0.false (sym (ap (λ (own : ℕ). holds_both g.a.0 g.b.0 (joint (sets_in g.self.graph.sets.now) own)) (sym c.entry-own.ensures ∙ c.if-own-ne0.false) ∙ none_both _ _ _))
