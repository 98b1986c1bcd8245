-- `seats::LentState::holds_pair_with` meets its contract: a seat without roles holds nothing.
-- Assumes nothing.
use mathlib.Core.Path.{sym, ap, ap₂, ◌∙◌}
use Prim.Native.Nat.{ℕ}
use Rattle.sets.specs.Sets.{union}
use Rattle.graph.specs.Conflicts.{holds_pair}
use Rattle.graph.specs.Reading.{sets_in}
use Rattle.seats.proofs.Requests.{joint, none_pair}
use Rattle.seats.proofs.LentState.holds_pair_with.Goals as goal

pub returns-else-roles-ne0 : goal.returns-else-roles-ne0
returns-else-roles-ne0 c =
    let s = c.args.self in
    rw c.if-roles-ne0.false
    (sym (ap (λ (roles : ℕ). holds_pair (sets_in s.conflicts.now) (joint (sets_in s.graph.sets.now) roles)) (sym (c.union-roles.ensures ∙ ap₂ union c.entry.ensures c.when.ensures) ∙ c.if-roles-ne0.false) ∙ none_pair _ _))
