-- `graph::refusing::judge_closed` meets its contract: only the removal of an edge has a check before those of the sets.
-- Assumes nothing.
use mathlib.Core.List.{[]}
use mathlib.Core.Path.{◌≡◌, refl, ◌∙◌, sym}
use Rattle.graph.specs.Graph.{Graph, effective}
use Rattle.graph.specs.Refusing.{still_below}
use Rattle.graph.specs.Reading.{read_change}
use Rattle.graph.specs.declared.Change.TheVariants.{the_data, AddByPlace, AddByPrivileges, RemoveRole, Grant, Withdraw, AddEdge, RemoveEdge}
use Rattle.graph.specs.declared.Role.{Role}
use Rattle.graph.proofs.Judging.{stops, moves_on}
use Rattle.graph.proofs.refusing.judge_closed.Goals as goal

pub returns-then-still_below : goal.returns-then-still_below
unfolding read_change still_below effective
returns-then-still_below c = rw c.in-RemoveEdge.is (c.refuse.ensures ∙ sym (stops _ _ (sym c.still_below.ensures ∙ c.if-still_below.true)))

pub returns-else-still_below : goal.returns-else-still_below
unfolding read_change still_below effective
returns-else-still_below c =
    rw c.in-RemoveEdge.is (c.judge_sets.ensures ∙ sym (moves_on _ _ (sym c.still_below.ensures ∙ c.if-still_below.false)))

-- The other changes have no check before those of the sets.
none_before : (h : Graph) (change : the_data) → ((a b : Role) → change ≡ RemoveEdge a b → ⊥) → still_below h (read_change change) ≡ []
unfolding read_change still_below
none_before h (AddByPlace a own juniors seniors) o = refl
none_before h (AddByPrivileges a own) o = refl
none_before h (RemoveRole a b) o = refl
none_before h (Grant a b) o = refl
none_before h (Withdraw a b) o = refl
none_before h (AddEdge a b) o = refl
none_before h (RemoveEdge a b) o = absurd (o a b refl)

pub returns-in_default : goal.returns-in_default
returns-in_default c = rw (none_before _ c.args.change c.in_default.not-RemoveEdge) c.judge_sets-in_default.ensures
