-- `seats::deciding::judge_removal` meets its contract: only the removal of a role is judged here.
-- Assumes nothing.
use mathlib.Core.List.{[]}
use mathlib.Core.Path.{◌≡◌, refl}
use Rattle.graph.specs.Reading.{read_verdict, read_change}
use Rattle.graph.specs.declared.Change.TheVariants.{the_data, AddByPlace, AddByPrivileges, RemoveRole, Grant, Withdraw, AddEdge, RemoveEdge}
use Rattle.graph.specs.declared.Role.{Role}
use Rattle.graph.specs.declared.Removal.TheVariants as removal
use Rattle.graph.proofs.Judging.{ends}
use Rattle.seats.specs.Seats.{State}
use Rattle.seats.specs.Working.{removal_checks}
use Rattle.seats.proofs.deciding.judge_removal.Goals as goal

pub returns-in-RemoveRole : goal.returns-in-RemoveRole
unfolding read_change
returns-in-RemoveRole c S C = rw c.in-RemoveRole.is (c.judge_held.ensures S C _)

-- The other changes have no check before closing here.
none_before : (s : State) (change : the_data) → ((a : Role) (b : removal.the_data) → change ≡ RemoveRole a b → ⊥) → removal_checks s (read_change change) ≡ []
unfolding read_change removal_checks
none_before s (AddByPlace a own juniors seniors) o = refl
none_before s (AddByPrivileges a own) o = refl
none_before s (RemoveRole a b) o = absurd (o a b refl)
none_before s (Grant a b) o = refl
none_before s (Withdraw a b) o = refl
none_before s (AddEdge a b) o = refl
none_before s (RemoveEdge a b) o = refl

pub returns-in_default : goal.returns-in_default
unfolding read_verdict
returns-in_default c S C = rw (none_before _ c.args.edit c.in_default.not-RemoveRole) ends
