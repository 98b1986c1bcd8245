-- `sittings::following::pairs_left` meets its contract: kind 3 takes the pairs of its role, and the other kinds none.
-- Assumes nothing.
use mathlib.Core.List.{List}
use mathlib.Core.Path.{◌≡◌, refl, sym, ap, ◌∙◌}
use Prim.Native.Nat.{ℕ}
use Rattle.graph.specs.Tables.{at, table}
use Rattle.graph.specs.Graph.{role_count}
use Rattle.graph.specs.Reading.{read_change}
use Rattle.graph.specs.declared.Change.TheVariants.{the_data, AddByPlace, AddByPrivileges, RemoveRole, Grant, Withdraw, AddEdge, RemoveEdge}
use Rattle.graph.specs.declared.Removal.TheVariants as removal
use Rattle.graph.specs.declared.Role.{Role}
use Rattle.graph.proofs.Tables.{length-table}
use Rattle.sittings.specs.Calls.{without_role, pairs_changed}
use Rattle.sittings.proofs.FilledTables.{table_whole}
use Rattle.sittings.proofs.following.pairs_left.Goals as goal

-- The other changes leave the pairs.
all_left : (P : List ℕ) (change : the_data) → ((a : Role) (b : removal.the_data) → change ≡ RemoveRole a b → ⊥) → P ≡ pairs_changed (read_change change) P
unfolding read_change pairs_changed
all_left P (AddByPlace a own juniors seniors) o = refl
all_left P (AddByPrivileges a own) o = refl
all_left P (RemoveRole a b) o = absurd (o a b refl)
all_left P (Grant a b) o = refl
all_left P (Withdraw a b) o = refl
all_left P (AddEdge a b) o = refl
all_left P (RemoveEdge a b) o = refl

pub returns-in-RemoveRole : goal.returns-in-RemoveRole
unfolding read_change pairs_changed without_role
returns-in-RemoveRole c = rw c.in-RemoveRole.is (c.without_role.ensures ∙ sym (table_whole role_count _ (length-table role_count _)))

pub returns-in_default : goal.returns-in_default
returns-in_default c =
    let g = c.args in
    c.whole.ensures ∙ ap (λ (l : List ℕ). table role_count (at l)) (all_left g.pairs.now g.edit c.in_default.not-RemoveRole)
