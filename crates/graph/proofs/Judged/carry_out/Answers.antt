-- `graph::Judged::carry_out` meets its contract: the tables that drawing gives hold the drawn graph, after the edit the edited one, and closing them closes it.
-- Assumes nothing.
use mathlib.Core.List.{List, []}
use Prim.Native.Nat.{ℕ}
use mathlib.Core.Path.{ap₂}
use borrow.Author.Rules.{rules}
use Rattle.graph.specs.Drawing.{redraw}
use Rattle.graph.specs.Editing.{edit, changed}
use Rattle.graph.specs.Reading.{drawn, read_change}
use Rattle.graph.specs.Laying.{Lies}
use Rattle.graph.proofs.Holding.{drawn_holds}
use Rattle.graph.proofs.Judged.carry_out.Goals as goal
use Rattle.graph.proofs.Judged.carry_out.Goals.{After-edit}

-- After the edit the tables hold the edited drawing.
held : (c : After-edit) → (let j = c.args.self in Lies (edit (read_change j.change) (redraw (drawn j.graph))) c.edit.new.self)
held c = c.edit.ensures _ (drawn_holds (drawn c.args.self.graph) (search rules) c.senior_roles-seniors.ensures c.draw-juniors.ensures c.direct_sets.ensures) c.args.self.passes

pub closed-requires : goal.closed-requires
closed-requires c = (_, held (goal.at.closed-requires c).After-edit)

pub returns : goal.returns
unfolding changed
returns c =
    let h = held (goal.at.returns c).After-edit in ap₂ (λ (r : ℕ) (s : List ℕ). record { roles = r; sets = s; conflicts = [] }) h.same_roles (c.closed.ensures _ h)
