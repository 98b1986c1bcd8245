-- `seats::loading::max_lacks` meets its contract: it searches the ordinary roles for one that holds a privilege which MaxRole lacks.
-- Assumes nothing.
use borrow.Author.Rules.{rules}
use mathlib.Core.Bool.{not, ◌&&◌}
use mathlib.Core.Path.{ap, ◌∙◌}
use Prim.Native.Nat.{ℕ}
use Rattle.sets.specs.Counting.{any}
use Rattle.sets.specs.Sets.{included}
use Rattle.sets.proofs.Walking.{any_member}
use Rattle.graph.specs.Tables.{at}
use Rattle.graph.specs.Graph.{role_count, ordinary, effective}
use Rattle.graph.specs.Reading.{read_set, sets_in, drawn}
use Rattle.graph.proofs.Searches.{any_ordinary}
use Rattle.seats.proofs.loading.max_lacks.Goals as goal

pub returns : goal.returns
unfolding effective
returns c =
    let g = drawn c.args.graph in
    let sets = at (sets_in c.args.graph.sets.now) in
    any_member (c.members.ensures ∙ c.ordinary_roles.ensures) (λ r. not (included (sets r) (read_set c.effective_of-top.result))) _ _ _ c.any.ensures.ran (λ r b q k. search rules)
    ∙ any_ordinary g _
    ∙ ap (λ (top : ℕ). any role_count (λ r. ordinary g r && not (included (sets r) top))) c.effective_of-top.ensures
