-- `graph::searching::absent_in` meets its contract: present are the end roles and the ordinary roles.
-- Assumes nothing.
use mathlib.Core.Bool.{Bool, not, ◌&&◌, ◌||◌}
use mathlib.Core.List.{[]}
use mathlib.Core.Path.{◌≡◌, ap, ◌∙◌}
use Prim.Native.Nat.{ℕ}
use Rattle.sets.specs.Sets.{member, union, difference}
use Rattle.sets.proofs.Laws.{member-union, member-difference}
use Rattle.graph.specs.Graph.{role_count, present, end_roles}
use Rattle.graph.specs.Reading.{drawn_from}
use Rattle.graph.specs.Searching.{lowest_found}
use Rattle.graph.proofs.DrawingCode.{member_ends}
use Rattle.graph.proofs.Searches.{found_cong}
use Rattle.graph.proofs.searching.absent_in.Goals as goal

absent_found : (roles s : ℕ) → lowest_found role_count (λ n. member n (difference s (union end_roles roles))) ≡ lowest_found role_count (λ n. member n s && not (present (drawn_from roles []) n))
unfolding present
absent_found roles s =
    found_cong role_count (λ n. member n (difference s (union end_roles roles))) (λ n. member n s && not (present (drawn_from roles []) n))
    (λ n _.
    member-difference n s (union end_roles roles)
    ∙ ap (λ (b : Bool). member n s && not b) (member-union n end_roles roles ∙ ap (λ (b : Bool). b || member n roles) (member_ends n)))

pub returns : goal.returns
returns c =
    c.lowest_in.ensures
    ∙ ap (λ (s : ℕ). lowest_found role_count (λ n. member n s)) (c.difference.ensures ∙ ap (difference _) c.union.ensures)
    ∙ absent_found c.args.roles c.args.s
