-- `graph::searching::end_in` meets its contract: the members of the set of end roles are the end roles.
-- Assumes nothing.
use mathlib.Core.Bool.{Bool, ◌&&◌}
use mathlib.Core.Path.{◌≡◌, ap, ◌∙◌}
use Prim.Native.Nat.{ℕ}
use Rattle.sets.specs.Sets.{member, intersection}
use Rattle.sets.proofs.Laws.{member-intersection}
use Rattle.graph.specs.Graph.{role_count, is_end, end_roles}
use Rattle.graph.specs.Searching.{lowest_found}
use Rattle.graph.proofs.DrawingCode.{member_ends}
use Rattle.graph.proofs.Searches.{found_cong}
use Rattle.graph.proofs.searching.end_in.Goals as goal

end_found : (s : ℕ) → lowest_found role_count (λ n. member n (intersection end_roles s)) ≡ lowest_found role_count (λ n. is_end n && member n s)
end_found s =
    found_cong role_count (λ n. member n (intersection end_roles s)) (λ n. is_end n && member n s)
    (λ n _. member-intersection n end_roles s ∙ ap (λ (b : Bool). b && member n s) (member_ends n))

pub returns : goal.returns
returns c =
    c.lowest_in.ensures ∙ ap (λ (s : ℕ). lowest_found role_count (λ n. member n s)) c.intersection.ensures ∙ end_found c.args.s
