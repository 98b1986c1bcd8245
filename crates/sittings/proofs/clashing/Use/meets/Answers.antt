-- `sittings::clashing::Use::meets` meets its contract: it searches the row for a role that is together with p.
-- Assumes nothing.
use borrow.Author.Rules.{rules}
use mathlib.Core.Bool.{◌&&◌, ◌||◌, or_assoc}
use mathlib.Core.Path.{◌≡◌, sym, ap, ap₂, ◌∙◌}
use Prim.Native.Nat.{ℕ}
use Rattle.sets.specs.Sets.{member}
use Rattle.sets.proofs.Counting.{any_cong}
use Rattle.sets.proofs.Laws.{member-union}
use Rattle.sets.proofs.Walking.{any_member}
use Rattle.graph.specs.Tables.{at}
use Rattle.graph.specs.Graph.{role_count}
use Rattle.sittings.specs.Working.{together_by, meets_by}
use Rattle.sittings.proofs.Reached.{none_met}
use Rattle.sittings.proofs.clashing.Use.meets.Goals as goal
use Rattle.sittings.proofs.clashing.Use.meets.Goals.{After-any}

-- What is beside p, with what p is below, is what is together with it.
beside : (c : After-any) (n : ℕ) → member c.args.p (at c.args.self.lower.now n) || member n c.union-beside.result ≡ together_by c.args.self.lower.now c.args.self.used.now c.args.p n
beside c n =
    let up = member c.args.p (at c.args.self.lower.now n) in
    ap (◌||◌ up)
    (ap (member n) c.union-beside.ensures ∙ member-union n c.entry.result c.shared.result ∙ ap₂ ◌||◌ (ap (member n) c.entry.ensures) (c.shared.ensures n))
    ∙ sym (or_assoc up _ _)

pub returns-then-row-eq0 : goal.returns-then-row-eq0
returns-then-row-eq0 c =
    let g = c.args in
    let s = g.self in
    sym (ap (meets_by s.lower.now s.used.now g.p) c.if-row-eq0.true ∙ none_met s.lower.now s.used.now g.p)

pub returns : goal.returns
returns c =
    let g = c.args in
    any_member c.members.ensures (λ n. member g.p (at g.self.lower.now n) || member n c.union-beside.result) _ _ _ c.any.ensures.ran (λ n b q k. search rules)
    ∙ any_cong role_count _ _ (λ n h. ap (◌&&◌ (member n g.row)) (beside c n))
