-- `sittings::clashing::Use::shared` meets its contract: it joins the entries of the table that have p.
-- Assumes nothing.
use borrow.Author.Rules.{rules}
use mathlib.Core.Bool.{Bool, ◌&&◌, ◌||◌}
use mathlib.Core.Path.{ap, ◌∙◌}
use Prim.Native.Nat.{ℕ}
use Rattle.std.specs.List.{list_any}
use Rattle.std.proofs.lemmas.Iterator.{YieldsList-from_slice}
use Rattle.std.proofs.lemmas.Iterator.Consumers.{fold_from_yields_List}
use Rattle.sets.specs.Sets.{member, union, when}
use Rattle.sets.specs.Counting.{any}
use Rattle.sets.proofs.Laws.{member-empty}
use Rattle.graph.specs.Tables.{at}
use Rattle.sittings.proofs.JoinedTables.{any_entry, member_shared}
use Rattle.sittings.proofs.clashing.Use.shared.Goals as goal

pub returns : goal.returns
returns c q =
    let p = c.args.p in
    let used = c.args.self.used.now in
    ap (member q)
    (fold_from_yields_List _ (λ t own. union t (when (member p own) own)) _ _ c.fold.ensures.ran (YieldsList-from_slice used c.iter.ensures.rest) (λ a x b r k. search rules))
    ∙ member_shared p q used 0
    ∙ ap (λ (b : Bool). b || list_any (λ own. member p own && member q own) used) (member-empty q)
    ∙ any_entry (λ own. member p own && member q own) used
    ∙ ap (λ (n : ℕ). any n (λ i. member p (at used i) && member q (at used i))) (search rules)
