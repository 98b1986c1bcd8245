-- `sittings::clashing::all_empty` meets its contract: the union of the entries is empty where each of them is.
-- Assumes nothing.
use borrow.Author.Rules.{rules}
use mathlib.Core.Path.{◌∙◌, ap}
use Prim.Native.Nat.{ℕ}
use lib.Dec.{eqb}
use Rattle.sets.specs.Sets.{union}
use Rattle.std.proofs.lemmas.Iterator.{YieldsList-from_slice}
use Rattle.std.proofs.lemmas.Iterator.Consumers.{fold_from_yields_List}
use Rattle.sittings.proofs.JoinedTables.{each_empty}
use Rattle.sittings.proofs.clashing.all_empty.Goals as goal

pub returns : goal.returns
returns c =
    let l = c.args.table.now in
    c.is_empty.ensures
    ∙ ap (λ (s : ℕ). eqb s 0) (fold_from_yields_List _ union _ _ c.fold.ensures.ran (YieldsList-from_slice l c.iter.ensures.rest) (λ a x b q k. search rules))
    ∙ each_empty l 0
