-- `seats::saving::occupied` meets its contract: of all seats, those that have roles are collected.
-- Assumes nothing.
use borrow.Author.Rules.{rules}
use mathlib.Core.Path.{refl}
use Rattle.seats.proofs.StoredEntries.{filled}
use Rattle.seats.proofs.MemberEntries.{collected_below}
use Rattle.seats.proofs.saving.occupied.Goals as goal

pub returns : goal.returns
returns c = collected_below refl (filled c.args.seats.now) _ c.fold.ensures.ran (λ b n d q k. search rules)
