-- `sittings::LentSitting::may_active` meets its contract: a refusal is no yes.
-- Assumes nothing.
use mathlib.Core.Path.{◌≡◌, refl, ap, ◌∙◌}
use mathlib.Core.Bool.{Bool, false}
use Rattle.std.specs.Prelude.{Result, Ok, Err}
use Rattle.std.specs.Result.{result_unwrap_or}
use Rattle.graph.specs.declared.Refusal.{Refusal}
use Rattle.seats.specs.Asks.{is_yes}
use Rattle.seats.specs.Reading.{read_asked}
use Rattle.sittings.proofs.LentSitting.may_active.Goals as goal

-- What is read of an answer is a yes where it is.
yes : (r : Result Bool Refusal) → result_unwrap_or r false ≡ is_yes (read_asked r)
unfolding is_yes read_asked
yes (Ok b) = refl
yes (Err r) = refl

pub returns : goal.returns
returns c = c.unwrap_or.ensures ∙ yes c.ask_active.result ∙ ap is_yes c.ask_active.ensures
