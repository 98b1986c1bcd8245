-- `keeper::choices::take_choice` meets its contract: what the choice stores is stored in the block, and a refused one leaves it.
-- Assumes nothing.
use mathlib.Core.Path.{◌≡◌, sym, ap, ◌∙◌}
use Rattle.std.specs.Prelude.{Ok}
use Rattle.std.proofs.lemmas.Result.{err_from_is_err_and}
use Rattle.seats.specs.Calls.{accepted, refused}
use Rattle.seats.specs.Reading.{read_answer}
use Rattle.sittings.specs.Sittings.{Sitting}
use Rattle.sittings.specs.Calls.{perform}
use Rattle.sittings.specs.Reading.{read_choice, read_chosen}
use Rattle.sittings.specs.declared.Chosen.{Chosen}
use Rattle.keeper.specs.Block.{pairs_of, active_of, sitting_in}
use Rattle.keeper.proofs.BlockWords.{has_own, pairs_put, active_put, stored_long, has_words, words_own}
use Rattle.keeper.proofs.CodedAnswer.{leaves}
use Rattle.keeper.proofs.choices.take_choice.Goals as goal
use Rattle.keeper.proofs.choices.take_choice.Goals.{After-decide}

-- What the choice comes to on the sitting as it is lent, it comes to on the block's.
decided : (j : After-decide) → (
    let z = sitting_in j.args.words.now in
    read_chosen z j.decide.result ≡ perform z (read_choice j.args.choice))
decided j =
    let q = j.lent.ensures in
    sym (ap (λ (z : Sitting). read_chosen z j.decide.result) q) ∙ j.decide.ensures ∙ ap (λ (z : Sitting). perform z (read_choice j.args.choice)) q

-- What was decided is read on the block's sitting.
read : (j : After-decide) {d : Chosen} → j.decide.result ≡ Ok d → (
    let z = sitting_in j.args.words.now in
    read_chosen z (Ok d) ≡ perform z (read_choice j.args.choice))
read j was = sym (ap (read_chosen (sitting_in j.args.words.now)) was) ∙ decided j

pub returns-in_err-row : goal.returns-in_err-row
unfolding read_answer read_chosen
returns-in_err-row c =
    let W = c.args.words.now in
    let p = err_from_is_err_and c.from_residual.result c.from_residual.ensures.1 in
    rw (p.1, p.2)
    (leaves (refused _ _) (sitting_in W) (sym (words_own W c.told-words)) (sym (ap (read_chosen (sitting_in W)) c.in_err-row.was) ∙ decided (goal.at.returns-in_err-row c).After-decide))

pub returns-in-Pairs : goal.returns-in-Pairs
unfolding read_answer read_chosen
returns-in-Pairs c =
    let W = c.args.words.now in
    leaves accepted _ (has_words (pairs_put (has_own W c.told-words) (stored_long (pairs_of W) _ _ c.store.ensures) c.store.ensures))
    (read (goal.at.returns-in-Pairs c).After-decide (c.in_ok-row.was ∙ ap (λ (d : Chosen). Ok d) c.in-Pairs.is))

pub returns-in-Active : goal.returns-in-Active
unfolding read_answer read_chosen
returns-in-Active c =
    let W = c.args.words.now in
    leaves accepted _ (has_words (active_put (has_own W c.told-words) (stored_long (active_of W) _ _ c.store-in-Active.ensures) c.store-in-Active.ensures))
    (read (goal.at.returns-in-Active c).After-decide (c.in_ok-row.was ∙ ap (λ (d : Chosen). Ok d) c.in-Active.is))
