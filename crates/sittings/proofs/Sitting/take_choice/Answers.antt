-- `sittings::Sitting::take_choice` meets its contract: what the choice stores is stored, and a refused one leaves the sitting.
-- Assumes nothing.
use mathlib.Core.List.{List}
use mathlib.Core.Path.{◌≡◌, sym, ap, ◌∙◌}
use Prim.Native.Nat.{ℕ}
use Rattle.std.specs.Prelude.{Ok}
use Rattle.std.proofs.lemmas.Result.{err_from_is_err_and}
use Rattle.seats.specs.Calls.{accepted}
use Rattle.seats.specs.Reading.{read_answer}
use Rattle.sittings.specs.declared.Chosen.{Chosen}
use Rattle.sittings.specs.Sittings.{Sitting}
use Rattle.sittings.specs.Calls.{perform}
use Rattle.sittings.specs.Reading.{sitting_of, read_sitting, read_choice, read_chosen}
use Rattle.sittings.proofs.Sitting.take_choice.Goals as goal
use Rattle.sittings.proofs.Sitting.take_choice.Goals.{After-decide}

-- What the choice comes to on the sitting as it is lent, it comes to on the sitting.
decided : (j : After-decide) → (
    let z = read_sitting j.args.self.now in
    read_chosen z j.decide.result ≡ perform z (read_choice j.args.choice))
decided j =
    let q = j.lent.ensures in
    sym (ap (λ (h : Sitting). read_chosen h j.decide.result) q) ∙ j.decide.ensures ∙ ap (λ (h : Sitting). perform h (read_choice j.args.choice)) q

-- What was decided is read on the sitting.
read : (j : After-decide) {d : Chosen} → j.decide.result ≡ Ok d → (
    let z = read_sitting j.args.self.now in
    read_chosen z (Ok d) ≡ perform z (read_choice j.args.choice))
read j was = sym (ap (read_chosen (read_sitting j.args.self.now)) was) ∙ decided j

pub returns-in_err-row : goal.returns-in_err-row
unfolding read_answer read_chosen
returns-in_err-row c =
    let p = err_from_is_err_and c.from_residual.result c.from_residual.ensures.1 in
    rw (p.1, p.2) (sym (ap (read_chosen (read_sitting c.args.self.now)) c.in_err-row.was) ∙ decided (goal.at.returns-in_err-row c).After-decide)

pub returns-in-Pairs : goal.returns-in-Pairs
unfolding read_answer read_chosen
returns-in-Pairs c =
    let z = read_sitting c.args.self.now in
    ap (λ (P : List ℕ). (accepted, sitting_of z.state P z.active)) c.store.ensures
    ∙ read (goal.at.returns-in-Pairs c).After-decide (c.in_ok-row.was ∙ ap (λ (d : Chosen). Ok d) c.in-Pairs.is)

pub returns-in-Active : goal.returns-in-Active
unfolding read_answer read_chosen
returns-in-Active c =
    let z = read_sitting c.args.self.now in
    ap (λ (A : List ℕ). (accepted, sitting_of z.state z.pairs A)) c.store-in-Active.ensures
    ∙ read (goal.at.returns-in-Active c).After-decide (c.in_ok-row.was ∙ ap (λ (d : Chosen). Ok d) c.in-Active.is)
