-- Demand 3 on the code: the list theorem for every chain of the step's promise, from a fresh sitting and from what loading accepts.
-- Assumes nothing.
use mathlib.Core.Path.{refl, sym, ap, ◌∙◌, subst}
use Rattle.seats.specs.Seats as seats
use Rattle.seats.specs.Calls as calls
use Rattle.seats.specs.ListTheorem.{from_fresh, from_image}
use Rattle.seats.specs.Reading.{read_answer}
use Rattle.sittings.specs.Sittings.{fresh}
use Rattle.sittings.specs.ListTheorem.{Start, begins, ListTheorem}
use Rattle.sittings.specs.Promises.{StepPromise, KeeperStart, made_fresh, made_by_loading, DemandThreeOnCode}
use Rattle.sittings.specs.Reading.{read_sitting}
use Rattle.sittings.specs.declared.Sitting.{Sitting}
use Rattle.sittings.proofs.LoadOver.{accepted_load}
use Rattle.sittings.proofs.ListTheorem.{list_theorem}

-- What a keeper starts with is a start of the list theorem.
start : (c : Sitting) → KeeperStart c → Start (read_sitting c)
unfolding fresh
start _ (made_fresh c e) = subst Start (sym e) (begins seats.fresh from_fresh)
start _ (made_by_loading z c bytes a b p e) =
    let (holds, begun) = accepted_load (read_sitting z) bytes (read_sitting c) (ap (λ (x : calls.Answer). (x, read_sitting c)) (sym e) ∙ p) in
    subst Start (sym begun) (begins (read_sitting c).state (from_image bytes (read_sitting c).state b holds))

pub keeper_theorem : DemandThreeOnCode
keeper_theorem c d l m k b chain =
    let t = list_theorem (read_sitting c) (start c k) l b in
    let (x, y, z) = ListTheorem.keeper_agrees t read_sitting read_answer StepPromise (λ s r a t p. sym p) c d m refl chain in
    record { same_answers = x; same_end = y; same_edges = z; definitions = t }
