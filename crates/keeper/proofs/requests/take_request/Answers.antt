-- `keeper::requests::take_request` meets its contract: what the decision stores is stored in the block, and an accepted request switches off what it does.
-- Assumes nothing.
use mathlib.Core.Path.{◌≡◌, refl, sym, ap, ◌∙◌}
use mathlib.Core.Bool.{Bool}
use Prim.Native.Nat.{ℕ}
use native.Mathlib.Omega.{arith}
use Rattle.std.specs.Prelude.{Ok, Err}
use Rattle.std.proofs.lemmas.Result.{err_from_is_err_and}
use Rattle.graph.specs.declared.Refusal.{Refusal}
use Rattle.seats.specs.Seats.{State}
use Rattle.seats.specs.Calls.{accepted, answered, refused, perform}
use Rattle.seats.specs.Reading.{read_answer, read_request, read_decision}
use Rattle.seats.specs.Replies as code
use Rattle.seats.specs.declared.Decided.{Decided}
use Rattle.seats.specs.declared.Decided.TheVariants as decisions
use Rattle.seats.specs.declared.Reply.TheVariants as replies
use Rattle.sittings.specs.Sittings.{Sitting}
use Rattle.sittings.specs.Calls.{active_after}
use Rattle.sittings.specs.Reading.{sitting_of}
use Rattle.sittings.proofs.TakenCalls.{accepted_request, other_request}
use Rattle.keeper.specs.Block.{pairs_of, active_of, state_in, sitting_in, words_of}
use Rattle.keeper.proofs.BlockWords.{words_own}
use Rattle.keeper.proofs.BlockStates.{block_sized, decided_sized, made_of_words}
use Rattle.keeper.proofs.CodedAnswer.{leaves}
use Rattle.keeper.proofs.requests.take_request.Goals as goal
use Rattle.keeper.proofs.requests.take_request.Goals.{After-decide}

-- What the request comes to on the state as it is lent, it comes to on the block's.
decided : (j : After-decide) → (
    let s = state_in j.args.words.now in
    read_decision s j.decide.result ≡ perform s (read_request j.args.request))
decided j =
    let q = ap (λ (z : Sitting). z.state) j.lent.ensures in
    sym (ap (λ (s : State). read_decision s j.decide.result) q) ∙ j.decide.ensures ∙ ap (λ (s : State). perform s (read_request j.args.request)) q

-- What was decided is read on the block's state.
read : (j : After-decide) {d : Decided} → j.decide.result ≡ Ok d → (
    let s = state_in j.args.words.now in
    read_decision s (Ok d) ≡ perform s (read_request j.args.request))
read j was = sym (ap (read_decision (state_in j.args.words.now)) was) ∙ decided j

-- A refusal is not accepted, and neither is a yes or a no.
not_refused : {f : Refusal} → ◌≡◌ {A = code.Answer} (Err f) (Ok replies.Accepted) → ⊥
not_refused e = let z : ◌≡◌ {A = ℕ} 0 1 = cc in omega arith

not_answered : {b : Bool} → ◌≡◌ {A = code.Answer} (Ok (replies.Answered b)) (Ok replies.Accepted) → ⊥
not_answered e = let z : ◌≡◌ {A = ℕ} 0 1 = cc in omega arith

-- What stores something is accepted.
stores : (s : State) (d : Decided) → ((b : Bool) → d ≡ decisions.Answered b → ⊥) → (accepted, (read_decision s (Ok d)).1) ≡ read_decision s (Ok d)
unfolding read_decision
stores s (decisions.Conflicts e) o = refl
stores s (decisions.Roles e) o = refl
stores s (decisions.Answered b) o = absurd (o b refl)

pub returns-in_err-decided : goal.returns-in_err-decided
unfolding read_answer read_decision
returns-in_err-decided c =
    let W = c.args.words.now in
    let p = err_from_is_err_and c.from_residual.result c.from_residual.ensures.1 in
    rw (p.1, p.2)
    (leaves (refused _ _) (sitting_in W) (sym (words_own W c.told-words))
    (other_request (sitting_in W) c.args.request (state_in W) (Err _) not_refused (sym (ap (read_decision (state_in W)) c.in_err-decided.was) ∙ decided (goal.at.returns-in_err-decided c).After-decide)))

pub returns-in-Answered : goal.returns-in-Answered
unfolding read_answer read_decision
returns-in-Answered c =
    let W = c.args.words.now in
    let is = c.in-Answered.is in
    leaves (answered c.in-Answered.held) (sitting_in W)
    (c.put_decided.ensures ∙ ap (λ (d : Decided). words_of (sitting_of (read_decision (state_in W) (Ok d)).1 (pairs_of W) (active_of W))) is)
    (other_request (sitting_in W) c.args.request (state_in W) (Ok (replies.Answered _)) not_answered (read (goal.at.returns-in-Answered c).After-decide (c.in_ok-decided.was ∙ ap (λ (d : Decided). Ok d) is)))

pub returns : goal.returns
unfolding read_answer
returns c =
    let W = c.args.words.now in
    let r = c.args.request in
    let d = c.in_ok-decided.decided in
    let h = (read_decision (state_in W) (Ok d)).1 in
    let y = sitting_of h (pairs_of W) (active_of W) in
    leaves accepted (sitting_of h (pairs_of W) (active_after (read_request r) h (active_of W)))
    (c.switch_off.ensures
    ∙ made_of_words (λ z. sitting_of z.state z.pairs (active_after (read_request r) z.state z.active)) y (decided_sized (sitting_in W) d (block_sized W (omega arith))) c.put_decided.ensures)
    (accepted_request (sitting_in W) r h {a = Ok replies.Accepted} refl (stores (state_in W) d c.in_default.not-Answered ∙ read (goal.at.returns c).After-decide c.in_ok-decided.was) refl)
