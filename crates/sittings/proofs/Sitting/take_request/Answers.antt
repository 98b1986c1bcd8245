-- `sittings::Sitting::take_request` meets its contract: an accepted request switches off what it does, and any other answer leaves the active roles.
-- Assumes nothing.
use mathlib.Core.Path.{◌≡◌, sym, ap, ◌∙◌, refl}
use Rattle.std.specs.Prelude.{Ok}
use Rattle.std.proofs.lemmas.Result.{err_from_is_err_and}
use Rattle.seats.specs.Replies.{Answer}
use Rattle.seats.specs.Calls as base
use Rattle.seats.specs.Reading.{read_state, read_answer, read_request}
use Rattle.seats.specs.declared.Reply.{Reply}
use Rattle.seats.specs.declared.Reply.TheVariants as replies
use Rattle.sittings.specs.Sittings.{Sitting}
use Rattle.sittings.specs.Reading.{read_sitting}
use Rattle.sittings.proofs.TakenCalls.{accepted_request, refused_request, other_request}
use Rattle.sittings.proofs.Sitting.take_request.Goals as goal
use Rattle.sittings.proofs.Sitting.take_request.Goals.{After-take_request}

-- What the state answers.
taken : (j : After-take_request) {a : Answer} → j.take_request.result ≡ a → (
    let s = read_state j.args.self.now.state in
    (read_answer a, read_state j.take_request.new.self) ≡ base.perform s (read_request j.args.request))
taken j was = sym (ap (λ (a : Answer). (read_answer a, read_state j.take_request.new.self)) was) ∙ j.take_request.ensures

pub returns-in_err-reply : goal.returns-in_err-reply
unfolding read_answer
returns-in_err-reply c =
    let g = c.args in
    let p = err_from_is_err_and c.from_residual.result c.from_residual.ensures.1 in
    rw (p.1, p.2) (refused_request (read_sitting g.self.now) g.request _ _ (taken (goal.at.returns-in_err-reply c).After-take_request c.in_err-reply.was))

pub returns-in-Accepted : goal.returns-in-Accepted
returns-in-Accepted c =
    let g = c.args in
    ap (λ (y : Sitting). (read_answer (Ok c.in_ok-reply.reply), y)) c.switch_off.ensures
    ∙ accepted_request (read_sitting g.self.now) g.request _ (ap (λ (x : Reply). Ok x) c.in-Accepted.is) (taken (goal.at.returns-in-Accepted c).After-take_request c.in_ok-reply.was) refl

pub returns-in_default : goal.returns-in_default
returns-in_default c =
    let g = c.args in
    other_request (read_sitting g.self.now) g.request _ (Ok c.in_ok-reply.reply) (λ q. c.in_default.not-Accepted (let e : c.in_ok-reply.reply ≡ replies.Accepted = cc in e))
    (taken (goal.at.returns-in_default c).After-take_request c.in_ok-reply.was)
