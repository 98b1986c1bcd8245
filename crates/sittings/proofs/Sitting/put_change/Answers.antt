-- `sittings::Sitting::put_change` meets its contract: where there is no pair and nothing active only the state is stored; otherwise what follows refuses the change or is stored with it.
-- Assumes nothing.
use borrow.Author.Rules.{rules}
use mathlib.Core.Bool.{◌&&◌}
use mathlib.Core.Path.{◌≡◌, sym, ap, ◌∙◌}
use lib.ListN.{length}
use Rattle.std.proofs.lemmas.Result.{err_from_is_err_and}
use Rattle.graph.specs.Graph.{role_count}
use Rattle.graph.specs.Reading.{read_change}
use Rattle.seats.specs.Seats.{seat_count}
use Rattle.seats.specs.Records.{all_empty}
use Rattle.seats.specs.Reading.{read_answer}
use Rattle.sittings.specs.Sittings.{Sitting}
use Rattle.sittings.specs.Reading.{read_sitting}
use Rattle.sittings.proofs.TakenCalls.{idle_change, together_change, apart_change}
use Rattle.sittings.proofs.Sitting.put_change.Goals as goal

pub returns-then-is_idle : goal.returns-then-is_idle
unfolding read_answer
returns-then-is_idle c =
    let g = c.args in
    let k : length g.self.now.pairs ≡ role_count = search rules in
    let l : length g.self.now.active ≡ seat_count = search rules in
    idle_change (read_sitting g.self.now) (read_change g.edit) c.requires (ap (λ (z : Sitting). all_empty z.pairs && all_empty z.active) (sym c.lent.ensures) ∙ sym c.is_idle.ensures ∙ c.if-is_idle.true) k l

pub returns-in_err-followed : goal.returns-in_err-followed
unfolding read_answer
returns-in_err-followed c =
    let g = c.args in
    let p = err_from_is_err_and c.from_residual.result c.from_residual.ensures.1 in
    rw (p.1, p.2) (together_change (read_sitting g.self.now) (read_change g.edit) c.requires c.follow-followed.ensures.2 c.in_err-followed.was)

pub returns : goal.returns
unfolding read_answer
returns c =
    let g = c.args in
    let k : length g.self.now.pairs ≡ role_count = search rules in
    let x = c.follow-followed.ensures in
    apart_change (read_sitting g.self.now) (read_change g.edit) c.requires x.2 c.in_ok-followed.was x.0 x.1 k
