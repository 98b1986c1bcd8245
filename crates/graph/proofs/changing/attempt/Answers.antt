-- `graph::changing::attempt` meets its contract: what refuses leaves the graph, and otherwise the change is carried out.
-- Assumes nothing.
use borrow.Author.Rules.{rules}
use mathlib.Core.Path.{◌≡◌, sym, ap, ◌∙◌}
use Rattle.std.specs.Prelude.{Err}
use Rattle.graph.specs.Graph.{Graph}
use Rattle.graph.specs.Editing.{changed}
use Rattle.graph.specs.Refusing.{Verdict, passed, keep}
use Rattle.graph.specs.Reading.{drawn, read_verdict, read_attempt, read_change}
use Rattle.graph.proofs.changing.attempt.Goals as goal

pub returns-in_err-judge : goal.returns-in_err-judge
unfolding read_attempt read_verdict keep
returns-in_err-judge c =
    let a = c.args in
    let g = drawn a.graph in
    let same : c.from_residual.result ≡ Err c.in_err-judge.field-0.0 = search rules in
    ap (read_attempt g) same ∙ ap (λ (v : Verdict). keep v g (changed g (read_change a.change))) c.in_err-judge.ensures

pub invariant_of-carry_out : goal.invariant_of-carry_out
unfolding read_verdict
invariant_of-carry_out c = record { passes = sym c.in_ok-judge.ensures }

pub returns : goal.returns
unfolding read_attempt read_verdict keep
returns c =
    let a = c.args in
    let g = drawn a.graph in
    ap (λ (h : Graph). keep passed g h) c.carry_out.ensures ∙ ap (λ (v : Verdict). keep v g (changed g (read_change a.change))) c.in_ok-judge.ensures
