-- `seats::LentState::judge_early` meets its contract: what refuses a removal comes first, and else the graph's judge decides.
-- Assumes nothing.
use mathlib.Core.Path.{◌∙◌}
use Rattle.std.proofs.lemmas.Result.{err_from_is_err_and}
use Rattle.graph.specs.Refusing.{early}
use Rattle.graph.specs.Reading.{read_change}
use Rattle.seats.specs.Reading.{lent}
use Rattle.graph.proofs.Attempts.{early_any}
use Rattle.seats.proofs.Changing.{removal_first, before_alone}
use Rattle.seats.proofs.LentState.judge_early.Goals as goal

pub returns-in_err-judge_removal : goal.returns-in_err-judge_removal
returns-in_err-judge_removal c =
    let g = c.args.self in
    let p = err_from_is_err_and c.from_residual.result c.from_residual.ensures.1 in
    rw (p.1, p.2)
    (removal_first (lent g) (read_change c.args.edit) (c.judge_removal.ensures g.graph.sets.now g.conflicts.now) c.in_err-judge_removal.was)

pub returns : goal.returns
unfolding early
returns c =
    let g = c.args.self in
    let d = read_change c.args.edit in
    c.judge.ensures
    ∙ early_any g.graph.roles g.graph.sets.now g.conflicts.now d
    ∙ before_alone (lent g) d (c.judge_removal.ensures g.graph.sets.now g.conflicts.now) c.in_ok-judge_removal.was
