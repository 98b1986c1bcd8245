-- `sittings::following::judge_found` meets its contract: what is found is refused, and nothing else.
-- Assumes nothing.
use mathlib.Core.Path.{sym, ap, ◌∙◌}
use Rattle.graph.specs.Refusing.{refused}
use Rattle.graph.specs.Reading.{read_verdict}
use Rattle.graph.proofs.Judging.{stops, moves_on, ends, place_found, place_lowest, place_none}
use Rattle.sittings.proofs.following.judge_found.Goals as goal

pub returns-in-Some : goal.returns-in-Some
returns-in-Some c f e =
    c.refuse.ensures ∙ ap (refused 35) (place_lowest _ _ e c.in-Some.is) ∙ sym (stops _ _ (place_found _ _ e c.in-Some.is))

pub returns-in-None : goal.returns-in-None
unfolding read_verdict
returns-in-None c f e = ends ∙ sym (moves_on _ _ (place_none _ _ e c.in-None.is))
