-- `answer_all` meets its contract.
-- Assumes nothing.
use native.Mathlib.Omega.{arith}
use Rattle.benchtape.proofs.Going.{started}
use Rattle.benchtape.proofs.answer_all.Goals as goal

pub loop-progress-init : goal.loop-progress-init
loop-progress-init c = (started _ c.fresh-sitting.ensures, λ e. omega arith)
