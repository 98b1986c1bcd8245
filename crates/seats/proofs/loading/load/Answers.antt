-- `seats::loading::load` meets its contract: what was read is taken, or the state at hand is kept.
-- Assumes nothing.
use mathlib.Core.Path.{sym}
use Rattle.seats.specs.Reading.{read_answer, read_image}
use Rattle.seats.proofs.LoadChecks.{loads_passed, loads_refused}
use Rattle.seats.proofs.LoadRefusals.{load_accepted_takes, load_refused_keeps}
use Rattle.seats.proofs.loading.load.Goals as goal

pub returns-in-Ok : goal.returns-in-Ok
unfolding read_answer read_image
returns-in-Ok c = sym (load_accepted_takes _ _ _ (loads_passed _ _ c.in-Ok.ensures))

pub returns-in-Err : goal.returns-in-Err
unfolding read_answer read_image
returns-in-Err c = sym (load_refused_keeps _ _ _ _ (loads_refused _ _ _ _ c.in-Err.ensures))
