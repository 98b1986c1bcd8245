-- `sittings::loading::load` meets its contract: what was read begins a sitting, or the sitting at hand is kept.
-- Assumes nothing.
use mathlib.Core.Path.{sym, ap, ◌∙◌}
use Rattle.seats.specs.Calls.{accepted}
use Rattle.seats.specs.Reading.{read_answer, read_image}
use Rattle.seats.proofs.LoadChecks.{loads_passed, loads_refused}
use Rattle.sittings.specs.Sittings.{Sitting}
use Rattle.sittings.specs.Images.{settle_load, load_over}
use Rattle.sittings.proofs.loading.load.Goals as goal

pub returns-in-Ok : goal.returns-in-Ok
unfolding load_over settle_load read_answer read_image
returns-in-Ok c =
    ap (λ (z : Sitting). (accepted, z)) c.begun.ensures ∙ sym (ap (settle_load _) (loads_passed _ _ c.in-Ok.ensures))

pub returns-in-Err : goal.returns-in-Err
unfolding load_over settle_load read_answer read_image
returns-in-Err c = sym (ap (settle_load _) (loads_refused _ _ _ _ c.in-Err.ensures))
