-- `sittings::LentSitting::decide` meets its contract: each arm is its kind.
-- Assumes nothing.
use Rattle.sittings.specs.Reading.{read_choice}
use Rattle.sittings.proofs.LentSitting.decide.Goals as goal

pub returns-in-Exclude : goal.returns-in-Exclude
unfolding read_choice
returns-in-Exclude c = rw c.in-Exclude.is c.decide_exclude.ensures

pub returns-in-Activate : goal.returns-in-Activate
unfolding read_choice
returns-in-Activate c = rw c.in-Activate.is c.decide_activate.ensures

pub returns-in-Deactivate : goal.returns-in-Deactivate
unfolding read_choice
returns-in-Deactivate c = rw c.in-Deactivate.is c.decide_deactivate.ensures
