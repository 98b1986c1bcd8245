-- One name that opens every definition below it: a theorem by evaluation says `unfolding computes`.
use Rattle.lists.specs.Runs.{trace_in}
use Rattle.seats.specs.Computes as seats
use Rattle.sittings.specs.Sittings.{begun, fresh, excluded, is_active, reaches, covered, in_use, still_covered, still_active, together, clashing, may_use_active}
use Rattle.sittings.specs.Calls.{drawn_checks, checks, without_role, pairs_changed, pairs_after, active_after, after, reply, perform, ask_active}
use Rattle.sittings.specs.Records.{own_kind, own, decoded, decode, perform_decoded, step}
use Rattle.sittings.specs.Images.{settle_load, load_over}
use Rattle.sittings.specs.Lists.{answers, end, without_refused, is_base, lifted, exclusion_change, exclusion_call, exclusion, activity, by_call, history, history_in}
use Rattle.sittings.specs.Tape.{printed}

unfoldable pub computes : Unit {0}
unfolding trace_in seats.computes begun fresh excluded is_active reaches covered in_use still_covered still_active together clashing may_use_active drawn_checks checks without_role pairs_changed pairs_after active_after after reply perform ask_active own_kind own decoded decode perform_decoded step settle_load load_over answers end without_refused is_base lifted exclusion_change exclusion_call exclusion activity by_call history history_in printed
computes = tt
