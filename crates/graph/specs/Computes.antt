-- One name that opens every definition below it: a theorem by evaluation says `unfolding computes`.
use Rattle.sets.specs.Counting.{any, count, lowest, sum}
use Rattle.sets.specs.Sets.{digit, member, single, union, intersection, difference, included, strictly_included, size, lowest_member, when, collect, gather}
use Rattle.order.specs.Paths.{drawn}
use Rattle.graph.specs.Tables.{at, table_from, table, put, take_out}
use Rattle.graph.specs.Graph.{is_end, fresh, ordinary, present, effective}
use Rattle.graph.specs.Conflicts.{conflict, declared, holds_both, holds_pair, declare, lift}
use Rattle.graph.specs.Drawing.{below, edge, juniors, seniors, edge_count, direct, redraw}
use Rattle.graph.specs.Closing.{counts, gathered, close}
use Rattle.graph.specs.Editing.{for_role, edit, changed}
use Rattle.graph.specs.Refusing.{verdict, input_checks, at_or_below, state_checks, empty_role, twin_role, pair_role, offered_role, still_below, closed_checks, change_checks, judged, declare_checks, lift_checks}

unfoldable pub computes : Unit {0}
unfolding any count lowest sum digit member single union intersection difference included strictly_included size lowest_member when collect gather drawn at table_from table put take_out is_end fresh ordinary present effective conflict declared holds_both holds_pair declare lift below edge juniors seniors edge_count direct redraw counts gathered close for_role edit changed verdict input_checks at_or_below state_checks empty_role twin_role pair_role offered_role still_below closed_checks change_checks judged declare_checks lift_checks
computes = tt
