-- One name that opens every definition below it: a theorem by evaluation says `unfolding computes`.
use Rattle.lists.specs.Runs.{run, unrefused, trace}
use Rattle.lists.specs.Settling as settling
use Rattle.graph.specs.Computes as graph
use Rattle.seats.specs.Seats.{fresh, assigned, held, may_use, pair_seat, offered_seat}
use Rattle.seats.specs.Calls.{seat_checks, checks, with_graph, with_conflicts, with_seats, after, reply, judged, settle, perform, is_refusal}
use Rattle.seats.specs.Bytes.{bytes_of, number_at, fill}
use Rattle.seats.specs.Records.{fields, record_of, all_empty, unused, kind, kinds, decode, perform_decoded, step}
use Rattle.seats.specs.Images.{listed_from, role_entries, conflict_entries, seat_entries, entry_bytes, distance, trailer, parts, image, entries_at, far_at, counts_at, contents, keys, stored, stored_pairs, restored, some, unordered, pair_place, no_ordinary_number, entry_checks, content_checks, unless_refused, load_contents, load_trailer, load, settle_load, load_over}
use Rattle.seats.specs.Saving.{save}
use Rattle.seats.specs.Lists.{answers, end, without_refused, presence_change, presence, declaration, assignment, by_call, history}
use Rattle.seats.specs.Tape.{records_upto, records, digits_upto, digits, answer_number, answer_place, line, lines, end_line, fed, feed, joined, fed_parts}

unfoldable pub computes : Unit {0}
unfolding run unrefused trace graph.computes fresh assigned held may_use pair_seat offered_seat seat_checks checks with_graph with_conflicts with_seats after reply judged settling.settle settle perform is_refusal bytes_of number_at fill fields record_of all_empty unused kind kinds decode perform_decoded step listed_from role_entries conflict_entries seat_entries entry_bytes distance trailer parts image entries_at far_at counts_at contents keys stored stored_pairs restored some unordered pair_place no_ordinary_number entry_checks content_checks unless_refused load_contents load_trailer load settle_load load_over save answers end without_refused presence_change presence declaration assignment by_call history records_upto records digits_upto digits answer_number answer_place line lines end_line fed feed joined fed_parts
computes = tt
