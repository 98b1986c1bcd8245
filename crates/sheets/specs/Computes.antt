-- One name that opens every definition below it: a theorem by evaluation says `unfolding computes`.
use Rattle.lists.specs.Runs.{Each}
use Rattle.seats.specs.Computes as seats
use Rattle.sheets.specs.Sheets.{Ascending, table_of, set_of, row_call, row_record, calls_of, tape_of}
use Rattle.sheets.specs.Importing.{Leads, filled}
use Rattle.sheets.specs.Parsing.{and_then, rest, value, longer, begun, plain, binary, closed, quotable, further, ended, fronted, columns, opened, at_end, heading, marks, row, more, rows_upto, rows}

unfoldable pub computes : Unit {0}
unfolding Each seats.computes Ascending table_of set_of row_call row_record calls_of tape_of Leads filled and_then rest value longer begun plain binary closed quotable further ended fronted columns opened at_end heading marks row more rows_upto rows
computes = tt
