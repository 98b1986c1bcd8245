-- How the code's values are read as the paper's: states, calls, answers, and what filling a buffer answers.
use Rattle.std.specs.Prelude.{Bool, List, ℕ, set, Option, Some, None, Result, Ok, Err}
use Rattle.graph.specs.Refusing.{Verdict, passed}
use Rattle.graph.specs.Refusing as refusing
use Rattle.graph.specs.Reasons.{reason_number}
use Rattle.graph.specs.Reading.{read_set, sets_in, graph_of, read_change}
use Rattle.graph.specs.declared.Redrawn as redrawn-struct
use Rattle.graph.specs.declared.Refusal.{Refusal}
use Rattle.seats.specs.Seats.{State, fresh}
use Rattle.seats.specs.Calls.{Call, change, declare, lift, assign, unassign, ask, Answer, accepted, answered, refused, with_graph, with_conflicts, with_seats}
use Rattle.seats.specs.Records.{Decoded, malformed, well_formed, Fields}
use Rattle.seats.specs.Bytes.{Filled, written, too_short}
use Rattle.seats.specs.Images.{Counts, Measured, measured, unmeasured}
use Rattle.seats.specs.Tape.{PartAnswer, fills, uncounted}
use Rattle.seats.specs.declared.State as state-struct
use Rattle.seats.specs.declared.Request as request-enum
use Rattle.seats.specs.declared.Request.TheVariants as requests
use Rattle.seats.specs.declared.Call as call-enum
use Rattle.seats.specs.declared.Step.{Step}
use Rattle.seats.specs.declared.Call.TheVariants as calls
use Rattle.seats.specs.declared.records.Fields as fields-struct
use Rattle.seats.specs.declared.FeedError as error-enum
use Rattle.seats.specs.declared.FeedError.TheVariants as errors
use Rattle.seats.specs.declared.LentState as lent-struct
use Rattle.seats.specs.declared.Reply.TheVariants as replies
use Rattle.seats.specs.declared.Decided as decided-enum
use Rattle.seats.specs.declared.Decided.TheVariants as decisions
use Rattle.seats.specs.Replies as code
use Rattle.seats.specs.declared.Counts as counts-struct

-- The state of these roles, sets, conflicts and seats.
abbrev pub state_of : ℕ → List ℕ → List ℕ → List ℕ → State
state_of roles sets conflicts seats = record { graph = graph_of roles sets conflicts; seats = seats }

-- A state as the code holds it.
abbrev pub read_state : state-struct.State → State
read_state s = state_of s.roles s.sets s.conflicts s.seats

-- A state whose tables are lent.
abbrev pub lent : lent-struct.LentState → State
lent s = state_of s.graph.roles s.graph.sets.now s.conflicts.now s.seats.now

-- A request's kind and fields.
unfoldable pub read_request : request-enum.Request → Call
read_request (requests.Declare a b) = declare a.0 b.0
read_request (requests.Lift a b) = lift a.0 b.0
read_request (requests.Assign a b) = assign a.0 b.0
read_request (requests.Unassign a b) = unassign a.0 b.0
read_request (requests.Ask a b) = ask a.0 b.0

-- A call's kind and fields.
unfoldable pub read_call : call-enum.Call → Call
read_call (calls.Change c) = change (read_change c)
read_call (calls.Request r) = read_request r

-- The fields of a record beside its kind.
abbrev pub read_fields : fields-struct.Fields → Fields
read_fields f = record { a = f.a; b = f.b; x = read_set f.x; y = f.y; z = f.z }

-- What a record decodes to.
unfoldable pub read_decoded : Option Step → Decoded
read_decoded (Some s) = well_formed (read_call s.call)
read_decoded None = malformed

-- A refusal's number and place.
abbrev pub read_refusal : Refusal → Answer
read_refusal r = refused (reason_number r.reason) r.place

-- An answer's number and values.
unfoldable pub read_answer : code.Answer → Answer
read_answer (Ok replies.Accepted) = accepted
read_answer (Ok (replies.Answered b)) = answered b
read_answer (Err r) = read_refusal r

-- What an ask is answered: yes or no, or a refusal.
unfoldable pub read_asked : Result Bool Refusal → Answer
read_asked (Ok b) = answered b
read_asked (Err r) = read_refusal r

-- The length written, or a refusal's number and place.
unfoldable pub read_filled : Result ℕ Refusal → Filled
read_filled (Ok n) = written n
read_filled (Err r) = too_short (reason_number r.reason) r.place

-- Whether an image is refused, and its state; a refused one has a fresh state.
unfoldable pub read_image : Result state-struct.State Refusal → Verdict × State
read_image (Ok s) = (passed, read_state s)
read_image (Err r) = (refusing.refused (reason_number r.reason) r.place, fresh)

-- An image's length, or a refusal's number and place.
unfoldable pub read_measured : Result ℕ Refusal → Measured
read_measured (Ok n) = measured n
read_measured (Err r) = unmeasured (reason_number r.reason) r.place

-- How many roles, seats and conflicts an image has.
abbrev pub read_counts : counts-struct.Counts → Counts
read_counts n = record { roles = n.roles; seats = n.seats; conflicts = n.conflicts }

-- What a request comes to: its answer, and the state after it.
unfoldable pub read_decision : State → Result decided-enum.Decided Refusal → Answer × State
read_decision s (Ok (decisions.Conflicts e)) = (accepted, with_conflicts s (set s.graph.conflicts e.at (read_set e.set)))
read_decision s (Ok (decisions.Roles e)) = (accepted, with_seats s (set s.seats e.at e.set))
read_decision s (Ok (decisions.Answered b)) = (answered b, s)
read_decision s (Err r) = (read_refusal r, s)

-- What a change comes to: its answer, and the state after it.
unfoldable pub read_changed : State → Result redrawn-struct.Redrawn Refusal → Answer × State
read_changed s (Ok d) = (accepted, with_graph s (record { roles = d.roles; sets = sets_in d.sets; conflicts = s.graph.conflicts }))
read_changed s (Err r) = (read_refusal r, s)

-- What feeding a part of a tape answers: as filling a buffer does, or that the records so far are not counted.
unfoldable pub read_part : Result ℕ error-enum.FeedError → PartAnswer
read_part (Ok n) = fills (written n)
read_part (Err (errors.TooShort r)) = fills (too_short (reason_number r.reason) r.place)
read_part (Err errors.Uncounted) = uncounted
