-- How the code's values are read as the paper's: sittings, calls, and what a call and a part of a tape come to.
use Rattle.std.specs.Prelude.{List, ℕ, set, Option, Some, None, Result, Ok, Err}
use Rattle.graph.specs.Reading.{read_change}
use Rattle.graph.specs.declared.Refusal.{Refusal}
use Rattle.seats.specs.Seats.{State}
use Rattle.seats.specs.Calls.{Answer, change, accepted}
use Rattle.seats.specs.Tape.{PartAnswer}
use Rattle.seats.specs.Reading.{read_state, read_request, read_refusal, read_part}
use Rattle.seats.specs.Reading as seats
use Rattle.sittings.specs.Sittings.{Sitting}
use Rattle.sittings.specs.Calls.{Call, call, exclude, activate, deactivate}
use Rattle.sittings.specs.Records.{Decoded, malformed, well_formed}
use Rattle.sittings.specs.declared.Sitting as sitting-struct
use Rattle.sittings.specs.declared.LentSitting as lent-struct
use Rattle.sittings.specs.declared.Choice as choice-enum
use Rattle.sittings.specs.declared.Choice.TheVariants as choices
use Rattle.sittings.specs.declared.Call as call-enum
use Rattle.sittings.specs.declared.Step.{Step}
use Rattle.sittings.specs.declared.Call.TheVariants as calls
use Rattle.sittings.specs.declared.Chosen as chosen-enum
use Rattle.sittings.specs.declared.Chosen.TheVariants as chosen
use Rattle.sittings.specs.declared.Fed as fed-struct

-- The sitting of this state, these pairs and these active roles.
abbrev pub sitting_of : State → List ℕ → List ℕ → Sitting
sitting_of s pairs active = record { state = s; pairs = pairs; active = active }

-- A sitting as the code holds it.
abbrev pub read_sitting : sitting-struct.Sitting → Sitting
read_sitting z = sitting_of (read_state z.state) z.pairs z.active

-- A sitting whose tables are lent.
abbrev pub lent : lent-struct.LentSitting → Sitting
lent z = sitting_of (seats.lent z.state) z.pairs.now z.active.now

-- The kind and fields of a call of kinds 13 to 15.
unfoldable pub read_choice : choice-enum.Choice → Call
read_choice (choices.Exclude a b) = exclude a.0 b.0
read_choice (choices.Activate a b) = activate a.0 b.0
read_choice (choices.Deactivate a b) = deactivate a.0 b.0

-- A call's kind and fields.
unfoldable pub read_call : call-enum.Call → Call
read_call (calls.Change c) = call (change (read_change c))
read_call (calls.Request r) = call (read_request r)
read_call (calls.Choice c) = read_choice c

-- What a record decodes to.
unfoldable pub read_decoded : Option Step → Decoded
read_decoded (Some s) = well_formed (read_call s.call)
read_decoded None = malformed

-- What a call of kinds 13 to 15 comes to: its answer, and the sitting after it.
unfoldable pub read_chosen : Sitting → Result chosen-enum.Chosen Refusal → Answer × Sitting
read_chosen z (Ok (chosen.Pairs e)) = (accepted, sitting_of z.state (set z.pairs e.at e.set) z.active)
read_chosen z (Ok (chosen.Active e)) = (accepted, sitting_of z.state z.pairs (set z.active e.at e.set))
read_chosen z (Err r) = (read_refusal r, z)

-- What feeding a part of a tape gives, with the buffer that it leaves.
abbrev pub read_fed : fed-struct.Fed → List ℕ → (PartAnswer × List ℕ) × (ℕ × Sitting)
read_fed f buffer = ((read_part f.answer, buffer), (f.count, read_sitting f.sitting))
