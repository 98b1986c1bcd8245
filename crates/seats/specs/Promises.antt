-- What the operations promise of one record, one load, one image read or measured and one save; and demand 3 on the code, the list theorem for every chain of the step's promises.
use Rattle.std.specs.Prelude.{◌≡◌, List, map, ℕ, Result}
use Rattle.lists.specs.Runs.{Each, Chain}
use Rattle.graph.specs.Drawing.{edge}
use Rattle.seats.specs.Bytes.{Bytes}
use Rattle.seats.specs.Seats.{fresh}
use Rattle.seats.specs.Seats as seats
use Rattle.seats.specs.Calls.{accepted}
use Rattle.seats.specs.Records.{step}
use Rattle.seats.specs.Images.{load, image_verdict, load_over, measure}
use Rattle.seats.specs.Saving.{save}
use Rattle.seats.specs.Lists.{answers, end}
use Rattle.seats.specs.ListTheorem.{ListTheorem}
use Rattle.seats.specs.Reading.{read_state, read_answer, read_filled, read_image, read_measured}
use Rattle.seats.specs.declared.State.{State}
use Rattle.seats.specs.Replies.{Answer}
use Rattle.graph.specs.declared.Refusal.{Refusal}

-- A state is fresh.
abbrev pub FreshPromise : State → Type 0
FreshPromise t = read_state t ≡ fresh

-- By the record l the state s gives the answer a and the state t.
abbrev pub StepPromise : State → List ℕ → Answer → State → Type 0
StepPromise s l a t = (read_answer a, read_state t) ≡ step (read_state s) l

-- By the bytes l, with the state s at hand, loading gives the answer a and the state t.
abbrev pub LoadPromise : State → List ℕ → Answer → State → Type 0
LoadPromise s l a t = (read_answer a, read_state t) ≡ load_over (read_state s) l

-- By the bytes l, reading the image that ends them, with no state at hand, gives r.
abbrev pub ReadPromise : List ℕ → Result State Refusal → Type 0
ReadPromise l r = read_image r ≡ image_verdict (load l)

-- By the bytes l, measuring the image that ends them gives m.
abbrev pub MeasurePromise : List ℕ → Result ℕ Refusal → Type 0
MeasurePromise l m = read_measured m ≡ measure l

-- Saving the state s into the buffer gives the answer f and leaves the buffer as `after`.
abbrev pub SavePromise : seats.State → List ℕ → Result ℕ Refusal → List ℕ → Type 0
SavePromise s buffer f after = (read_filled f, after) ≡ save s buffer

-- A keeper starts with a fresh state, or with the state that an accepted load gives, whatever was at hand.
pub data KeeperStart : State → Type 0 where
  made_fresh : (c : State) → FreshPromise c → KeeperStart c
  made_by_loading : (s c : State) (bytes : List ℕ) (a : Answer) → Bytes bytes → LoadPromise s bytes a c → read_answer a ≡ accepted → KeeperStart c

-- What holds of a keeper that takes the records l one by one from the state c, answers m, and ends in the state d.
pub record KeeperTheorem (c : State) (l : List (List ℕ)) (m : List Answer) (d : State) : Type 1 where
  -- The answers are those of the definitions, run alone from the same start.
  pub same_answers : map read_answer m ≡ answers (read_state c) l
  -- So are the roles, sets, conflicts and seats at the end, and the edges.
  pub same_end : read_state d ≡ end (read_state c) l
  pub same_edges : (r s : ℕ) → edge (read_state d).graph r s ≡ edge (end (read_state c) l).graph r s
  -- And all of the list theorem holds of them.
  pub definitions : ListTheorem (read_state c) l

-- Demand 3 on the code: from every start, for every list of records, for every chain in which each link is what the step promises of the state that the keeper itself left.
abbrev pub DemandThreeOnCode : Type 1
DemandThreeOnCode =
    (c d : State) (l : List (List ℕ)) (m : List Answer) → KeeperStart c → Each Bytes l → Chain StepPromise c l m d → KeeperTheorem c l m d
