-- What the operations promise of one record, one load, one question and one part of a tape; and demand 3 on the code, the list theorem for every chain of the step's promises.
use Rattle.std.specs.Prelude.{◌≡◌, Bool, List, map, ℕ, Result}
use Rattle.lists.specs.Runs.{Each, Chain}
use Rattle.graph.specs.Drawing.{edge}
use Rattle.seats.specs.Bytes.{Bytes}
use Rattle.seats.specs.Calls.{accepted}
use Rattle.seats.specs.Tape.{feed}
use Rattle.seats.specs.Reading.{read_answer, read_asked}
use Rattle.seats.specs.Replies.{Answer}
use Rattle.graph.specs.declared.Refusal.{Refusal}
use Rattle.sittings.specs.Sittings.{fresh}
use Rattle.sittings.specs.Sittings as sittings
use Rattle.sittings.specs.Calls.{ask_active}
use Rattle.sittings.specs.Records.{step}
use Rattle.sittings.specs.Images.{load_over}
use Rattle.sittings.specs.Lists.{answers, end}
use Rattle.sittings.specs.ListTheorem.{ListTheorem}
use Rattle.sittings.specs.Reading.{read_sitting, read_fed}
use Rattle.sittings.specs.declared.Sitting.{Sitting}
use Rattle.sittings.specs.declared.Fed.{Fed}

-- A sitting is fresh.
abbrev pub FreshPromise : Sitting → Type 0
FreshPromise z = read_sitting z ≡ fresh

-- By the record l the sitting z gives the answer a and the sitting y.
abbrev pub StepPromise : Sitting → List ℕ → Answer → Sitting → Type 0
StepPromise z l a y = (read_answer a, read_sitting y) ≡ step (read_sitting z) l

-- By the bytes l, with the sitting z at hand, loading gives the answer a and the sitting y.
abbrev pub LoadPromise : Sitting → List ℕ → Answer → Sitting → Type 0
LoadPromise z l a y = (read_answer a, read_sitting y) ≡ load_over (read_sitting z) l

-- The question of seat i for privilege p, on the sitting z, gives the answer a.
abbrev pub AskPromise : sittings.Sitting → ℕ → ℕ → Result Bool Refusal → Type 0
AskPromise z i p a = read_asked a ≡ ask_active z i p

-- By the part of a tape, after so many records and from the sitting z, feeding gives f and leaves the buffer as `after`.
abbrev pub FeedPromise : Sitting → ℕ → List ℕ → List ℕ → Fed → List ℕ → Type 0
FeedPromise z count part buffer f after = read_fed f after ≡ feed step (read_sitting z) count part buffer

-- A keeper starts with a fresh sitting, or with the sitting that an accepted load gives, whatever was at hand.
pub data KeeperStart : Sitting → Type 0 where
  made_fresh : (c : Sitting) → FreshPromise c → KeeperStart c
  made_by_loading : (z c : Sitting) (bytes : List ℕ) (a : Answer) → Bytes bytes → LoadPromise z bytes a c → read_answer a ≡ accepted → KeeperStart c

-- What holds of a keeper that takes the records l one by one from the sitting c, answers m, and ends in the sitting d.
pub record KeeperTheorem (c : Sitting) (l : List (List ℕ)) (m : List Answer) (d : Sitting) : Type 1 where
  -- The answers are those of the definitions, run alone from the same start.
  pub same_answers : map read_answer m ≡ answers (read_sitting c) l
  -- So are the roles, sets, conflicts, seats, pairs and active roles at the end, and the edges.
  pub same_end : read_sitting d ≡ end (read_sitting c) l
  pub same_edges : (r s : ℕ) → edge (read_sitting d).state.graph r s ≡ edge (end (read_sitting c) l).state.graph r s
  -- And all of the list theorem holds of them.
  pub definitions : ListTheorem (read_sitting c) l

-- Demand 3 on the code: from every start, for every list of records, for every chain in which each link is what the step promises of the sitting that the keeper itself left.
abbrev pub DemandThreeOnCode : Type 1
DemandThreeOnCode =
    (c d : Sitting) (l : List (List ℕ)) (m : List Answer) → KeeperStart c → Each Bytes l → Chain StepPromise c l m d → KeeperTheorem c l m d
