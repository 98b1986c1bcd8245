-- Demand 3, the list theorem of document 01's "Lists of calls", as one record: what holds of every list of records, from a fresh graph or from any image that loads.
use Rattle.std.specs.Prelude.{◌≡◌, Bool, true, ◌||◌, ◌↔◌, ◌≢◌, ◌⊎◌, List, ◌∷◌, map, ℕ, ◌-◌, length, replicate, T}
use Rattle.sets.specs.Sets.{member, strictly_included}
use Rattle.order.specs.Paths.{Path, Between, SamePaths}
use Rattle.lists.specs.Runs.{unrefused, Each, Chain}
use Rattle.graph.specs.Graph.{max_role, is_end, ordinary, effective}
use Rattle.graph.specs.Conflicts.{declared}
use Rattle.graph.specs.Drawing.{below, edge, direct}
use Rattle.seats.specs.Bytes.{Bytes}
use Rattle.seats.specs.Seats.{State, fresh, assigned}
use Rattle.seats.specs.Calls.{Call, Answer, answered, is_refusal}
use Rattle.seats.specs.Records.{record_length, step}
use Rattle.seats.specs.Images.{load, loaded}
use Rattle.seats.specs.Lists.{answers, end, without_refused, Edge, presence, declaration, assignment, history}
use Rattle.seats.specs.Invariants.{Invariant}

-- A list starts from a fresh graph, or from what an image that loads holds.
pub data Start : State → Type 0 where
  from_fresh : Start fresh
  from_image : (bytes : List ℕ) (s : State) → Bytes bytes → load bytes ≡ loaded s → Start s

-- What the accepted calls of a list make of something, by what each call says of it.
abbrev pub Saying : Type 0
Saying = (Call → Bool → Bool) → Bool → Bool

module _ (start : State) (history : Saying) where
  -- An ordinary role is present: the start has it, or kind 1 or 2 added it, and no kind 3 removed it since.
  abbrev pub Present : ℕ → Type 0
  Present r = T (history (presence r) (ordinary start.graph r))

  -- A role is present: an end role always, an ordinary one by the calls.
  abbrev pub present_by_calls : ℕ → Bool
  present_by_calls r = is_end r || history (presence r) (ordinary start.graph r)

  -- A conflict is declared: the start has it, or kind 8 declared it, and no kind 9 lifted it since.
  abbrev pub Declared : ℕ → ℕ → Type 0
  Declared p q = T (history (declaration p q) (declared start.graph.conflicts p q))

  -- A role is a seat's: the start gives it, or kind 10 assigned it, and no kind 11 took it away since.
  abbrev pub Assigned : ℕ → ℕ → Type 0
  Assigned i r = T (history (assignment i r) (assigned start i r))

-- The record of kind 12 by which seat i asks for privilege p.
unfoldable pub ask_record : ℕ → ℕ → List ℕ
ask_record i p = 12 ∷ (i ∷ (p ∷ replicate (record_length - 3) 0))

-- Seat i may use privilege p: kind 12, given next, answers yes.
abbrev pub MayUse : State → ℕ → ℕ → Type 0
MayUse s i p = (step s (ask_record i p)).0 ≡ answered true

-- What holds of the state e that a list leaves, by what its accepted calls say and by what kind 12, given next, answers.
pub record StateTheorem (start : State) (history : Saying) (asks : ℕ → ℕ → Answer) (e : State) : Type 1 where
  -- The ordinary roles, the conflicts and the seats' roles at the end are those that the accepted calls say, with what the start has.
  pub roles_by_calls : (r : ℕ) → Present start history r ↔ T (ordinary e.graph r)
  pub conflicts_by_calls : (p q : ℕ) → Declared start history p q ↔ T (declared e.graph.conflicts p q)
  pub seats_by_calls : (i r : ℕ) → Assigned start history i r ↔ T (assigned e i r)
  -- No path of drawn edges returns to its start.
  pub no_return : (r : ℕ) → Path (Edge e.graph) r r → ⊥
  -- From any role to any, the ends included, a path leads exactly when the one lies below the other.
  pub path_iff_below : (r s : ℕ) → Path (Edge e.graph) r s ↔ T (below e.graph r s)
  -- Between ordinary roles a path leads exactly when the one's set is strictly included in the other's.
  pub path_iff_included : (r s : ℕ) → Present start history r → Present start history s
      → Path (Edge e.graph) r s ↔ T (strictly_included (effective e.graph r) (effective e.graph s))
  -- Every set of edges between the roles present that has the same paths contains every drawn edge.
  pub fewest_edges : (E : ℕ → ℕ → Type 0) → Between (present_by_calls start history) E
      → SamePaths (present_by_calls start history) E (Edge e.graph)
      → (r s : ℕ) → Edge e.graph r s → E r s
  -- No role but MaxRole holds both privileges of a declared conflict.
  pub no_role_holds_pair : (r p q : ℕ) → r ≢ max_role → Declared start history p q
      → T (member p (effective e.graph r)) → T (member q (effective e.graph r)) → ⊥
  -- No seat may use both.
  pub no_seat_holds_pair : (i p q : ℕ) → Declared start history p q → asks i p ≡ answered true → asks i q ≡ answered true → ⊥
  -- A seat may use a privilege exactly when it is direct in a role of the seat, or in a role from which a path leads to one.
  pub may_use_iff : (i p : ℕ) → (asks i p ≡ answered true)
      ↔ ((r : ℕ) × Assigned start history i r
      × ((t : ℕ) × T (member p (direct e.graph t)) × ((t ≡ r) ⊎ Path (Edge e.graph) t r)))

-- What a list's accepted calls say.
abbrev pub by_list : State → List (List ℕ) → Saying
by_list start l say x = history say x start l

-- What holds of one start and one list of records.
pub record ListTheorem (start : State) (l : List (List ℕ)) : Type 1 where
  -- Each record has its answer.
  pub all_answered : length (answers start l) ≡ length l
  -- A keeper's states and answers, of any type, are read as the definitions' own. If each link of its chain is what the step's promise says of the state that the keeper itself left, its answers are the definitions' and its last state reads as theirs, roles, sets, conflicts and seats alike.
  pub keeper_agrees : {C B : Type 0} (read : C → State) (told : B → Answer) (Promise : C → List ℕ → B → C → Type 0)
      → ((c : C) (r : List ℕ) (b : B) (d : C) → Promise c r b d → step (read c) r ≡ (told b, read d))
      → (c d : C) (m : List B) → read c ≡ start → Chain Promise c l m d
      → (map told m ≡ answers start l) × (read d ≡ end start l) × ((r s : ℕ) → edge (read d).graph r s ≡ edge (end start l).graph r s)
  -- Of the state at the end all holds that the paper says.
  pub state_theorem : StateTheorem start (by_list start l) (λ i p. (step (end start l) (ask_record i p)).0) (end start l)
  -- The list without its refused calls, from the same start, gives the others the answers they had and ends in the same state.
  pub without_refused_answers : answers start (without_refused start l) ≡ unrefused is_refusal (answers start l) (answers start l)
  pub without_refused_end : end start (without_refused start l) ≡ end start l
  -- The state at the end has the invariants.
  pub invariant : Invariant (end start l)

-- Demand 3: from every start, for every list of records of any bytes and lengths.
abbrev pub DemandThree : Type 1
DemandThree = (start : State) → Start start → (l : List (List ℕ)) → Each Bytes l → ListTheorem start l
