-- Demand 3 with the calls of a sitting: what holds of every list of records given to a sitting that begins with a fresh graph or with any image that loads.
use Rattle.std.specs.Prelude.{◌≡◌, true, ◌↔◌, ◌⊎◌, List, map, ℕ, length, T}
use Rattle.sets.specs.Sets.{member}
use Rattle.order.specs.Paths.{Path}
use Rattle.lists.specs.Runs.{unrefused, Each, Chain}
use Rattle.graph.specs.Graph.{Graph}
use Rattle.graph.specs.Drawing.{edge, direct}
use Rattle.seats.specs.Bytes.{Bytes}
use Rattle.seats.specs.Seats.{State}
use Rattle.seats.specs.Calls.{Answer, answered, is_refusal}
use Rattle.seats.specs.Lists.{Edge}
use Rattle.seats.specs.ListTheorem.{Saying, Assigned, ask_record, StateTheorem}
use Rattle.seats.specs.ListTheorem as base
use Rattle.sittings.specs.Sittings.{Sitting, begun, excluded, is_active, still_active, clashing}
use Rattle.sittings.specs.Calls.{ask_active}
use Rattle.sittings.specs.Records.{step}
use Rattle.sittings.specs.Lists.{answers, end, without_refused, lifted, exclusion, activity, history, history_in}
use Rattle.sittings.specs.Invariants.{Invariant}

-- A list starts from a fresh graph, or from what an image that loads holds, with no pair and nothing active.
pub data Start : Sitting → Type 0 where
  begins : (s : State) → base.Start s → Start (begun s)

-- Role r reaches role t: it is t, or a path leads from t to it.
abbrev pub Reaches : Graph → ℕ → ℕ → Type 0
Reaches g r t = (t ≡ r) ⊎ Path (Edge g) t r

module _ (start : Sitting) (l : List (List ℕ)) where
  -- What the accepted calls say of what document 01's calls speak of.
  abbrev pub by_list : Saying
  by_list say x = history (lifted say) x start l

  -- Roles p and q exclude each other: by kind 13, and no kind 3 removed either since.
  abbrev pub Excluded : ℕ → ℕ → Type 0
  Excluded p q = T (history (exclusion p q) (excluded start p q) start l)

  -- Role r is active at seat i: by kind 14, no kind 15 took it out since, and after every accepted call since an assigned role of the seat reached it.
  abbrev pub Active : ℕ → ℕ → Type 0
  Active i r = T (history_in (activity i r) (is_active start i r) start l)

-- What holds of one start and one list of records.
pub record ListTheorem (start : Sitting) (l : List (List ℕ)) : Type 1 where
  -- Each record has its answer.
  pub all_answered : length (answers start l) ≡ length l
  -- A keeper's sittings and answers, of any type, are read as the definitions' own. If each link of its chain is what the step's promise says of the sitting that the keeper itself left, its answers are the definitions' and its last sitting reads as theirs: roles, sets, conflicts, seats, pairs and active roles alike.
  pub keeper_agrees : {C B : Type 0} (read : C → Sitting) (told : B → Answer) (Promise : C → List ℕ → B → C → Type 0)
      → ((c : C) (r : List ℕ) (b : B) (d : C) → Promise c r b d → step (read c) r ≡ (told b, read d))
      → (c d : C) (m : List B) → read c ≡ start → Chain Promise c l m d
      → (map told m ≡ answers start l) × (read d ≡ end start l) × ((r s : ℕ) → edge (read d).state.graph r s ≡ edge (end start l).state.graph r s)
  -- Of the graph, the conflicts and the seats at the end all holds that document 01 says.
  pub state_theorem : StateTheorem start.state (by_list start l) (λ i p. (step (end start l) (ask_record i p)).0) (end start l).state
  -- The pairs and the active roles at the end are those that the accepted calls say.
  pub pairs_by_calls : (p q : ℕ) → Excluded start l p q ↔ T (excluded (end start l) p q)
  pub active_by_calls : (i r : ℕ) → Active start l i r ↔ T (is_active (end start l) i r)
  -- An assigned role of the seat reaches each of its active roles.
  pub active_assigned : (i t : ℕ) → Active start l i t → (r : ℕ) × Assigned start.state (by_list start l) i r × Reaches (end start l).state.graph r t
  -- No path joins two roles that exclude each other.
  pub no_pair_joined : (p q : ℕ) → Excluded start l p q → Path (Edge (end start l).state.graph) p q → ⊥
  -- No seat's active roles reach both.
  pub no_active_reaches_both : (i p q r s : ℕ) → Excluded start l p q → Active start l i r → Active start l i s
      → Reaches (end start l).state.graph r p → Reaches (end start l).state.graph s q → ⊥
  -- The question is answered yes exactly when the privilege is direct in an active role of the seat, or in a role from which a path leads to one.
  pub may_use_active_iff : (i p : ℕ) → (ask_active (end start l) i p ≡ answered true)
      ↔ ((r : ℕ) × Active start l i r
      × ((t : ℕ) × T (member p (direct (end start l).state.graph t)) × Reaches (end start l).state.graph r t))
  -- Whatever kind came last, there is nothing left to be switched off, and 35 finds nothing.
  pub nothing_to_switch_off : still_active (end start l).state (end start l).active ≡ (end start l).active
  pub nothing_clashes : (p : ℕ) → T (clashing (end start l) p) → ⊥
  -- The list without its refused calls, from the same start, gives the others the answers they had and ends alike, pairs and active roles too.
  pub without_refused_answers : answers start (without_refused start l) ≡ unrefused is_refusal (answers start l) (answers start l)
  pub without_refused_end : end start (without_refused start l) ≡ end start l
  -- The sitting at the end has the invariants.
  pub invariant : Invariant (end start l)

-- Demand 3: from every start, for every list of records of any bytes and lengths.
abbrev pub DemandThree : Type 1
DemandThree = (start : Sitting) → Start start → (l : List (List ℕ)) → Each Bytes l → ListTheorem start l
