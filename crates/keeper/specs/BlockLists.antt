-- The demands on the exported functions: a list of records given one by one to keeper_call on one block, and what a refusal leaves.
use Rattle.std.specs.Prelude.{◌≡◌, Bool, true, ◌↔◌, List, ◌++◌, map, ℕ, ◌<◌, ◌≤◌, length, take, drop, leb}
use Rattle.lists.specs.Runs.{unrefused, Each, Chain}
use Rattle.graph.specs.Tables.{at}
use Rattle.graph.specs.Drawing.{edge, edge_count}
use Rattle.seats.specs.Bytes.{Bytes}
use Rattle.seats.specs.Calls.{answered, is_refusal}
use Rattle.seats.specs.ListTheorem.{ask_record}
use Rattle.sittings.specs.Sittings.{begun, excluded}
use Rattle.sittings.specs.Calls.{ask_active}
use Rattle.sittings.specs.Records.{step}
use Rattle.sittings.specs.Lists.{answers, end}
use Rattle.sittings.specs.ListTheorem.{ListTheorem}
use Rattle.keeper.specs.Block.{block_length, state_in, sitting_in, code_of, not_saved}
use Rattle.keeper.specs.Exports.{fresh_block, call_block, load_block, save_block, may_block, ask_block, edge_count_block, may_active_block, active_roles_block, excluded_block}

-- From the block W, keeper_fresh answers r and leaves the block X.
abbrev pub FreshPromise : List ℕ → ℕ → List ℕ → Type 0
FreshPromise W r X = (r, X) ≡ fresh_block W

-- By the record l, keeper_call does.
abbrev pub CallPromise : List ℕ → List ℕ → ℕ → List ℕ → Type 0
CallPromise W l r X = (r, X) ≡ call_block W l

-- By the bytes l, keeper_load does.
abbrev pub LoadPromise : List ℕ → List ℕ → ℕ → List ℕ → Type 0
LoadPromise W l r X = (r, X) ≡ load_block W l

-- With the buffer, keeper_save answers r and leaves the buffer `left`.
abbrev pub SavePromise : List ℕ → List ℕ → ℕ → List ℕ → Type 0
SavePromise W buffer r left = (r, left) ≡ save_block W buffer

-- A block with words for a sitting starts with what keeper_fresh leaves, or with what a keeper_load that answers 0 leaves.
pub data BlockStart : List ℕ → Type 0 where
  made_fresh : (W X : List ℕ) (r : ℕ) → block_length ≤ length W → FreshPromise W r X → BlockStart X
  made_by_loading : (W X bytes : List ℕ) (r : ℕ) → block_length ≤ length W → Bytes bytes → LoadPromise W bytes r X → r ≡ 0 → BlockStart X

-- The number of a refusal, or of too few words: no answer of an accepted record has it.
unfoldable pub refused_code : ℕ → Bool
refused_code r = leb 256 r

-- What holds where keeper_call takes the records l one by one on the block W, answers m and leaves the block X.
pub record BlockTheorem (W : List ℕ) (l : List (List ℕ)) (m : List ℕ) (X : List ℕ) : Type 1 where
  -- The numbers are the codes of the definitions' answers, run alone from the sitting in the block.
  pub same_codes : m ≡ map code_of (answers (sitting_in W) l)
  -- A number is that of a refusal exactly where the definitions refuse.
  pub same_refusals : map refused_code m ≡ map is_refusal (answers (sitting_in W) l)
  -- The sitting in the block at the end is theirs, roles, sets, conflicts, seats, pairs and active roles, and so are its edges.
  pub same_end : sitting_in X ≡ end (sitting_in W) l
  pub same_edges : (r s : ℕ) → edge (state_in X).graph r s ≡ edge (end (sitting_in W) l).state.graph r s
  -- What keeper_may then says is what kind 12, given next, answers, and what keeper_may_active says is what the question answers.
  pub same_asks : (i p : ℕ) → (may_block X i p ≡ true) ↔ ((step (end (sitting_in W) l) (ask_record i p)).0 ≡ answered true)
  pub same_questions : (i p : ℕ) → (may_active_block X i p ≡ true) ↔ (ask_active (end (sitting_in W) l) i p ≡ answered true)
  -- What keeper_edge_count says is how many edges are drawn, keeper_is_excluded which roles exclude each other, and keeper_active_roles which are active at a seat.
  pub same_edge_count : edge_count_block X ≡ edge_count (end (sitting_in W) l).state.graph
  pub same_exclusions : (p q : ℕ) → excluded_block X p q ≡ excluded (end (sitting_in W) l) p q
  pub same_active : (i : ℕ) → active_roles_block X i ≡ at (end (sitting_in W) l).active i
  -- The words behind the sitting stay.
  pub same_rest : drop block_length X ≡ drop block_length W
  -- And all of the list theorem holds of them.
  pub definitions : ListTheorem (sitting_in W) l

pub record DemandsOnBlocks : Type 1 where
  -- A refused record, and a refused load, leaves every word of the block.
  pub call_refused : (W X l : List ℕ) (r : ℕ) → CallPromise W l r X → 256 ≤ r → X ≡ W
  pub load_refused : (W X l : List ℕ) (r : ℕ) → LoadPromise W l r X → 256 ≤ r → X ≡ W
  -- What keeper_ask answers of any block is what keeper_call answers to kind 12, given next.
  pub asks_call : (W : List ℕ) (i p : ℕ) → ask_block W i p ≡ (call_block W (ask_record i p)).0
  -- Every chain of keeper_call's promises from every start has the list theorem.
  pub every_chain : (W X : List ℕ) (l : List (List ℕ)) (m : List ℕ) → BlockStart W → Each Bytes l → Chain CallPromise W l m X → BlockTheorem W l m X
  -- The list without its refused records, on the same block, gives the others the numbers they had and leaves the same words.
  pub shorter_chain : (W X Y : List ℕ) (l : List (List ℕ)) (m k : List ℕ) → Chain CallPromise W l m X → Chain CallPromise W (unrefused refused_code l m) k Y
      → (k ≡ unrefused refused_code m m) × (Y ≡ X)
  -- What keeper_save writes of the block at the list's end, given to keeper_load behind any bytes on any block with words for a sitting, is accepted and puts that state there, with no pair and nothing active.
  pub saved_loads : (W X : List ℕ) (l : List (List ℕ)) (m : List ℕ) → BlockStart W → Each Bytes l → Chain CallPromise W l m X
      → (buffer left before Y Z : List ℕ) (r q : ℕ) → SavePromise X buffer r left → r < not_saved → block_length ≤ length Y → LoadPromise Y (before ++ take r left) q Z
      → (q ≡ 0) × (sitting_in Z ≡ begun (state_in X))
