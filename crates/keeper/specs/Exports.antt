-- What each exported function gives for any block: a number, and the block or the buffer as it leaves them.
-- A block with too few words is left alone, and so is the buffer; what is shown of it is empty.
use Rattle.std.specs.Prelude.{Bool, false, List, ℕ, ◌+◌}
use Rattle.sets.specs.Sets.{empty}
use Rattle.graph.specs.Tables.{at}
use Rattle.graph.specs.Graph.{effective}
use Rattle.graph.specs.Conflicts.{declared}
use Rattle.graph.specs.Drawing.{below, juniors, seniors, edge_count, direct}
use Rattle.seats.specs.Seats.{held}
use Rattle.seats.specs.Calls.{Answer, accepted}
use Rattle.seats.specs.Records as base
use Rattle.seats.specs.Images.{measure}
use Rattle.seats.specs.Saving.{save}
use Rattle.seats.specs.ListTheorem.{ask_record}
use Rattle.seats.specs.Asks.{is_yes, yes_count}
use Rattle.sittings.specs.Sittings.{Sitting, fresh, excluded}
use Rattle.sittings.specs.Calls.{ask_active}
use Rattle.sittings.specs.Records.{step}
use Rattle.sittings.specs.Images.{load_over}
use Rattle.keeper.specs.Block.{words_of, holding, of_sitting, of_state, code_of, no_state, not_saved, save_code, length_code}

-- An answer, and the words of the sitting after it.
unfoldable pub left : Answer × Sitting → Answer × List ℕ
left r = (r.0, words_of r.1)

-- An answer's code, and the block with the sitting after it.
unfoldable pub given : List ℕ → Answer × Sitting → ℕ × List ℕ
given W r = (code_of r.0, holding r.1 W)

-- A fresh sitting.
unfoldable pub fresh_block : List ℕ → ℕ × List ℕ
fresh_block W = of_sitting W (λ z. given W (accepted, fresh)) (no_state, W)

-- A record's step.
unfoldable pub call_block : List ℕ → List ℕ → ℕ × List ℕ
call_block W l = of_sitting W (λ z. given W (step z l)) (no_state, W)

-- The image that ends the bytes, with which a sitting begins; a refused load keeps the sitting.
unfoldable pub load_block : List ℕ → List ℕ → ℕ × List ℕ
load_block W l = of_sitting W (λ z. given W (load_over z l)) (no_state, W)

-- The state's image at the buffer's front; a block with too few words has none, and its answer is no length either.
unfoldable pub save_block : List ℕ → List ℕ → ℕ × List ℕ
save_block W buffer = of_state W (λ s. let r = save s buffer in (save_code r.0, r.1)) (not_saved + no_state, buffer)

-- How long the image is that ends the bytes; no block is concerned.
unfoldable pub image_length : List ℕ → ℕ
image_length l = length_code (measure l)

-- Seat i may use privilege p by its assigned roles: kind 12 answers yes. A refusal is no yes, and neither is what a number above 63 is answered.
unfoldable pub may_block : List ℕ → ℕ → ℕ → Bool
may_block W i p = of_state W (λ s. is_yes (base.step s (ask_record i p)).0) false

-- The answer to a record that asks.
unfoldable pub ask_block : List ℕ → ℕ → ℕ → ℕ
ask_block W i p = of_state W (λ s. code_of (base.step s (ask_record i p)).0) no_state

-- How many of these asks are answered yes.
unfoldable pub count_yes_block : List ℕ → List ℕ → ℕ
count_yes_block W l = of_state W (λ s. yes_count s l) 0

-- How many edges are drawn.
unfoldable pub edge_count_block : List ℕ → ℕ
edge_count_block W = of_state W (λ s. edge_count s.graph) 0

-- The effective privileges of role r.
unfoldable pub effective_block : List ℕ → ℕ → ℕ
effective_block W r = of_state W (λ s. effective s.graph r) empty

-- The direct privileges of role r.
unfoldable pub direct_block : List ℕ → ℕ → ℕ
direct_block W r = of_state W (λ s. direct s.graph r) empty

-- The immediate juniors of role r.
unfoldable pub juniors_block : List ℕ → ℕ → ℕ
juniors_block W r = of_state W (λ s. juniors s.graph r) empty

-- The immediate seniors of role r.
unfoldable pub seniors_block : List ℕ → ℕ → ℕ
seniors_block W r = of_state W (λ s. seniors s.graph r) empty

-- Role r lies below role t.
unfoldable pub below_block : List ℕ → ℕ → ℕ → Bool
below_block W r t = of_state W (λ s. below s.graph r t) false

-- The conflict of privileges p and q is declared.
unfoldable pub declared_block : List ℕ → ℕ → ℕ → Bool
declared_block W p q = of_state W (λ s. declared s.graph.conflicts p q) false

-- The roles of seat i.
unfoldable pub seat_roles_block : List ℕ → ℕ → ℕ
seat_roles_block W i = of_state W (λ s. at s.seats i) empty

-- What seat i holds.
unfoldable pub held_block : List ℕ → ℕ → ℕ
held_block W i = of_state W (λ s. held s i) empty

-- ---- what is not saved

-- Seat i may use privilege p by its active roles: the question answers yes. A refusal is no yes.
unfoldable pub may_active_block : List ℕ → ℕ → ℕ → Bool
may_active_block W i p = of_sitting W (λ z. is_yes (ask_active z i p)) false

-- The answer to the question.
unfoldable pub ask_active_block : List ℕ → ℕ → ℕ → ℕ
ask_active_block W i p = of_sitting W (λ z. code_of (ask_active z i p)) no_state

-- The active roles of seat i.
unfoldable pub active_roles_block : List ℕ → ℕ → ℕ
active_roles_block W i = of_sitting W (λ z. at z.active i) empty

-- Roles p and q exclude each other.
unfoldable pub excluded_block : List ℕ → ℕ → ℕ → Bool
excluded_block W p q = of_sitting W (λ z. excluded z p q) false
