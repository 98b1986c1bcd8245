-- The demands hold of the exported functions.
-- Assumes nothing.
use mathlib.Core.Path.{◌≡◌, refl, sym, ap, ap₂, ◌∙◌, subst}
use mathlib.Core.Bool.{Bool, true, false}
use mathlib.Core.Logic.{◌↔◌, inl, inr}
use mathlib.Core.List.{List, [], ◌∷◌, ◌++◌, map, map-id}
use Prim.Native.Nat.{ℕ, ◌+◌, ◌*◌, ◌<◌, ◌≤◌}
use native.Mathlib.Omega.{arith}
use borrow.Author.Tests.{le-leb}
use lib.ListN.{length, take, drop}
use lib.Dec.{T, leb, leb→le}
use Rattle.sets.proofs.Tests.{passes, fails, decide}
use Rattle.lists.specs.Runs.{run, Each, Chain}
use Rattle.lists.proofs.Runs.{chain_runs, chain_unrefused}
use Rattle.graph.specs.Tables.{at}
use Rattle.graph.specs.Drawing.{edge, edge_count}
use Rattle.seats.specs.Bytes.{Bytes, Filled, written, too_short}
use Rattle.seats.specs.Seats.{State}
use Rattle.seats.specs.Seats as seats
use Rattle.seats.specs.Calls.{Answer, accepted, answered, refused, is_refusal}
use Rattle.seats.specs.Images.{Loaded, loaded, not_loaded, load}
use Rattle.seats.specs.Saving.{save}
use Rattle.seats.specs.Invariants as base
use Rattle.seats.specs.Tape.{answer_number, answer_place}
use Rattle.seats.specs.ListTheorem.{from_fresh, from_image, ask_record}
use Rattle.seats.proofs.RecordVerdict.{number_above_0}
use Rattle.seats.proofs.SaveOutcomes.{front_loads}
use Rattle.seats.proofs.LoadRefusals.{load_refusals}
use Rattle.sittings.specs.Sittings.{Sitting, begun, fresh, excluded}
use Rattle.sittings.specs.Calls.{ask_active}
use Rattle.sittings.specs.Records.{step}
use Rattle.sittings.specs.Images.{settle_load, load_over}
use Rattle.sittings.specs.Lists.{answers, end}
use Rattle.sittings.specs.Invariants.{Invariant}
use Rattle.sittings.specs.ListTheorem.{Start, begins}
use Rattle.sittings.proofs.Settling.{refused_leaves}
use Rattle.sittings.proofs.ListTheorem.{list_theorem}
use Rattle.sittings.proofs.RecordVerdict.{record_refused}
use Rattle.sittings.proofs.LoadOver.{accepted_load, load_begins}
use Rattle.keeper.specs.Block.{block_length, state_in, sitting_in, holding, of_sitting, of_state, code_of, no_state, not_saved, save_code}
use Rattle.keeper.specs.Exports.{given, call_block, load_block, fresh_block, save_block, may_block, edge_count_block, may_active_block, active_roles_block, excluded_block}
use Rattle.keeper.specs.BlockLists.{CallPromise, LoadPromise, SavePromise, BlockStart, made_fresh, made_by_loading, refused_code, BlockTheorem, DemandsOnBlocks}
use Rattle.keeper.proofs.BlockWords.{holds_own}
use Rattle.keeper.proofs.Asking.{may_iff, may_active_iff, asks_call}
use Rattle.keeper.proofs.BlockStates.{load_holds, load-length, load_code, fresh_holds, fresh-length, call_length, call_behind, list_on_block}

-- ---- refusals

-- An answer whose code is 256 or more is a refusal.
code_refused : (a : Answer) → 256 ≤ code_of a → T (is_refusal a)
unfolding code_of answer_number answer_place is_refusal
code_refused accepted h = absurd (omega arith)
code_refused (answered true) h = absurd (omega arith)
code_refused (answered false) h = absurd (omega arith)
code_refused (refused n p) h = tt

-- A block that is given a sitting which a refusal leaves is as it was.
given_refused : (W : List ℕ) (y : Answer × Sitting) → block_length ≤ length W → (T (is_refusal y.0) → y.1 ≡ sitting_in W) → 256 ≤ (given W y).0 → (given W y).1 ≡ W
unfolding given
given_refused W y n kept h = ap (λ (z : Sitting). holding z W) (kept (code_refused y.0 h)) ∙ holds_own W n

-- So is one with too few words, which are not touched.
of_refused : (W : List ℕ) (f : Sitting → Answer × Sitting) → ((z : Sitting) → T (is_refusal (f z).0) → (f z).1 ≡ z)
    → {r : ℕ} {X : List ℕ} → (r, X) ≡ of_sitting W (λ z. given W (f z)) (no_state, W) → 256 ≤ r → X ≡ W
unfolding of_sitting
of_refused W f kept {r} {X} e h = elim (decide (leb block_length (length W))) [
  | inl t ↦
      (let z : (r, X) ≡ given W (f (sitting_in W)) = e ∙ rw (passes (leb block_length (length W)) t) in
      ap (λ (y : ℕ × List ℕ). y.1) z ∙ given_refused W (f (sitting_in W)) (leb→le block_length (length W) t) (kept (sitting_in W)) (subst (λ (k : ℕ). 256 ≤ k) (ap (λ (y : ℕ × List ℕ). y.0) z) h))
  | inr n ↦ (let z : ◌≡◌ {A = ℕ × List ℕ} (r, X) (no_state, W) = e ∙ rw (fails (leb block_length (length W)) n) in ap (λ (y : ℕ × List ℕ). y.1) z)
]

load_leaves : (l : List ℕ) (z : Sitting) → T (is_refusal (load_over z l).0) → (load_over z l).1 ≡ z
unfolding load_over settle_load is_refusal
load_leaves l z = go (load l)
  where
    go : (x : Loaded) → T (is_refusal (settle_load z x).0) → (settle_load z x).1 ≡ z
    go (loaded h) t = absurd t
    go (not_loaded n p) t = refl

call_refused : (W X l : List ℕ) (r : ℕ) → CallPromise W l r X → 256 ≤ r → X ≡ W
unfolding call_block
call_refused W X l r e h = of_refused W (λ z. step z l) (λ z. refused_leaves z l) e h

load_refused : (W X l : List ℕ) (r : ℕ) → LoadPromise W l r X → 256 ≤ r → X ≡ W
unfolding load_block
load_refused W X l r e h = of_refused W (λ z. load_over z l) (load_leaves l) e h

-- ---- starts

-- A load that answers 0 is accepted.
loads : (z : Sitting) (bytes : List ℕ) → code_of (load_over z bytes).0 ≡ 0 → (accepted, (load_over z bytes).1) ≡ load_over z bytes
unfolding load_over settle_load code_of answer_number answer_place
loads z bytes e = go (load bytes) refl e
  where
    go : (x : Loaded) → load bytes ≡ x → code_of (settle_load z x).0 ≡ 0 → (accepted, (settle_load z x).1) ≡ settle_load z x
    go (loaded h) q e = refl
    go (not_loaded n p) q e = let (o, _) = load_refusals bytes n p q in absurd (elim o [ inl z ↦ omega arith | inr (inl z) ↦ omega arith | inr (inr z) ↦ omega arith ])

-- What it gives begins a sitting.
load_starts : (z : Sitting) (bytes : List ℕ) → Bytes bytes → code_of (load_over z bytes).0 ≡ 0 → Start (load_over z bytes).1
load_starts z bytes b e =
    let y = (load_over z bytes).1 in
    let (holds, same) = accepted_load z bytes y (loads z bytes e) in
    subst Start (sym same) (begins y.state (from_image bytes y.state b holds))

start : (W : List ℕ) → BlockStart W → (block_length ≤ length W) × Start (sitting_in W)
unfolding fresh
start _ (made_fresh W X r n e) =
    let x : X ≡ (fresh_block W).1 = ap (λ (y : ℕ × List ℕ). y.1) e in
    subst (λ (Y : List ℕ). (block_length ≤ length Y) × Start (sitting_in Y)) (sym x) (omega (arith, fresh-length W n), subst Start (sym (fresh_holds W n)) (begins seats.fresh from_fresh))
start _ (made_by_loading W X bytes r n b e z) =
    let x : X ≡ (load_block W bytes).1 = ap (λ (y : ℕ × List ℕ). y.1) e in
    let c : code_of (load_over (sitting_in W) bytes).0 ≡ 0 = sym (load_code W bytes n) ∙ sym (ap (λ (y : ℕ × List ℕ). y.0) e) ∙ z in
    subst (λ (Y : List ℕ). (block_length ≤ length Y) × Start (sitting_in Y)) (sym x)
    (omega (arith, load-length W bytes n), subst Start (sym (load_holds W bytes n)) (load_starts (sitting_in W) bytes b c))

-- ---- chains

-- The code of a record's answer is that of a refusal exactly where the answer is one.
code_tells : (z : Sitting) (l : List ℕ) → refused_code (code_of (step z l).0) ≡ is_refusal (step z l).0
unfolding refused_code code_of answer_number answer_place is_refusal
code_tells z l = go (step z l).0 refl
  where
    go : (a : Answer) → (step z l).0 ≡ a → refused_code (code_of a) ≡ is_refusal a
    go accepted e = refl
    go (answered true) e = refl
    go (answered false) e = refl
    go (refused n p) e = le-leb 256 (256 * n + p) (let x = number_above_0 n (record_refused z (step z l) l refl n p e).0 in omega arith)

codes_tell : (z : Sitting) (l : List (List ℕ)) → map refused_code (map code_of (answers z l)) ≡ map is_refusal (answers z l)
unfolding answers run
codes_tell z [] = refl
codes_tell z (r ∷ l) = ap₂ (λ (b : Bool) (m : List Bool). b ∷ m) (code_tells z r) (codes_tell (step z r).1 l)

-- The words behind the sitting stay through a list.
list_behind : (W : List ℕ) (l : List (List ℕ)) → block_length ≤ length W → drop block_length (run call_block W l).1 ≡ drop block_length W
unfolding run
list_behind W [] n = refl
list_behind W (r ∷ l) n = list_behind (call_block W r).1 l (omega (arith, call_length W r n)) ∙ call_behind W r n

-- So does the block's length.
list_length : (W : List ℕ) (l : List (List ℕ)) → block_length ≤ length W → length (run call_block W l).1 ≡ length W
unfolding run
list_length W [] n = refl
list_length W (r ∷ l) n = list_length (call_block W r).1 l (omega (arith, call_length W r n)) ∙ call_length W r n

-- A chain of promises is the run of what they promise.
runs : (W X : List ℕ) (l : List (List ℕ)) (m : List ℕ) → Chain CallPromise W l m X → run call_block W l ≡ (m, X)
runs W X l m chain = chain_runs call_block (λ (Y : List ℕ). Y) (λ (r : ℕ). r) CallPromise (λ c r b d p. sym p) chain ∙ ap (λ (k : List ℕ). (k, X)) (map-id m)

-- What is shown of a block that holds a sitting.
module _ (W : List ℕ) (n : block_length ≤ length W) where
  shows_edges : edge_count_block W ≡ edge_count (state_in W).graph
  unfolding edge_count_block of_state
  shows_edges = rw (le-leb block_length (length W) n)

  shows_exclusions : (p q : ℕ) → excluded_block W p q ≡ excluded (sitting_in W) p q
  unfolding excluded_block of_sitting
  shows_exclusions p q = rw (le-leb block_length (length W) n)

  shows_active : (i : ℕ) → active_roles_block W i ≡ at (sitting_in W).active i
  unfolding active_roles_block of_sitting
  shows_active i = rw (le-leb block_length (length W) n)

every_chain : (W X : List ℕ) (l : List (List ℕ)) (m : List ℕ) → BlockStart W → Each Bytes l → Chain CallPromise W l m X → BlockTheorem W l m X
every_chain W X l m from b chain =
    let (n, s) = start W from in
    let c = runs W X l m chain in
    let (p, q) = list_on_block W l n in
    let k : block_length ≤ length X = omega (arith, list_length W l n, ap (λ (y : List ℕ × List ℕ). length y.1) c) in
    let e : sitting_in X ≡ end (sitting_in W) l = ap (λ (y : List ℕ × List ℕ). sitting_in y.1) (sym c) ∙ q in
    record {
      same_codes = ap (λ (y : List ℕ × List ℕ). y.0) (sym c) ∙ p;
      same_refusals = ap (map refused_code) (ap (λ (y : List ℕ × List ℕ). y.0) (sym c) ∙ p) ∙ codes_tell (sitting_in W) l;
      same_end = e;
      same_edges = λ r t. ap (λ (z : Sitting). edge z.state.graph r t) e;
      same_asks = λ i p. subst (λ (z : Sitting). (may_block X i p ≡ true) ↔ ((step z (ask_record i p)).0 ≡ answered true)) e (may_iff X i p k);
      same_questions = λ i p. subst (λ (z : Sitting). (may_active_block X i p ≡ true) ↔ (ask_active z i p ≡ answered true)) e (may_active_iff X i p k);
      same_edge_count = shows_edges X k ∙ ap (λ (z : Sitting). edge_count z.state.graph) e;
      same_exclusions = λ p q. shows_exclusions X k p q ∙ ap (λ (z : Sitting). excluded z p q) e;
      same_active = λ i. shows_active X k i ∙ ap (λ (z : Sitting). at z.active i) e;
      same_rest = ap (λ (y : List ℕ × List ℕ). drop block_length y.1) (sym c) ∙ list_behind W l n;
      definitions = list_theorem (sitting_in W) s l b;
    }

-- ---- saved and loaded

-- A save that answers with a length has written the image.
saved : (W buffer left : List ℕ) (r : ℕ) → block_length ≤ length W → SavePromise W buffer r left → r < not_saved → (written r, left) ≡ save (state_in W) buffer
unfolding save_block of_state save_code
saved W buffer left r n e l =
    let s = state_in W in
    let z : ◌≡◌ {A = ℕ × List ℕ} (r, left) (save_code (save s buffer).0, (save s buffer).1) = e ∙ rw (le-leb block_length (length W) n) in
    ap₂ (λ (x : Filled) (y : List ℕ). (x, y)) (sym (go (save s buffer).0 (sym (ap (λ (y : ℕ × List ℕ). y.0) z)))) (ap (λ (y : ℕ × List ℕ). y.1) z)
  where
    go : (f : Filled) → save_code f ≡ r → f ≡ written r
    go (written k) q = ap written q
    go (too_short k p) q = absurd (omega arith)

reloads : (s : State) → base.Invariant s → (buffer left before Y Z : List ℕ) (r q : ℕ) → (written r, left) ≡ save s buffer → block_length ≤ length Y → LoadPromise Y (before ++ take r left) q Z
    → (q ≡ 0) × (sitting_in Z ≡ begun s)
unfolding code_of answer_number answer_place
reloads s v buffer left before Y Z r q e n p =
    let l = before ++ take r left in
    let z = load_begins (sitting_in Y) l s (front_loads s buffer left (written r) e r refl v (state_in Y) before) in (
      ap (λ (y : ℕ × List ℕ). y.0) p ∙ load_code Y l n ∙ ap (λ (y : Answer × Sitting). code_of y.0) z,
      ap (λ (y : ℕ × List ℕ). sitting_in y.1) p ∙ load_holds Y l n ∙ ap (λ (y : Answer × Sitting). y.1) z,
    )

refused_stays : (W l : List ℕ) → T (refused_code (call_block W l).0) → (call_block W l).1 ≡ W
unfolding refused_code
refused_stays W l t = call_refused W (call_block W l).1 l (call_block W l).0 refl (leb→le 256 (call_block W l).0 t)

pub demands_on_blocks : DemandsOnBlocks
demands_on_blocks = record {
  call_refused = call_refused;
  load_refused = load_refused;
  asks_call = asks_call;
  every_chain = every_chain;
  shorter_chain = λ W X Y l m k chain shorter.
      let (x, y) = chain_unrefused call_block refused_code refused_stays (λ (Z : List ℕ). Z) (λ (r : ℕ). r) CallPromise (λ c r b d p. sym p) chain shorter in
      (sym (map-id k) ∙ x ∙ map-id _, y);
  saved_loads = λ W X l m from b chain buffer left before Y Z r q e u n p.
      let t = every_chain W X l m from b chain in
      let (k, _) = start W from in
      let h : block_length ≤ length X = omega (arith, list_length W l k, ap (λ (y : List ℕ × List ℕ). length y.1) (runs W X l m chain)) in
      reloads (state_in X) (subst Invariant (sym t.same_end) t.definitions.invariant).state buffer left before Y Z r q (saved X buffer left r h e u) n p;
}
