-- What a block holds after a call or a load is the sitting that the definitions leave, so that a list of calls on one block is the definitions' list.
-- Assumes nothing.
use mathlib.Core.Path.{◌≡◌, refl, sym, ap, ap₂, ◌∙◌}
use mathlib.Core.List.{List, [], ◌∷◌, ◌++◌, map, append_assoc, append-nil}
use Prim.Native.Nat.{ℕ, ◌≤◌}
use native.Mathlib.Omega.{arith}
use borrow.Author.Tests.{le-leb}
use lib.ListN.{length, get_or, drop, replicate, length-append, length-drop, length-set}
use Rattle.std.specs.Prelude.{Ok}
use Rattle.lists.specs.Runs.{run}
use Rattle.lists.proofs.Settling.{settle_keeps}
use Rattle.sets.specs.Sets.{empty}
use Rattle.graph.specs.Tables.{put, take_out}
use Rattle.graph.specs.Graph.{role_count, privilege_count}
use Rattle.graph.specs.Graph as graph
use Rattle.graph.specs.Conflicts as conflicts
use Rattle.graph.specs.Closing.{close}
use Rattle.graph.specs.Editing.{Change, add_by_place, add_by_privileges, remove_role, grant, withdraw, add_edge, remove_edge, changed}
use Rattle.graph.specs.Refusing.{Verdict, passed, verdict}
use Rattle.graph.specs.Refusing as refusing
use Rattle.graph.proofs.Tables.{length-table}
use Rattle.graph.specs.Reading.{sets_in}
use Rattle.seats.specs.Seats.{State, seat_count}
use Rattle.seats.specs.Seats as seats
use Rattle.seats.specs.Calls.{change, declare, lift, assign, unassign, ask, with_graph, with_conflicts, with_seats, judged, settle}
use Rattle.seats.specs.Calls as base
use Rattle.seats.specs.Images.{end_sets, Entry, Contents, stored_pairs, restored, entry_checks, content_checks, Loaded, loaded, not_loaded, unless_refused, load_contents}
use Rattle.seats.specs.Reading.{state_of, read_decision}
use Rattle.seats.specs.declared.Decided.{Decided}
use Rattle.seats.specs.declared.Decided.TheVariants as decisions
use Rattle.seats.proofs.LoadRefusals.{load_cases}
use Rattle.seats.proofs.StoredEntries.{length-stored}
use Rattle.sittings.specs.Sittings.{Sitting, begun, fresh, still_active}
use Rattle.sittings.specs.Calls.{Call, call, exclude, activate, deactivate, checks, without_role, pairs_changed, pairs_after, active_after, after, reply, perform}
use Rattle.sittings.specs.Records.{Decoded, malformed, well_formed, decode, perform_decoded, step}
use Rattle.sittings.specs.Images.{settle_load, load_over}
use Rattle.sittings.specs.Lists.{answers, end}
use Rattle.sittings.specs.Reading.{sitting_of}
use Rattle.keeper.specs.Block.{sets_word, conflicts_word, seats_word, pairs_word, active_word, block_length, sitting_in, words_of, holding, of_sitting, code_of}
use Rattle.keeper.specs.Exports.{given, call_block, load_block, fresh_block}
use Rattle.keeper.proofs.LaidTables.{cut, past, laid, cut_laid, drop_laid}
use Rattle.keeper.proofs.BlockWords.{table_whole, sizes, tables}

-- Each table of the state has its entries.
pub record SizedState (s : State) : Type 0 where
  pub sets : length s.graph.sets ≡ role_count
  pub conflicts : length s.graph.conflicts ≡ privilege_count
  pub seats : length s.seats ≡ seat_count

-- So has each table of the sitting.
pub record Sized (z : Sitting) : Type 0 where
  pub state : SizedState z.state
  pub pairs : length z.pairs ≡ role_count
  pub active : length z.active ≡ seat_count

-- ---- a sitting in a block

-- The tables of a sitting.
abbrev tables_of : Sitting → List (List ℕ)
tables_of z = tables z.state.graph.roles z.state.graph.sets z.state.graph.conflicts z.state.seats z.pairs z.active

-- Their sizes are those of a block's tables.
sized_tables : (z : Sitting) → Sized z → map length (tables_of z) ≡ sizes
sized_tables z s = rw (s.state.sets, s.state.conflicts, s.state.seats, s.pairs, s.active)

-- The words of a sitting, and others behind them, are its tables and those.
words_laid : (z : Sitting) (D : List ℕ) → words_of z ++ D ≡ laid (tables_of z) D
unfolding words_of laid
words_laid z D = simp append_assoc

-- What is read of them is the sitting.
sitting_before : (z : Sitting) (D : List ℕ) → Sized z → sitting_in (words_of z ++ D) ≡ z
unfolding words_of sets_in cut
sitting_before z D s =
    let e : cut sizes 0 (words_of z ++ D) ≡ tables_of z =
    ap₂ (λ (l X : List ℕ). cut l 0 X) (sym (sized_tables z s)) (words_laid z D) ∙ cut_laid [] (tables_of z) D refl in
    ap (λ (m : List (List ℕ)). sitting_of (state_of z.state.graph.roles (get_or m 1 []) (get_or m 2 []) (get_or m 3 [])) (get_or m 4 []) (get_or m 5 [])) e

-- What is read of a block that holds a sitting is the sitting.
pub sitting_held : (z : Sitting) (W : List ℕ) → Sized z → sitting_in (holding z W) ≡ z
unfolding holding
sitting_held z W s = sitting_before z (drop block_length W) s

holding-length : (z : Sitting) (W : List ℕ) → Sized z → block_length ≤ length W → length (holding z W) ≡ length W
unfolding holding words_of
holding-length z W s l =
    let a = s.state.sets in
    let b = s.state.conflicts in
    let c = s.state.seats in
    let d = s.pairs in
    let e = s.active in
    simp (length-append, length-drop) (omega arith)

holding_behind : (z : Sitting) (W : List ℕ) → Sized z → drop block_length (holding z W) ≡ drop block_length W
unfolding holding past
holding_behind z W s =
    let D = drop block_length W in
    ap₂ (λ (l X : List ℕ). drop (past l 0) X) (sym (sized_tables z s)) (words_laid z D) ∙ drop_laid [] (tables_of z) D refl

-- What is made of the sitting of these words is made of the sitting that they are the words of.
pub made_of_words : (f : Sitting → Sitting) (z : Sitting) {X : List ℕ} → Sized z → X ≡ words_of z → words_of (f (sitting_in X)) ≡ words_of (f z)
made_of_words f z {X} s e = ap (λ (y : Sitting). words_of (f y)) (ap sitting_in (e ∙ sym (append-nil (words_of z))) ∙ sitting_before z [] s)

-- The sitting of a block is sized.
pub block_sized : (W : List ℕ) → block_length ≤ length W → Sized (sitting_in W)
unfolding sets_in
block_sized W l = record {
  state = record {
    sets = table_whole W sets_word role_count (omega arith);
    conflicts = table_whole W conflicts_word privilege_count (omega arith);
    seats = table_whole W seats_word seat_count (omega arith);
  };
  pairs = table_whole W pairs_word role_count (omega arith);
  active = table_whole W active_word seat_count (omega arith);
}

-- ---- what keeps the tables' lengths

state_after_sized : (s : State) (c : base.Call) → SizedState s → SizedState (base.after s c)
unfolding base.after with_graph with_conflicts with_seats changed close conflicts.declare conflicts.lift put take_out
state_after_sized s (change c) z = record { sets = length-table role_count _; conflicts = z.conflicts; seats = z.seats }
state_after_sized s (declare a b) z = record { sets = z.sets; conflicts = simp length-set z.conflicts; seats = z.seats }
state_after_sized s (lift a b) z = record { sets = z.sets; conflicts = simp length-set z.conflicts; seats = z.seats }
state_after_sized s (assign a b) z = record { sets = z.sets; conflicts = z.conflicts; seats = simp length-set z.seats }
state_after_sized s (unassign a b) z = record { sets = z.sets; conflicts = z.conflicts; seats = simp length-set z.seats }
state_after_sized s (ask a b) z = z

changed-length : (c : Change) (P : List ℕ) → length P ≡ role_count → length (pairs_changed c P) ≡ role_count
unfolding pairs_changed without_role
changed-length (remove_role a b) P n = length-table role_count _
changed-length (add_by_place a own juniors seniors) P n = n
changed-length (add_by_privileges a own) P n = n
changed-length (grant a b) P n = n
changed-length (withdraw a b) P n = n
changed-length (add_edge a b) P n = n
changed-length (remove_edge a b) P n = n

pairs_length : (c : base.Call) (P : List ℕ) → length P ≡ role_count → length (pairs_after c P) ≡ role_count
unfolding pairs_after
pairs_length (change c) P n = changed-length c P n
pairs_length (declare a b) P n = n
pairs_length (lift a b) P n = n
pairs_length (assign a b) P n = n
pairs_length (unassign a b) P n = n
pairs_length (ask a b) P n = n

active_length : (c : base.Call) (h : State) (A : List ℕ) → length A ≡ seat_count → length (active_after c h A) ≡ seat_count
unfolding active_after still_active
active_length (change c) h A n = length-table seat_count _
active_length (declare a b) h A n = n
active_length (lift a b) h A n = n
active_length (assign a b) h A n = n
active_length (unassign a b) h A n = simp length-set n
active_length (ask a b) h A n = n

after_sized : (z : Sitting) (c : Call) → Sized z → Sized (after z c)
unfolding after conflicts.declare put take_out
after_sized z (call c) s = record {
  state = state_after_sized z.state c s.state;
  pairs = pairs_length c z.pairs s.pairs;
  active = active_length c (base.after z.state c) z.active s.active;
}
after_sized z (exclude a b) s = record { state = s.state; pairs = simp length-set s.pairs; active = s.active }
after_sized z (activate a b) s = record { state = s.state; pairs = s.pairs; active = simp length-set s.active }
after_sized z (deactivate a b) s = record { state = s.state; pairs = s.pairs; active = simp length-set s.active }

-- What a decision stores keeps the tables' lengths.
pub decided_sized : (z : Sitting) (x : Decided) → Sized z → Sized (sitting_of (read_decision z.state (Ok x)).1 z.pairs z.active)
unfolding read_decision with_graph with_conflicts with_seats
decided_sized z (decisions.Conflicts e) s = record {
  state = record { sets = s.state.sets; conflicts = simp length-set s.state.conflicts; seats = s.state.seats };
  pairs = s.pairs;
  active = s.active;
}
decided_sized z (decisions.Roles e) s = record {
  state = record { sets = s.state.sets; conflicts = s.state.conflicts; seats = simp length-set s.state.seats };
  pairs = s.pairs;
  active = s.active;
}
decided_sized z (decisions.Answered b) s = s

decoded_sized : (z : Sitting) (d : Decoded) → Sized z → Sized (perform_decoded z d).1
unfolding perform_decoded perform settle
decoded_sized z malformed s = s
decoded_sized z (well_formed c) s = settle_keeps Sized (judged (verdict (checks z c (after z c)))) (reply z c) z (after z c) s (after_sized z c s)

pub step_sized : (z : Sitting) (l : List ℕ) → Sized z → Sized (step z l).1
unfolding step
step_sized z l s = decoded_sized z (decode l) s

-- ---- loaded states

-- A sitting that begins with a sized state is sized.
begun_sized : (s : State) → SizedState s → Sized (begun s)
unfolding begun
begun_sized s z = record { state = z; pairs = refl; active = refl }

length_pairs : (l : List Entry) (t : List ℕ) → length (stored_pairs l t) ≡ length t
unfolding stored_pairs put
length_pairs [] t = refl
length_pairs (e ∷ l) t = length_pairs l (put t e.key e.value) ∙ simp length-set

restored_sized : (c : Contents) → SizedState (restored c)
unfolding restored
restored_sized c = record {
  sets = length-stored c.roles (end_sets c.top);
  conflicts = length_pairs c.conflicts (replicate privilege_count empty);
  seats = length-stored c.seats (replicate seat_count empty);
}

-- A load gives a sized state, or none.
data SizedLoad : Loaded → Type 0 where
  sized : {h : State} → SizedState h → SizedLoad (loaded h)
  none : {n p : ℕ} → SizedLoad (not_loaded n p)

unless_sized : (v : Verdict) (s : State) → SizedState s → SizedLoad (unless_refused v s)
unfolding unless_refused
unless_sized passed s z = sized z
unless_sized (refusing.refused n p) s z = none

contents_sized : (c : Contents) → SizedLoad (load_contents c)
unfolding load_contents
contents_sized c = unless_sized (verdict (entry_checks c ++ content_checks (restored c))) (restored c) (restored_sized c)

settled_sized : (z : Sitting) {x : Loaded} → Sized z → SizedLoad x → Sized (settle_load z x).1
unfolding settle_load
settled_sized z s (sized {h} p) = begun_sized h p
settled_sized z s none = s

load_sized : (z : Sitting) (l : List ℕ) → Sized z → Sized (load_over z l).1
unfolding load_over
load_sized z l s = settled_sized z s (load_cases SizedLoad none contents_sized l)

-- The block after a load holds the sitting after it.
pub load_holds : (W l : List ℕ) → block_length ≤ length W → sitting_in (load_block W l).1 ≡ (load_over (sitting_in W) l).1
unfolding load_block of_sitting given
load_holds W l n = rw (le-leb block_length (length W) n) (sitting_held (load_over (sitting_in W) l).1 W (load_sized (sitting_in W) l (block_sized W n)))

pub load-length : (W l : List ℕ) → block_length ≤ length W → length (load_block W l).1 ≡ length W
unfolding load_block of_sitting given
load-length W l n = rw (le-leb block_length (length W) n) (holding-length (load_over (sitting_in W) l).1 W (load_sized (sitting_in W) l (block_sized W n)) n)

pub load_code : (W l : List ℕ) → block_length ≤ length W → (load_block W l).0 ≡ code_of (load_over (sitting_in W) l).0
unfolding load_block of_sitting given
load_code W l n = rw (le-leb block_length (length W) n)

fresh_sized : Sized fresh
unfolding fresh seats.fresh graph.fresh
fresh_sized = begun_sized seats.fresh (record { sets = refl; conflicts = refl; seats = refl })

-- A block made fresh holds the fresh sitting.
pub fresh_holds : (W : List ℕ) → block_length ≤ length W → sitting_in (fresh_block W).1 ≡ fresh
unfolding fresh_block of_sitting given
fresh_holds W n = rw (le-leb block_length (length W) n) (sitting_held fresh W fresh_sized)

pub fresh-length : (W : List ℕ) → block_length ≤ length W → length (fresh_block W).1 ≡ length W
unfolding fresh_block of_sitting given
fresh-length W n = rw (le-leb block_length (length W) n) (holding-length fresh W fresh_sized n)

-- ---- calls

-- The block after a record holds the sitting after it.
pub call_holds : (W l : List ℕ) → block_length ≤ length W → sitting_in (call_block W l).1 ≡ (step (sitting_in W) l).1
unfolding call_block of_sitting given
call_holds W l n = rw (le-leb block_length (length W) n) (sitting_held (step (sitting_in W) l).1 W (step_sized (sitting_in W) l (block_sized W n)))

pub call_length : (W l : List ℕ) → block_length ≤ length W → length (call_block W l).1 ≡ length W
unfolding call_block of_sitting given
call_length W l n = rw (le-leb block_length (length W) n) (holding-length (step (sitting_in W) l).1 W (step_sized (sitting_in W) l (block_sized W n)) n)

-- The words behind the sitting stay.
pub call_behind : (W l : List ℕ) → block_length ≤ length W → drop block_length (call_block W l).1 ≡ drop block_length W
unfolding call_block of_sitting given
call_behind W l n = rw (le-leb block_length (length W) n) (holding_behind (step (sitting_in W) l).1 W (step_sized (sitting_in W) l (block_sized W n)))

pub call_code : (W l : List ℕ) → block_length ≤ length W → (call_block W l).0 ≡ code_of (step (sitting_in W) l).0
unfolding call_block of_sitting given
call_code W l n = rw (le-leb block_length (length W) n)

-- A list of records on one block gives the codes of the definitions' answers, and the block then holds the sitting at the list's end.
pub list_on_block : (W : List ℕ) (l : List (List ℕ)) → block_length ≤ length W
    → ((run call_block W l).0 ≡ map code_of (answers (sitting_in W) l)) × (sitting_in (run call_block W l).1 ≡ end (sitting_in W) l)
unfolding run answers end
list_on_block W [] n = (refl, refl)
list_on_block W (r ∷ l) n =
    let e = call_holds W r n in
    let m : block_length ≤ length (call_block W r).1 = omega (arith, call_length W r n) in
    let (p, q) = list_on_block (call_block W r).1 l m in (
      ap₂ (λ (a : ℕ) (k : List ℕ). a ∷ k) (call_code W r n) (p ∙ ap (λ (z : Sitting). map code_of (answers z l)) e),
      q ∙ ap (λ (z : Sitting). end z l) e,
    )
