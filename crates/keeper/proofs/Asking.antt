-- Asks and questions by the numbers that they name: those above the seats' or the privileges' are answered no, whatever the sitting; and kind 12 is answered by the state alone.
-- Assumes nothing.
use mathlib.Core.Path.{◌≡◌, refl, sym, ap, ◌∙◌}
use mathlib.Core.Bool.{Bool, true, false, cond, ◌&&◌, true≢false}
use mathlib.Core.Logic.{◌↔◌, inl, inr}
use mathlib.Core.List.{List, [], ◌∷◌}
use Prim.Native.Nat.{ℕ, ◌<◌, ◌≤◌}
use borrow.Author.Tests.{lt-leb, le-leb}
use lib.ListN.{length}
use lib.Dec.{leb}
use Rattle.std.specs.Prelude.{Result, Ok, Err}
use Rattle.std.specs.Result.{result_unwrap_or}
use Rattle.sets.proofs.Tests.{passes, fails, decide}
use Rattle.lists.specs.Settling as settling
use Rattle.graph.specs.Graph.{privilege_count}
use Rattle.graph.specs.Refusing.{Verdict, passed, verdict, no_privilege_number}
use Rattle.graph.specs.Refusing as refusing
use Rattle.graph.specs.declared.Refusal.{Refusal}
use Rattle.seats.specs.Bytes.{number_at}
use Rattle.seats.specs.Seats.{State, seat_count}
use Rattle.seats.specs.Calls.{ask, Answer, accepted, answered, refused, no_seat_number, judged, settle}
use Rattle.seats.specs.Calls as base-calls
use Rattle.seats.specs.Records.{all_empty, fields, unused, kind, kinds}
use Rattle.seats.specs.Records as base
use Rattle.seats.specs.ListTheorem.{ask_record}
use Rattle.seats.specs.Asks.{is_yes}
use Rattle.seats.specs.Reading.{read_asked}
use Rattle.sittings.specs.Sittings.{Sitting}
use Rattle.sittings.specs.Calls.{drawn_checks, checks, after, reply, perform, ask_active}
use Rattle.sittings.specs.Records.{own_kind, own, decoded, decode, perform_decoded, step}
use Rattle.keeper.specs.Block.{block_length, state_in, sitting_in, of_sitting, of_state, code_of}
use Rattle.keeper.specs.Exports.{call_block, given, may_block, ask_block, may_active_block}

-- A refused ask is no yes.
pub yes_asked : (r : Result Bool Refusal) → result_unwrap_or r false ≡ is_yes (read_asked r)
unfolding read_asked is_yes
yes_asked (Ok b) = refl
yes_asked (Err r) = refl

-- ---- the numbers

-- What is judged by a seat's number and a privilege's.
module _ {S : Type 0} (a : Answer) (s h : S) (i p : ℕ) where
  abbrev by_numbers : Answer
  by_numbers = (settle (verdict (no_seat_number i ∷ no_privilege_number p ∷ [])) a s h).0

  -- A number that is no seat's is answered no.
  other_seat : seat_count ≤ i → is_yes by_numbers ≡ false
  unfolding verdict settle judged settling.settle is_yes
  other_seat l = rw (is_yes, le-leb seat_count i l)

  -- A number that is no privilege's is answered no.
  other_privilege : privilege_count ≤ p → is_yes by_numbers ≡ false
  unfolding verdict settle judged settling.settle is_yes
  other_privilege l = elim (decide (leb seat_count i)) [
    | inl t ↦ rw (is_yes, passes (leb seat_count i) t)
    | inr f ↦ rw (is_yes, fails (leb seat_count i) f, le-leb privilege_count p l)
  ]

-- ---- kind 12

-- The step by the record that asks: kind 12, or refusal 1 where b is no byte.
asked : (s : State) (i p : ℕ) → (base.step s (ask_record i p)).0 ≡ (base.perform_decoded s (cond (leb p 255 && true) (base.well_formed (ask i p)) base.malformed)).0
unfolding base.step base.decode ask_record fields kinds kind unused all_empty number_at
asked s i p = refl

pub no_seat : (s : State) (i p : ℕ) → seat_count ≤ i → is_yes (base.step s (ask_record i p)).0 ≡ false
unfolding base.perform_decoded base-calls.perform base-calls.checks is_yes
no_seat s i p l = ap is_yes (asked s i p) ∙ go (leb p 255 && true)
  where
    go : (t : Bool) → is_yes (base.perform_decoded s (cond t (base.well_formed (ask i p)) base.malformed)).0 ≡ false
    go true = other_seat _ s _ i p l
    go false = refl

pub no_privilege : (s : State) (i p : ℕ) → privilege_count ≤ p → is_yes (base.step s (ask_record i p)).0 ≡ false
unfolding base.perform_decoded base-calls.perform base-calls.checks is_yes
no_privilege s i p l = ap is_yes (asked s i p) ∙ go (leb p 255 && true)
  where
    go : (t : Bool) → is_yes (base.perform_decoded s (cond t (base.well_formed (ask i p)) base.malformed)).0 ≡ false
    go true = other_privilege _ s _ i p l
    go false = refl

-- One verdict gives one answer, whatever is settled.
same_answer : {S U : Type 0} (v : Verdict) (a : Answer) (s h : S) (t k : U) → (settle v a s h).0 ≡ (settle v a t k).0
unfolding settle judged settling.settle
same_answer passed a s h t k = refl
same_answer (refusing.refused n p) a s h t k = refl

-- The sitting's step answers it as document 01's does.
pub same_ask : (z : Sitting) (i p : ℕ) → (step z (ask_record i p)).0 ≡ (base.step z.state (ask_record i p)).0
unfolding step decode base.decode ask_record fields kinds kind unused all_empty number_at decoded own own_kind perform_decoded perform checks drawn_checks reply after base.perform_decoded base-calls.perform base-calls.checks base-calls.reply
same_ask z i p = go (leb p 255 && true) ∙ sym (asked z.state i p)
  where
    go : (t : Bool) → (perform_decoded z (decoded (cond t (base.well_formed (ask i p)) base.malformed) (ask_record i p))).0
        ≡ (base.perform_decoded z.state (cond t (base.well_formed (ask i p)) base.malformed)).0
    go true = same_answer _ _ _ _ _ _
    go false = refl

-- ---- the question

pub question_no_seat : (z : Sitting) (i p : ℕ) → seat_count ≤ i → is_yes (ask_active z i p) ≡ false
unfolding ask_active
question_no_seat z i p l = other_seat _ z z i p l

pub question_no_privilege : (z : Sitting) (i p : ℕ) → privilege_count ≤ p → is_yes (ask_active z i p) ≡ false
unfolding ask_active
question_no_privilege z i p l = other_privilege _ z z i p l

-- ---- of a block

-- A yes is the answer yes.
yes_is : (a : Answer) → (is_yes a ≡ true) ↔ (a ≡ answered true)
unfolding is_yes
yes_is a = (go a, λ e. ap is_yes e)
  where
    go : (a : Answer) → is_yes a ≡ true → a ≡ answered true
    go accepted e = absurd (true≢false (sym e))
    go (answered b) e = ap answered e
    go (refused n k) e = absurd (true≢false (sym e))

-- On a block that holds a sitting, yes is exactly that kind 12, given next, answers yes.
pub may_iff : (W : List ℕ) (i p : ℕ) → block_length ≤ length W → (may_block W i p ≡ true) ↔ ((step (sitting_in W) (ask_record i p)).0 ≡ answered true)
unfolding may_block of_state
may_iff W i p n = rw (le-leb block_length (length W) n, same_ask (sitting_in W) i p) (yes_is (base.step (state_in W) (ask_record i p)).0)

-- There, yes by active roles is exactly that the question answers yes.
pub may_active_iff : (W : List ℕ) (i p : ℕ) → block_length ≤ length W → (may_active_block W i p ≡ true) ↔ (ask_active (sitting_in W) i p ≡ answered true)
unfolding may_active_block of_sitting
may_active_iff W i p n = rw (le-leb block_length (length W) n) (yes_is (ask_active (sitting_in W) i p))

-- What is asked of any block is answered as kind 12, given next.
pub asks_call : (W : List ℕ) (i p : ℕ) → ask_block W i p ≡ (call_block W (ask_record i p)).0
unfolding ask_block call_block of_state of_sitting given
asks_call W i p = elim (decide (leb block_length (length W))) [
  | inl t ↦ rw (passes (leb block_length (length W)) t) (ap code_of (sym (same_ask (sitting_in W) i p)))
  | inr f ↦ rw (fails (leb block_length (length W)) f)
]

-- A short block, a number that is no seat's and one that is no privilege's are answered no.
pub short_no : (W : List ℕ) (i p : ℕ) → length W < block_length → (may_block W i p ≡ false) × (may_active_block W i p ≡ false)
unfolding may_block may_active_block of_state of_sitting
short_no W i p n = rw (lt-leb block_length (length W) n) (refl, refl)

pub seat_no : (W : List ℕ) (i p : ℕ) → seat_count ≤ i → (may_block W i p ≡ false) × (may_active_block W i p ≡ false)
unfolding may_block may_active_block of_state of_sitting
seat_no W i p n = elim (decide (leb block_length (length W))) [
  | inl t ↦ rw (passes (leb block_length (length W)) t) (no_seat (state_in W) i p n, question_no_seat (sitting_in W) i p n)
  | inr f ↦ rw (fails (leb block_length (length W)) f) (refl, refl)
]

pub privilege_no : (W : List ℕ) (i p : ℕ) → privilege_count ≤ p → (may_block W i p ≡ false) × (may_active_block W i p ≡ false)
unfolding may_block may_active_block of_state of_sitting
privilege_no W i p n = elim (decide (leb block_length (length W))) [
  | inl t ↦ rw (passes (leb block_length (length W)) t) (no_privilege (state_in W) i p n, question_no_privilege (sitting_in W) i p n)
  | inr f ↦ rw (fails (leb block_length (length W)) f) (refl, refl)
]
