-- The laws of switching off: what stays active was so and an assigned role reaches it, and where that holds of all, all stays.
-- Assumes nothing.
use mathlib.Core.Path.{◌≡◌, refl, sym, ap, ◌∙◌, subst}
use mathlib.Core.Bool.{Bool, true, false, ◌&&◌}
use mathlib.Core.Logic.{◌≢◌}
use mathlib.Core.List.{List}
use Prim.Native.Nat.{ℕ, ◌<◌, ◌^◌}
use native.Mathlib.Decide.{dec_lt, ℕ_discrete}
use native.Mathlib.Omega.{arith}
use lib.Dec.{T, ltb, lt→ltb}
use lib.ListN.{set, length-set}
use lib.Pow.{pow_pos}
use lib.Seq.{get_or-set_same, get_or-set_other}
use Rattle.sets.specs.Sets.{member}
use Rattle.sets.proofs.Tests.{both, join, same_test, fails}
use Rattle.sets.proofs.Laws.{member-empty, member-collect, member-lt, collect-lt, extensional}
use Rattle.graph.specs.Tables.{at, table}
use Rattle.graph.specs.Graph.{role_count}
use Rattle.graph.specs.Invariants.{Table}
use Rattle.graph.proofs.Tables.{length-table, at-table, at_end, entry_in, table_ext}
use Rattle.seats.specs.Seats.{State, seat_count}
use Rattle.sittings.specs.Sittings.{covered, still_covered, still_active}

-- ---- tables of a function
-- A table of a function whose values are sets of w digits.
pub function_table : (n w : ℕ) (f : ℕ → ℕ) → ((i : ℕ) → f i < 2 ^ w) → Table n w (table n f)
function_table n w f h = record {
  whole = length-table n f;
  entry_lt = λ i.
      elim (dec_lt i n) [
        | yes l ↦ subst (λ (s : ℕ). s < 2 ^ w) (sym (at-table n i f l)) (h i)
        | no d ↦ subst (λ (s : ℕ). s < 2 ^ w) (sym (at_end (table n f) i (omega (arith, length-table n f)))) (pow_pos w)
      ];
}

-- The members of an entry of the table of a function that has none beyond the end.
pub table_test : (n : ℕ) (f : ℕ → ℕ) (i r : ℕ) → (T (member r (f i)) → i < n) → member r (at (table n f) i) ≡ member r (f i)
table_test n f i r h =
    elim (dec_lt i n) [
      | yes l ↦ ap (member r) (at-table n i f l)
      | no d ↦
          ap (member r) (at_end (table n f) i (omega (arith, length-table n f)))
          ∙ member-empty r
          ∙ sym (fails (member r (f i)) (λ m. d (h m)))
    ]

-- ---- the roles of one seat
-- A test that another implies asks no more beside it.
implied : (x y : Bool) → (T y → T x) → x && y ≡ y
implied true y f = refl
implied false true f = absurd (f tt)
implied false false f = refl

module _ (s : State) (i roles : ℕ) where
  pub still_covered_lt : still_covered s i roles < 2 ^ role_count
  unfolding still_covered
  still_covered_lt = collect-lt role_count _

  module _ (h : roles < 2 ^ role_count) where
    -- Those that stay are those that an assigned role reaches.
    pub still_covered_test : (r : ℕ) → member r (still_covered s i roles) ≡ member r roles && covered s i r
    unfolding still_covered
    still_covered_test r =
        member-collect r role_count (λ r. member r roles && covered s i r)
        ∙ implied (ltb r role_count) (member r roles && covered s i r)
        (λ t. lt→ltb r role_count (member-lt role_count r roles h (both (member r roles) (covered s i r) t).0))

    -- Where an assigned role reaches each of them, all stay.
    pub still_covered_all : ((r : ℕ) → T (member r roles) → T (covered s i r)) → still_covered s i roles ≡ roles
    still_covered_all f =
        extensional role_count _ _ still_covered_lt h
        (λ r _. still_covered_test r ∙ same_test _ _ (λ t. (both (member r roles) (covered s i r) t).0) (λ m. join (member r roles) (covered s i r) m (f r m)))

-- ---- the active roles of every seat
pub still_table : (s : State) (A : List ℕ) → Table seat_count role_count (still_active s A)
unfolding still_active
still_table s A = function_table seat_count role_count _ (λ i. still_covered_lt s i (at A i))

module _ {A : List ℕ} (w : Table seat_count role_count A) (s : State) where
  -- What stays active was, and an assigned role reaches it.
  pub still_test : (i r : ℕ) → member r (at (still_active s A) i) ≡ member r (at A i) && covered s i r
  unfolding still_active
  still_test i r =
      let own = still_covered_test s i (at A i) (w.entry_lt i) r in
      table_test seat_count (λ i. still_covered s i (at A i)) i r
      (λ m. omega (arith, entry_in A i r (both (member r (at A i)) (covered s i r) (subst T own m)).0, w.whole))
      ∙ own

  pub still : (i r : ℕ) → T (member r (at (still_active s A) i)) → T (member r (at A i)) × T (covered s i r)
  still i r m = both (member r (at A i)) (covered s i r) (subst T (still_test i r) m)

  -- Where an assigned role reaches each active role, nothing is switched off.
  pub still_all : ((i r : ℕ) → T (member r (at A i)) → T (covered s i r)) → still_active s A ≡ A
  unfolding still_active
  still_all f =
      table_ext seat_count _ _ (still_table s A).whole w.whole
      (λ i l. at-table seat_count i _ l ∙ still_covered_all s i (at A i) (w.entry_lt i) (f i))

  -- Where it does at every seat but one, switching off at that seat is switching off.
  pub still_at : (a : ℕ) → a < seat_count → ((i r : ℕ) → i ≢ a → T (member r (at A i)) → T (covered s i r)) → set A a (still_covered s a (at A a)) ≡ still_active s A
  unfolding still_active at
  still_at a l f =
      table_ext seat_count _ _ (length-set A a _ ∙ w.whole) (still_table s A).whole
      (λ i k. elim (ℕ_discrete i a) [
        | yes e ↦ subst (λ (j : ℕ). at (set A a (still_covered s a (at A a))) j ≡ at (still_active s A) j) (sym e)
            (get_or-set_same A a _ 0 (omega (arith, w.whole)) ∙ sym (at-table seat_count a (λ i. still_covered s i (at A i)) l))
        | no d ↦
            get_or-set_other A a i _ 0 d
            ∙ sym (still_covered_all s i (at A i) (w.entry_lt i) (λ r. f i r d))
            ∙ sym (at-table seat_count i (λ i. still_covered s i (at A i)) k)
      ])
