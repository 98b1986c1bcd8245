-- What fills a table: its own entries, what a closure gives for each number, and the members that two sets have in common.
-- Assumes nothing.
use mathlib.Core.Path.{◌≡◌, refl, sym, ◌∙◌, subst}
use mathlib.Core.Bool.{◌&&◌}
use mathlib.Core.List.{List}
use Prim.Native.Nat.{ℕ, zero, suc, ◌+◌, ◌<◌, ◌≤◌, ◌^◌}
use native.Mathlib.Decide.{ℕ_discrete, dec_lt}
use native.Mathlib.Omega.{arith}
use denote.Param.Members.{Mut}
use Rattle.std.specs.Fn.{Called}
use Rattle.std.specs.Array.{IsFromFnResult, IsFromFnResultFrom}
use borrow.Author.Tests.{lt-ltb}
use lib.ListN.{length, get_or}
use Rattle.sets.specs.Sets.{member, intersection, collect}
use Rattle.sets.proofs.Laws.{extensional, member-intersection, member-collect, intersection-lt, collect-lt}
use Rattle.graph.specs.Tables.{at, table}
use Rattle.graph.specs.Graph.{role_count}
use Rattle.graph.proofs.Tables.{length-table, at-table, table_ext}
use Rattle.graph.proofs.Loops.{Filled, filled_done}

-- A table of n entries is the table of its entries.
pub table_whole : (n : ℕ) (l : List ℕ) → length l ≡ n → table n (at l) ≡ l
table_whole n l w = table_ext n (table n (at l)) l (length-table n (at l)) w (λ i h. at-table n i (at l) h)

-- A table that is filled up to n and empty from there on, where what fills it is empty there too.
pub filled_rest : {f : ℕ → ℕ} {n : ℕ} {l : List ℕ} → Filled f n l → ((j : ℕ) → n ≤ j → at l j ≡ 0) → ((j : ℕ) → n ≤ j → j < role_count → f j ≡ 0) → l ≡ table role_count f
filled_rest {f} {n} {l} c rest none =
    let all : Filled f role_count l =
    record {
      within = omega arith;
      whole = c.whole;
      got =
          λ j h. elim (dec_lt j n) [
            | yes k ↦ c.got j k
            | no d ↦ rest j (omega (arith, d)) ∙ sym (none j (omega (arith, d)) h)
          ];
    }
    in filled_done all refl

-- What two sets have in common, collected.
pub common_collected : (w s t : ℕ) → s < 2 ^ w → intersection s t ≡ collect w (λ r. member r s && member r t)
common_collected w s t h =
    extensional w _ _ (intersection-lt w s t h) (collect-lt w _)
    (λ r l. member-intersection r s t ∙ sym (member-collect r w (λ r. member r s && member r t) ∙ rw (lt-ltb r w l)))

-- What calls at the numbers below n give, where each leaves the closure and gives h.
module _ {F : Type 0} {g : Mut F (ℕ × Unit {0}) ℕ} {f : F} (h : ℕ → ℕ) (calls : (i y : ℕ) (q : F) → Called g f (i, tt) y q → (q ≡ f) × (y ≡ h i)) (ys : List ℕ) where
  made_from : (n i : ℕ) → IsFromFnResultFrom g f ys i n → (j : ℕ) → i ≤ j → j < i + n → get_or ys j 0 ≡ h j
  made_from zero i r j a b = absurd (omega arith)
  made_from (suc n) i (q, y, e, c, r) j a b =
      let (same, k) = calls i y q c in
      elim (ℕ_discrete j i) [
        | yes d ↦ rw d (e.1 0 ∙ k)
        | no d ↦ made_from n (i + 1) (subst (λ (p : F). IsFromFnResultFrom g p ys (i + 1) n) same r) j (omega (arith, d)) (omega arith)
      ]

  pub made_table : (n : ℕ) → IsFromFnResult g f ys n → ys ≡ table n h
  unfolding at
  made_table n r = table_ext n ys (table n h) r.long (length-table n h) (λ j l. made_from n 0 r.each j (omega arith) (omega arith) ∙ sym (at-table n j h l))
