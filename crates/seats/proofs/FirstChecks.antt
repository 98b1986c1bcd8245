-- A verdict is a refusal exactly where its check is the first of the list that holds, and none exactly where no check holds.
-- Assumes nothing.
use mathlib.Core.Path.{◌≡◌, refl, sym, ap, ◌∙◌, subst}
use mathlib.Core.Bool.{true, false}
use mathlib.Core.Logic.{◌↔◌, inl, inr}
use mathlib.Core.List.{List, [], ◌∷◌}
use Prim.Native.Nat.{ℕ}
use native.Mathlib.Omega.{arith}
use lib.Dec.{T}
use Rattle.sets.proofs.Tests.{both, passes, fails, decide}
use Rattle.graph.specs.Refusing.{Check, Verdict, passed, verdict, listed, from, Passes, First}
use Rattle.graph.specs.Refusing as refusing
use Rattle.graph.proofs.Refusals.{passed_passes, verdict_passes, in_order, from-listed}
use Rattle.graph.proofs.Judging.{stops, moves_on}
use Rattle.seats.specs.Calls.{Answer, refused, settle, is_refusal}
use Rattle.seats.proofs.JudgedCalls.{settle_refused, settle_passed}

no_refusal : {n p : ℕ} → passed ≡ refusing.refused n p → ⊥
no_refusal e = let z : ◌≡◌ {A = ℕ} 0 1 = cc in omega arith

pub no_true : false ≡ true → ⊥
no_true e = let z : ◌≡◌ {A = ℕ} 0 1 = cc in omega arith

-- A verdict's refusal and an answer's are the same by number and place.
same_refusal : {m k n p : ℕ} → refused m k ≡ refused n p → refusing.refused m k ≡ refusing.refused n p
same_refusal {m} {k} {n} {p} e = let a : m ≡ n = cc in let b : k ≡ p = cc in rw (a, b)

same_answer : {m k n p : ℕ} → refusing.refused m k ≡ refusing.refused n p → refused m k ≡ refused n p
same_answer {m} {k} {n} {p} e = let a : m ≡ n = cc in let b : k ≡ p = cc in rw (a, b)

pub first_refuses : (l : List Check) (n p : ℕ) → First l n p → verdict l ≡ refusing.refused n p
unfolding First
first_refuses [] n p f = absurd f
first_refuses (c ∷ l) n p (inl (t, q, r)) = stops c l (passes c.holds t) ∙ rw (q, r)
first_refuses (c ∷ l) n p (inr (t, f)) = moves_on c l (fails c.holds t) ∙ first_refuses l n p f

pub refuses_first : (l : List Check) (n p : ℕ) → verdict l ≡ refusing.refused n p → First l n p
unfolding First verdict
refuses_first [] n p e = no_refusal e
refuses_first (c ∷ l) n p e =
    elim (decide c.holds) [
      | inl t ↦ inl (here t (sym (stops c l (passes c.holds t)) ∙ e))
      | inr f ↦ inr (f, refuses_first l n p (sym (moves_on c l (fails c.holds f)) ∙ e))
    ]
  where
    here : T c.holds → refusing.refused c.number c.place ≡ refusing.refused n p → T c.holds × (c.number ≡ n) × (c.place ≡ p)
    here t q = (t, cc, cc)

-- ---- what is judged by a list of checks

-- What z is by the list l, with the answer a and the state h where nothing refuses.
pub record Settles {S : Type 0} (l : List Check) (a : Answer) (s h : S) (z : Answer × S) : Type 0 where
  -- It is refused with a number and a place exactly where the first check that holds has them, and leaves the state at hand.
  pub refused_iff : (n p : ℕ) → (z.0 ≡ refused n p) ↔ First l n p
  pub refused_leaves : (n p : ℕ) → z.0 ≡ refused n p → z.1 ≡ s
  -- It is accepted exactly where no check holds, with its own answer and state.
  pub accepted_iff : (is_refusal z.0 ≡ false) ↔ Passes l
  pub accepted_gives : is_refusal z.0 ≡ false → z ≡ (a, h)

module _ {S : Type 0} (l : List Check) (a : Answer) (own : is_refusal a ≡ false) (s h : S) (z : Answer × S) (e : z ≡ settle (verdict l) a s h) where
  by_passing : verdict l ≡ passed → Settles l a s h z
  unfolding is_refusal
  by_passing v =
      let q : z ≡ (a, h) = e ∙ settle_passed a s h v in
      let r : is_refusal z.0 ≡ false = ap (λ (x : Answer × S). is_refusal x.0) q ∙ own in
      let no : (n p : ℕ) → z.0 ≡ refused n p → ⊥ = λ n p f. no_true (sym r ∙ ap is_refusal f) in
      record {
        refused_iff = λ n p. (λ f. absurd (no n p f), λ f. absurd (no_refusal (sym v ∙ first_refuses l n p f)));
        refused_leaves = λ n p f. absurd (no n p f);
        accepted_iff = (λ _. passed_passes l v, λ _. r);
        accepted_gives = λ _. q;
      }

  by_refusing : (m k : ℕ) → verdict l ≡ refusing.refused m k → Settles l a s h z
  unfolding is_refusal
  by_refusing m k v =
      let q : z ≡ (refused m k, s) = e ∙ settle_refused a s h v in
      let q₀ : z.0 ≡ refused m k = ap (λ (x : Answer × S). x.0) q in
      let no : is_refusal z.0 ≡ false → ⊥ = λ r. no_true (sym r ∙ ap is_refusal q₀) in
      record {
        refused_iff = λ n p. (
          λ f. refuses_first l n p (v ∙ same_refusal (sym q₀ ∙ f)),
          λ f. q₀ ∙ same_answer (sym v ∙ first_refuses l n p f),
        );
        refused_leaves = λ n p f. ap (λ (x : Answer × S). x.1) q;
        accepted_iff = (λ r. absurd (no r), λ t. absurd (no_refusal (sym (verdict_passes l t) ∙ v)));
        accepted_gives = λ r. absurd (no r);
      }

  pub settles : Settles l a s h z
  settles = go (verdict l) refl
    where
      go : (v : Verdict) → verdict l ≡ v → Settles l a s h z
      go passed q = by_passing q
      go (refusing.refused m k) q = by_refusing m k q

-- ---- the numbers of refusals
-- Where the checks stand in an order, the first that holds has a number of it.
pub first_listed : (o : List ℕ) (l : List Check) (n p : ℕ) → T (in_order o l) → First l n p → T (listed o n)
unfolding in_order First
first_listed o [] n p a f = absurd f
first_listed o (c ∷ l) n p a (inl (t, q, r)) = subst (λ (k : ℕ). T (listed o k)) q (both (listed o c.number) (in_order (from o c.number) l) a).0
first_listed o (c ∷ l) n p a (inr (t, f)) =
    from-listed o c.number n (first_listed (from o c.number) l n p (both (listed o c.number) (in_order (from o c.number) l) a).1 f)
