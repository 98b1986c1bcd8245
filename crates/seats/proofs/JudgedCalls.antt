-- A call that a list of checks judges, for any state and any calls: it is refused and leaves the state, or nothing refuses it and it leaves the state after it.
-- Assumes nothing.
use mathlib.Core.Path.{◌≡◌, refl, sym, ap, ◌∙◌, subst}
use mathlib.Core.Bool.{not}
use mathlib.Core.Logic.{◌⊎◌, inl, inr}
use mathlib.Core.List.{List}
use Prim.Native.Nat.{ℕ}
use lib.Dec.{T}
use Rattle.lists.proofs.Settling as laws
use Rattle.graph.specs.Refusing.{Check, Verdict, passed, verdict, Passes}
use Rattle.graph.specs.Refusing as refusing
use Rattle.graph.proofs.Refusals.{passed_passes, verdict_passes}
use Rattle.seats.specs.Calls.{Answer, refused, judged, settle, is_refusal}

-- What settling comes to at a verdict.
pub settle_refused : {S : Type 0} {v : Verdict} (a : Answer) (s h : S) {n p : ℕ} → v ≡ refusing.refused n p → settle v a s h ≡ (refused n p, s)
unfolding settle judged
settle_refused a s h e = laws.settle_refused a s h (ap judged e)

pub settle_passed : {S : Type 0} {v : Verdict} (a : Answer) (s h : S) → v ≡ passed → settle v a s h ≡ (a, h)
unfolding settle judged
settle_passed a s h e = laws.settle_passed a s h (ap judged e)

module _ {S C : Type 0} (checks : S → C → S → List Check) (after : S → C → S) (reply : S → C → Answer) (perform : S → C → Answer × S)
    (performs : (s : S) (c : C) → perform s c ≡ settle (verdict (checks s c (after s c))) (reply s c) s (after s c)) where
  -- A refusal of the call, with its number and place, that leaves the state.
  pub record Refuses (s : S) (c : C) : Type 0 where
    pub number : ℕ
    pub place : ℕ
    pub by_verdict : verdict (checks s c (after s c)) ≡ refusing.refused number place
    pub answer : perform s c ≡ (refused number place, s)

  -- Nothing refuses the call.
  pub record Accepts (s : S) (c : C) : Type 0 where
    pub passes : Passes (checks s c (after s c))
    pub answer : perform s c ≡ (reply s c, after s c)

  -- A verdict that refuses, and one that passes.
  pub refused_call : (s : S) (c : C) {n p : ℕ} → verdict (checks s c (after s c)) ≡ refusing.refused n p → perform s c ≡ (refused n p, s)
  refused_call s c e = performs s c ∙ settle_refused (reply s c) s (after s c) e

  pub passed_call : (s : S) (c : C) → verdict (checks s c (after s c)) ≡ passed → perform s c ≡ (reply s c, after s c)
  passed_call s c e = performs s c ∙ settle_passed (reply s c) s (after s c) e

  pub call_settles : (s : S) (c : C) → Refuses s c ⊎ Accepts s c
  call_settles s c = go (verdict (checks s c (after s c))) refl
    where
      go : (v : Verdict) → verdict (checks s c (after s c)) ≡ v → Refuses s c ⊎ Accepts s c
      go passed e = inr (record { passes = passed_passes (checks s c (after s c)) e; answer = passed_call s c e })
      go (refusing.refused n p) e = inl (record { number = n; place = p; by_verdict = e; answer = refused_call s c e })

  -- A call that nothing refuses is accepted.
  pub passing_call : (s : S) (c : C) → Passes (checks s c (after s c)) → perform s c ≡ (reply s c, after s c)
  passing_call s c t = passed_call s c (verdict_passes (checks s c (after s c)) t)

  -- A refused call leaves the state, where no call's own answer is a refusal.
  pub refused_call_leaves : ((s : S) (c : C) → T (is_refusal (reply s c)) → ⊥) → (s : S) (c : C) → T (is_refusal (perform s c).0) → (perform s c).1 ≡ s
  unfolding settle
  refused_call_leaves none s c =
      subst (λ (z : Answer × S). T (is_refusal z.0) → z.1 ≡ s) (sym (performs s c))
      (laws.refusal_leaves is_refusal (judged (verdict (checks s c (after s c)))) (reply s c) s (after s c) (none s c))

  -- A call whose answer is no refusal is accepted.
  pub unrefused_call_accepts : (s : S) (c : C) → T (not (is_refusal (perform s c).0)) → Accepts s c
  unfolding is_refusal
  unrefused_call_accepts s c t = elim (call_settles s c) [
    | inl r ↦ absurd (subst (λ (z : Answer × S). T (not (is_refusal z.0))) r.answer t)
    | inr a ↦ a
  ]
