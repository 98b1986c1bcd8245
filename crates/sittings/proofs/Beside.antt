-- A call of kinds 1 to 12 by what document 01's keeper makes of it: what that keeper refuses the sitting refuses alike, and where it accepts, refusal 35 is left.
-- Assumes nothing.
use mathlib.Core.Path.{◌≡◌, refl, sym, ap, ◌∙◌}
use mathlib.Core.Bool.{Bool, true, false, cond}
use mathlib.Core.Logic.{inl, inr}
use mathlib.Core.List.{List, [], ◌∷◌, ◌++◌}
use Prim.Native.Nat.{ℕ}
use native.Mathlib.Omega.{arith}
use Rattle.sets.proofs.Tests.{fails}
use Rattle.graph.specs.Refusing.{Check, Verdict, verdict, Passes}
use Rattle.graph.specs.Refusing as refusing
use Rattle.graph.proofs.Refusals.{parts}
use Rattle.seats.specs.Calls.{Answer, refused, settle, is_refusal}
use Rattle.seats.specs.Calls as base
use Rattle.seats.proofs.JudgedCalls.{settle_refused}
use Rattle.seats.proofs.Settling as base-settling
use Rattle.sittings.specs.Sittings.{Sitting}
use Rattle.sittings.specs.Calls.{call, drawn_checks, checks, after, reply, perform}
use Rattle.sittings.specs.Working.{followed}
use Rattle.sittings.proofs.Settling.{performs, Accepted, base_answer}

-- The first checks of a list refuse, and the others do not count.
first_refuse : (l m : List Check) {n p : ℕ} → verdict l ≡ refusing.refused n p → verdict (l ++ m) ≡ refusing.refused n p
unfolding verdict
first_refuse [] m e = absurd (let o : ◌≡◌ {A = ℕ} 0 1 = cc in omega arith)
first_refuse (c ∷ l) m {n} {p} e = go c.holds e (first_refuse l m)
  where
    go : (b : Bool) → cond b (refusing.refused c.number c.place) (verdict l) ≡ refusing.refused n p
        → (verdict l ≡ refusing.refused n p → verdict (l ++ m) ≡ refusing.refused n p)
        → cond b (refusing.refused c.number c.place) (verdict (l ++ m)) ≡ refusing.refused n p
    go true e f = e
    go false e f = f e

-- The first checks of a list pass, and the others decide.
first_pass : (l m : List Check) → Passes l → verdict (l ++ m) ≡ verdict m
unfolding Passes verdict
first_pass [] m t = refl
first_pass (c ∷ l) m (x, t) = rw (fails c.holds x) (first_pass l m t)

module _ (z : Sitting) (c : base.Call) where
  -- What the sitting accepts, document 01's keeper accepts, with the same answer and the same state after it.
  pub accepted_beside : Accepted z (call c) → base.perform z.state c ≡ ((perform z (call c)).0, (perform z (call c)).1.state)
  unfolding checks after reply
  accepted_beside a =
      base-settling.accepted_by z.state c (parts (base.checks z.state c (base.after z.state c)) (drawn_checks c (after z (call c))) a.passes).0
      ∙ sym (ap (λ (y : Answer × Sitting). (y.0, y.1.state)) a.answer)

  -- It refuses.
  refused_beside : base-settling.Refused z.state c → perform z (call c) ≡ followed z c (base.perform z.state c)
  unfolding checks after followed is_refusal
  refused_beside r =
      performs z (call c)
      ∙ settle_refused (reply z (call c)) z (after z (call c)) (first_refuse _ (drawn_checks c (after z (call c))) r.by_verdict)
      ∙ sym (ap (followed z c) r.answer)

  -- It accepts, and refusal 35 is left.
  settles_beside : Passes (base.checks z.state c (base.after z.state c)) → perform z (call c) ≡ followed z c (base.reply z.state c, base.after z.state c)
  unfolding perform checks reply after followed
  settles_beside t =
      rw base_answer
      (ap (λ (v : Verdict). settle v (base.reply z.state c) z (after z (call c))) (first_pass (base.checks z.state c (base.after z.state c)) (drawn_checks c (after z (call c))) t))

  pub beside : perform z (call c) ≡ followed z c (base.perform z.state c)
  beside = elim (base-settling.settled z.state c) [
    | inl r ↦ refused_beside r
    | inr a ↦ settles_beside a.passes ∙ sym (ap (followed z c) a.answer)
  ]
