-- What the question answers: it is judged by the two numbers alone, and says yes exactly when the privilege is direct in an active role of the seat, or in a role from which a path leads to one.
-- Assumes nothing.
use mathlib.Core.Path.{◌≡◌, refl, sym, ap, ◌∙◌, subst}
use mathlib.Core.Bool.{true, ◌&&◌}
use mathlib.Core.Logic.{◌↔◌, inl, inr}
use Prim.Native.Nat.{ℕ, ◌<◌}
use native.Mathlib.Omega.{arith}
use lib.Dec.{T, leb, leb→le, eqb, eqb_refl}
use Rattle.sets.specs.Counting.{any}
use Rattle.sets.specs.Sets.{member}
use Rattle.sets.proofs.Tests.{both, join, either, or_left, passes, test_equal}
use Rattle.sets.proofs.Counting.{any-some, some-any}
use Rattle.sets.proofs.Laws.{member-lt}
use Rattle.lists.specs.Settling as settling
use Rattle.graph.specs.Tables.{at}
use Rattle.graph.specs.Graph.{role_count, privilege_count, effective}
use Rattle.graph.specs.Drawing.{below}
use Rattle.graph.specs.Refusing.{Verdict, passed, verdict, at_or_below, Passes}
use Rattle.graph.specs.Refusing as refusing
use Rattle.graph.proofs.Tables.{entry_in}
use Rattle.graph.proofs.DrawnSets.{Reached, effective_iff, effective_lt, below_member}
use Rattle.seats.specs.Seats.{seat_count}
use Rattle.seats.specs.Calls.{Answer, answered, judged, settle, is_refusal}
use Rattle.seats.proofs.FirstChecks.{Settles, settles}
use Rattle.sittings.specs.Sittings.{Sitting, is_active, in_use, may_use_active}
use Rattle.sittings.specs.Calls.{ask_active}
use Rattle.sittings.specs.Invariants.{Invariant}
use Rattle.sittings.specs.Demands.{question_checks}
use Rattle.sittings.proofs.Reaches.{in_reach, reach_in}

-- The answer to the question, by the verdict of its two checks.
pub asked : (z : Sitting) (i p : ℕ) {v : Verdict} → verdict (question_checks i p) ≡ v → ask_active z i p ≡ (settle v (answered (may_use_active z i p)) z z).0
unfolding ask_active
asked z i p e = ap (λ (v : Verdict). (settle v (answered (may_use_active z i p)) z z).0) e

module _ (z : Sitting) (i p : ℕ) where
  -- The question is judged by its two checks, and changes nothing.
  pub question_settles : (a : Answer) → a ≡ ask_active z i p → Settles (question_checks i p) (answered (may_use_active z i p)) z z (a, z)
  unfolding ask_active is_refusal settle judged settling.settle
  question_settles a e =
      let yes_or_no = answered (may_use_active z i p) in
      settles (question_checks i p) yes_or_no refl z z (a, z) (ap (λ (x : Answer). (x, z)) e ∙ unmoved (verdict (question_checks i p)))
    where
      unmoved : (v : Verdict) → ((settle v (answered (may_use_active z i p)) z z).0, z) ≡ settle v (answered (may_use_active z i p)) z z
      unmoved passed = refl
      unmoved (refusing.refused n k) = refl

  -- A yes comes only where the active roles reach a role with the privilege.
  yes_means : ask_active z i p ≡ answered true → T (may_use_active z i p)
  unfolding is_refusal
  yes_means e = subst T (sym (same (sym (ap (λ (y : Answer × Sitting). y.0) ((question_settles (answered true) (sym e)).accepted_gives refl))))) tt
    where
      same : answered (may_use_active z i p) ≡ answered true → may_use_active z i p ≡ true
      same w = cc

  -- Where they do, and both numbers are of a seat and a privilege, the answer is yes.
  means_yes : i < seat_count → p < privilege_count → T (may_use_active z i p) → ask_active z i p ≡ answered true
  unfolding Passes
  means_yes li lp t =
      let w = question_settles (ask_active z i p) refl in
      ap (λ (y : Answer × Sitting). y.0) (w.accepted_gives (w.accepted_iff.1 (known seat_count i li, (known privilege_count p lp, tt))))
      ∙ ap answered (passes (may_use_active z i p) t)
    where
      known : (n a : ℕ) → a < n → T (leb n a) → ⊥
      known n a l t = let h = leb→le n a t in omega arith

  module _ (v : Invariant z) where
    -- The active roles reach a role with a privilege where one of them holds it, as what lies below holds no more.
    uses_iff : T (may_use_active z i p) ↔ ((r : ℕ) × T (is_active z i r) × T (member p (effective z.state.graph r)))
    unfolding may_use_active in_use is_active at_or_below
    uses_iff = (there, back)
      where
        there : T (any role_count (λ t. in_use z i t && member p (effective z.state.graph t))) → (r : ℕ) × T (member r (at z.active i)) × T (member p (effective z.state.graph r))
        there x =
            let g = z.state.graph in
            let (t, _, y) = any-some role_count (λ t. in_use z i t && member p (effective g t)) x in
            let (u, m) = both (in_use z i t) (member p (effective g t)) y in
            let (r, _, a, b) = in_reach g (at z.active i) t u in (
              r,
              a,
              elim (either (eqb t r) (below g t r) b) [
                | inl e ↦ subst (λ (k : ℕ). T (member p (effective g k))) (test_equal e) m
                | inr d ↦ below_member g v.state.graph.formed t r p d m
              ],
            )

        back : ((r : ℕ) × T (member r (at z.active i)) × T (member p (effective z.state.graph r))) → T (any role_count (λ t. in_use z i t && member p (effective z.state.graph t)))
        back (r, a, m) =
            let g = z.state.graph in
            let l = member-lt role_count r (at z.active i) (v.active.entry_lt i) a in
            some-any role_count (λ t. in_use z i t && member p (effective g t)) r l
            (join (in_use z i r) (member p (effective g r)) (reach_in g (at z.active i) r r l a (or_left (eqb r r) (below g r r) (eqb_refl r))) m)

    pub question_iff : (ask_active z i p ≡ answered true) ↔ ((r : ℕ) × T (is_active z i r) × Reached z.state.graph p r)
    unfolding is_active
    question_iff =
        let g = z.state.graph in
        let formed = v.state.graph.formed in (
          λ e. let (r, a, m) = uses_iff.0 (yes_means e) in (r, a, (effective_iff g formed p r).0 m),
          λ (r, a, x).
              let m = (effective_iff g formed p r).1 x in
              means_yes (omega (arith, entry_in z.active i r a, v.active.whole)) (member-lt privilege_count p (effective g r) (effective_lt g formed r) m) (uses_iff.1 (r, a, m)),
        )
