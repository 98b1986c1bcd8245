-- What an ask answers: yes exactly when the privilege is direct in a role of the seat, or in a role from which a path leads to one.
-- Assumes nothing.
use mathlib.Core.Path.{◌≡◌, refl, sym, ap, ◌∙◌, subst}
use mathlib.Core.Bool.{Bool, true, false, cond, ◌&&◌}
use mathlib.Core.Logic.{◌↔◌, inl, inr}
use Prim.Native.Nat.{ℕ, ◌<◌, ◌≤◌}
use native.Mathlib.Omega.{arith}
use lib.Dec.{T, leb, leb→le, le→leb}
use Rattle.graph.specs.Refusing.{Passes}
use Rattle.sets.specs.Sets.{member}
use Rattle.sets.proofs.Tests.{passes}
use Rattle.sets.proofs.Laws.{member-lt}
use Rattle.sets.proofs.Members.{in_gather, gather_in}
use Rattle.graph.specs.Graph.{role_count, privilege_count, effective}
use Rattle.graph.specs.Tables.{at}
use Rattle.graph.proofs.Tables.{entry_in}
use Rattle.graph.proofs.DrawnSets.{Reached, effective_iff, effective_lt}
use Rattle.seats.specs.Bytes.{number_at}
use Rattle.seats.specs.Seats.{State, seat_count, assigned, held, may_use}
use Rattle.seats.specs.Calls.{ask, Answer, answered, refused, checks, after, reply, perform}
use Rattle.seats.specs.Records.{Decoded, malformed, well_formed, all_empty, fields, unused, kind, kinds, decode, perform_decoded, step}
use Rattle.seats.specs.ListTheorem.{ask_record, MayUse}
use Rattle.seats.specs.Invariants.{Invariant}
use Rattle.seats.proofs.Settling.{settled, accepted_by}

-- ---- kind 12, as answered
decode_ask : (i p : ℕ) → decode (ask_record i p) ≡ cond (leb p 255 && true) (well_formed (ask i p)) malformed
unfolding decode ask_record fields kinds kind unused all_empty number_at
decode_ask i p = refl

decodes_ask : (i p : ℕ) → p ≤ 255 → decode (ask_record i p) ≡ well_formed (ask i p)
decodes_ask i p l = decode_ask i p ∙ rw (passes (leb p 255) (le→leb p 255 l))

-- The step by the record that asks is kind 12.
pub steps_ask : (s : State) (i p : ℕ) → p ≤ 255 → (step s (ask_record i p)).0 ≡ (perform s (ask i p)).0
unfolding step perform_decoded
steps_ask s i p l = ap (λ (d : Decoded). (perform_decoded s d).0) (decodes_ask i p l)

-- Kind 12 leaves the state, refused or not.
pub ask_keeps : (s : State) (i p : ℕ) → (perform s (ask i p)).1 ≡ s
unfolding after
ask_keeps s i p = elim (settled s (ask i p)) [
  | inl r ↦ ap (λ (z : Answer × State). z.1) r.answer
  | inr a ↦ ap (λ (z : Answer × State). z.1) a.answer
]

-- A yes comes only from a seat and a privilege with their numbers, where the seat holds the privilege.
yes_means : (s : State) (i p : ℕ) → MayUse s i p → T (may_use s i p)
unfolding step perform_decoded reply
yes_means s i p e = go (leb p 255 && true) (sym (ap (λ (d : Decoded). (perform_decoded s d).0) (decode_ask i p)) ∙ e)
  where
    asked : (perform s (ask i p)).0 ≡ answered true → T (may_use s i p)
    asked q = elim (settled s (ask i p)) [
      | inl r ↦ absurd (no_yes (sym (ap (λ (z : Answer × State). z.0) r.answer) ∙ q))
      | inr a ↦ subst T (sym (same (sym (ap (λ (z : Answer × State). z.0) a.answer) ∙ q))) tt
    ]
      where
        no_yes : {n k : ℕ} → refused n k ≡ answered true → ⊥
        no_yes z = let o : ◌≡◌ {A = ℕ} 0 1 = cc in omega arith

        same : reply s (ask i p) ≡ answered true → may_use s i p ≡ true
        same z = let o : answered (may_use s i p) ≡ answered true = z in cc

    go : (t : Bool) → (perform_decoded s (cond t (well_formed (ask i p)) malformed)).0 ≡ answered true → T (may_use s i p)
    go true q = asked q
    go false q = absurd (let o : ◌≡◌ {A = ℕ} 0 1 = cc in omega arith)

-- Where a seat holds a privilege, both have their numbers, and the answer is yes.
means_yes : (s : State) → Invariant s → (i p : ℕ) → T (may_use s i p) → MayUse s i p
unfolding step perform_decoded checks reply may_use held Passes assigned
means_yes s v i p m =
    let (r, l, x, y) = in_gather p role_count (assigned s i) (effective s.graph) m in
    let li : i < seat_count = subst (λ (n : ℕ). i < n) v.seats.whole (entry_in s.seats i r x) in
    let lp : p < privilege_count = member-lt privilege_count p (effective s.graph r) (effective_lt s.graph v.graph.formed r) y in
    ap (λ (d : Decoded). (perform_decoded s d).0) (decodes_ask i p (omega arith))
    ∙ ap (λ (z : Answer × State). z.0) (accepted_by s (ask i p) (known seat_count i li, (known privilege_count p lp, tt)))
    ∙ ap answered (passes (member p (held s i)) m)
  where
    known : (n a : ℕ) → a < n → T (leb n a) → ⊥
    known n a l t = let h = leb→le n a t in omega arith

-- A seat may use what it holds.
pub may_use_means : (s : State) → Invariant s → (i p : ℕ) → MayUse s i p ↔ T (may_use s i p)
may_use_means s v i p = (yes_means s i p, means_yes s v i p)

-- A seat holds what is direct in a role of it, or in a role from which a path leads to one.
pub holds_iff : (s : State) → Invariant s → (i p : ℕ) → T (may_use s i p) ↔ ((r : ℕ) × T (assigned s i r) × Reached s.graph p r)
unfolding may_use held assigned
holds_iff s v i p = (
  λ u.
      let (r, l, x, y) = in_gather p role_count (assigned s i) (effective s.graph) u in
      (r, x, (effective_iff s.graph v.graph.formed p r).0 y),
  λ (r, x, q).
      gather_in p role_count (assigned s i) (effective s.graph) r (member-lt role_count r (at s.seats i) (v.seats.entry_lt i) x) x
      ((effective_iff s.graph v.graph.formed p r).1 q),
)
