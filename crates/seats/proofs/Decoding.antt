-- The table of kinds: what stands at a kind's place, and that nothing stands beyond kind 12.
-- Assumes nothing.
use mathlib.Core.Bool.{Bool, cond, ◌&&◌}
use mathlib.Core.List.{List, ◌∷◌}
use mathlib.Core.Logic.{inl, inr}
use mathlib.Core.Path.{◌≡◌, sym, ap, ◌∙◌}
use Prim.Native.Nat.{ℕ, zero, suc, ◌<◌, min}
use native.Mathlib.Omega.{arith}
use lib.Dec.{leb, leb→le}
use lib.ListN.{get_or, get_or-eq_default}
use Rattle.sets.proofs.Tests.{fails, decide}
use Rattle.graph.specs.Editing.{remove_role}
use Rattle.seats.specs.Bytes.{number_at}
use Rattle.seats.specs.Calls.{Call, change}
use Rattle.seats.specs.Records.{malformed, well_formed, Fields, fields, unused, kind, kinds}
use Rattle.seats.specs.Working.{fields_of}

-- A kind whose test of the unused sets is at hand.
pub at-kind : (f : Fields) (most sets : ℕ) (k : Call) {t : Bool} → t ≡ unused sets f → cond (leb f.b most && t) (well_formed k) malformed ≡ kind f most sets k
unfolding kind
at-kind f most sets k = ap (λ (t : Bool). cond (leb f.b most && t) (well_formed k) malformed)

-- A removal whose flag is read as 0 or 1; more than 1 is malformed either way.
pub at_removal : (f : Fields) {t : Bool} {r : ℕ} → r ≡ min f.b 1 → t ≡ unused 0 f
    → cond (leb f.b 1 && t) (well_formed (change (remove_role f.a r))) malformed ≡ kind f 1 0 (change (remove_role f.a f.b))
at_removal f {t} {r} e u =
    elim (decide (leb f.b 1)) [
      | inl l ↦ (let k = leb→le f.b 1 l in let q : r ≡ f.b = omega arith in ap (λ (i : ℕ). cond (leb f.b 1 && t) (well_formed (change (remove_role f.a i))) malformed) q)
      | inr d ↦ rw (fails (leb f.b 1) d)
    ]
    ∙ at-kind f 1 0 (change (remove_role f.a f.b)) u

-- The fields of a record whose three words are at hand.
pub fields_read : (l : List ℕ) {x y z : ℕ} → x ≡ number_at 8 8 l → y ≡ number_at 8 16 l → z ≡ number_at 8 24 l → fields_of (get_or l 1 0) (get_or l 2 0) x y z ≡ fields l
unfolding fields
fields_read l p q r = λ i. record { a = get_or l 1 0; b = get_or l 2 0; x = p i; y = q i; z = r i }

-- A number is none of 1 to n.
abbrev pub RuledOut : ℕ → ℕ → Type 0
RuledOut zero k = Unit {0}
RuledOut (suc n) k = RuledOut n k × (k ≡ suc n → ⊥)

above : (n k : ℕ) → RuledOut n k → (k ≡ 0 → ⊥) → n < k
above zero k r z = omega arith
above (suc n) k r z =
    let h = above n k r.0 z in
    let d : k ≡ suc n → ⊥ = r.1 in
    omega arith

-- A kind that is none of 0 to 12 is unknown.
pub unknown_kind : (f : Fields) (k : ℕ) → RuledOut 12 k → (k ≡ 0 → ⊥) → malformed ≡ get_or (malformed ∷ kinds f) k malformed
unfolding kinds
unknown_kind f k r z = sym (get_or-eq_default (malformed ∷ kinds f) malformed (above 12 k r z))
