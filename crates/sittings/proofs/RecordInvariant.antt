-- Every record of bytes keeps the sitting's invariants.
-- Assumes nothing.
use mathlib.Core.Path.{sym, subst}
use mathlib.Core.Bool.{Bool, true, false, cond, ◌&&◌}
use mathlib.Core.Logic.{inl, inr}
use mathlib.Core.List.{List}
use Prim.Native.Nat.{ℕ}
use lib.ListN.{get_or, length}
use lib.Dec.{eqb}
use Rattle.seats.specs.Bytes.{number_at, Bytes}
use Rattle.seats.specs.Calls.{Answer}
use Rattle.seats.specs.Records.{record_length, fields, unused}
use Rattle.seats.specs.Records as base
use Rattle.seats.proofs.RecordInvariant as base-records
use Rattle.sittings.specs.Sittings.{Sitting}
use Rattle.sittings.specs.Calls.{Call, exclude, activate, deactivate, perform}
use Rattle.sittings.specs.Records.{Decoded, malformed, well_formed, own_kind, own, decoded, decode, perform_decoded, step}
use Rattle.sittings.specs.Invariants.{Invariant}
use Rattle.sittings.proofs.Settling.{settled}
use Rattle.sittings.proofs.CallInvariant.{FitsCall, call_keeps}

-- No call of document 01: malformed, or one of kinds 13 to 15.
pub data OwnCall : Decoded → Type 0 where
  none : OwnCall malformed
  excludes : (a b : ℕ) → OwnCall (well_formed (exclude a b))
  activates : (a b : ℕ) → OwnCall (well_formed (activate a b))
  deactivates : (a b : ℕ) → OwnCall (well_formed (deactivate a b))

own_kind_calls : (k a b : ℕ) → OwnCall (own_kind k a b)
unfolding own_kind
own_kind_calls k a b = go (eqb k 13) (eqb k 14) (eqb k 15)
  where
    go : (x y z : Bool) → OwnCall (cond x (well_formed (exclude a b)) (cond y (well_formed (activate a b)) (cond z (well_formed (deactivate a b)) malformed)))
    go true y z = excludes a b
    go false true z = activates a b
    go false false true = deactivates a b
    go false false false = none

pub own_calls : (l : List ℕ) → OwnCall (own l)
unfolding own
own_calls l = go (eqb (length l) record_length && (eqb (number_at 5 3 l) 0 && unused 0 (fields l)))
  where
    go : (t : Bool) → OwnCall (cond t (own_kind (get_or l 0 0) (fields l).a (fields l).b) malformed)
    go true = own_kind_calls (get_or l 0 0) (fields l).a (fields l).b
    go false = none

-- What is decoded carries sets of their width.
unfoldable pub FitsDecoded : Decoded → Type 0
FitsDecoded malformed = Unit {0}
FitsDecoded (well_formed c) = FitsCall c

own_fits : {d : Decoded} → OwnCall d → FitsDecoded d
unfolding FitsDecoded FitsCall
own_fits none = tt
own_fits (excludes a b) = tt
own_fits (activates a b) = tt
own_fits (deactivates a b) = tt

pub decode_fits : (l : List ℕ) → Bytes l → FitsDecoded (decode l)
unfolding decode decoded FitsDecoded FitsCall base-records.FitsDecoded
decode_fits l b = go (base.decode l) (base-records.decode_fits l b)
  where
    go : (d : base.Decoded) → base-records.FitsDecoded d → FitsDecoded (decoded d l)
    go base.malformed f = own_fits (own_calls l)
    go (base.well_formed c) f = f

perform_keeps : (z : Sitting) (c : Call) → FitsCall c → Invariant z → Invariant (perform z c).1
perform_keeps z c f v = elim (settled z c) [
  | inl r ↦ subst (λ (y : Answer × Sitting). Invariant y.1) (sym r.answer) v
  | inr a ↦ subst (λ (y : Answer × Sitting). Invariant y.1) (sym a.answer) (call_keeps z v c f a.passes)
]

-- Every record of bytes, of any length, keeps the invariants.
pub step_keeps : (z : Sitting) (l : List ℕ) → Bytes l → Invariant z → Invariant (step z l).1
unfolding step perform_decoded FitsDecoded
step_keeps z l b v = go (decode l) (decode_fits l b)
  where
    go : (d : Decoded) → FitsDecoded d → Invariant (perform_decoded z d).1
    go malformed f = v
    go (well_formed c) f = perform_keeps z c f v
