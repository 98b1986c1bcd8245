-- A record of bytes carries sets of their width, so every record keeps the invariants.
-- Assumes nothing.
use mathlib.Core.Path.{sym, subst}
use mathlib.Core.Bool.{Bool, true, false, cond, ◌&&◌}
use mathlib.Core.Logic.{inl, inr}
use mathlib.Core.List.{List, [], ◌∷◌}
use Prim.Native.Nat.{ℕ, zero, suc, ◌<◌, ◌^◌}
use lib.ListN.{get_or, length}
use lib.Dec.{leb, eqb}
use Rattle.lists.specs.Runs.{Each}
use Rattle.graph.specs.Graph.{role_count, privilege_count}
use Rattle.graph.specs.Editing.{add_by_place, add_by_privileges, remove_role, grant, withdraw, add_edge, remove_edge}
use Rattle.seats.specs.Bytes.{number_at, Bytes}
use Rattle.seats.specs.Seats.{State}
use Rattle.seats.specs.Calls.{Call, change, declare, lift, assign, unassign, ask, Answer, perform}
use Rattle.seats.specs.Records.{record_length, Decoded, malformed, well_formed, Fields, fields, unused, kind, kinds, decode, perform_decoded, step}
use Rattle.seats.specs.Invariants.{Invariant}
use Rattle.seats.proofs.Settling.{settled}
use Rattle.seats.proofs.Numbers.{number_lt}
use Rattle.graph.proofs.Edits.{Fits}
use Rattle.seats.proofs.CallInvariant.{FitsCall, call_keeps}

-- What is decoded carries sets of their width.
unfoldable pub FitsDecoded : Decoded → Type 0
FitsDecoded malformed = Unit {0}
FitsDecoded (well_formed c) = FitsCall c

cond_fits : (t : Bool) (c : Call) → FitsCall c → FitsDecoded (cond t (well_formed c) malformed)
unfolding FitsDecoded
cond_fits true c f = f
cond_fits false c f = tt

kind_fits : (f : Fields) (most sets : ℕ) (c : Call) → FitsCall c → FitsDecoded (kind f most sets c)
unfolding kind
kind_fits f most sets c h = cond_fits (leb f.b most && unused sets f) c h

each_at : (l : List Decoded) (k : ℕ) → Each FitsDecoded l → FitsDecoded (get_or l k malformed)
unfolding Each FitsDecoded
each_at [] k e = tt
each_at (d ∷ l) zero (h, e) = h
each_at (d ∷ l) (suc k) (h, e) = each_at l k e

kinds_fit : (f : Fields) → f.x < 2 ^ privilege_count → f.y < 2 ^ role_count → f.z < 2 ^ role_count → Each FitsDecoded (malformed ∷ kinds f)
unfolding kinds Each FitsDecoded FitsCall Fits
kinds_fit f hx hy hz =
    let a = f.a in
    let b = f.b in (
      tt,
      (
        kind_fits f 0 3 (change (add_by_place a f.x f.y f.z)) (hx, hy, hz),
        (
          kind_fits f 0 1 (change (add_by_privileges a f.x)) hx,
          (
            kind_fits f 1 0 (change (remove_role a b)) tt,
            (
              kind_fits f 255 0 (change (grant a b)) tt,
              (
                kind_fits f 255 0 (change (withdraw a b)) tt,
                (
                  kind_fits f 255 0 (change (add_edge a b)) tt,
                  (
                    kind_fits f 255 0 (change (remove_edge a b)) tt,
                    (
                      kind_fits f 255 0 (declare a b) tt,
                      (
                        kind_fits f 255 0 (lift a b) tt,
                        (
                          kind_fits f 255 0 (assign a b) tt,
                          (
                            kind_fits f 255 0 (unassign a b) tt,
                            (kind_fits f 255 0 (ask a b) tt, tt),
                          ),
                        ),
                      ),
                    ),
                  ),
                ),
              ),
            ),
          ),
        ),
      ),
    )

pub decode_fits : (l : List ℕ) → Bytes l → FitsDecoded (decode l)
unfolding decode fields FitsDecoded
decode_fits l b = go (eqb (length l) record_length && eqb (number_at 5 3 l) 0)
  where
    go : (t : Bool) → FitsDecoded (cond t (get_or (malformed ∷ kinds (fields l)) (get_or l 0 0) malformed) malformed)
    go true = each_at (malformed ∷ kinds (fields l)) (get_or l 0 0) (kinds_fit (fields l) (number_lt 8 8 l b) (number_lt 8 16 l b) (number_lt 8 24 l b))
    go false = tt

pub perform_keeps : (s : State) (c : Call) → FitsCall c → Invariant s → Invariant (perform s c).1
perform_keeps s c f v = elim (settled s c) [
  | inl r ↦ subst (λ (z : Answer × State). Invariant z.1) (sym r.answer) v
  | inr a ↦ subst (λ (z : Answer × State). Invariant z.1) (sym a.answer) (call_keeps s c f v a.passes)
]

-- Every record of bytes, of any length, keeps the invariants.
pub step_keeps : (s : State) (l : List ℕ) → Bytes l → Invariant s → Invariant (step s l).1
unfolding step perform_decoded FitsDecoded
step_keeps s l b v = go (decode l) (decode_fits l b)
  where
    go : (d : Decoded) → FitsDecoded d → Invariant (perform_decoded s d).1
    go malformed f = v
    go (well_formed c) f = perform_keeps s c f v
