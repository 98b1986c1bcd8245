-- A load of a sitting by what document 01's keeper makes of it: refused alike, or accepted, and then the sitting begins with the state loaded.
-- Assumes nothing.
use mathlib.Core.Path.{◌≡◌, refl, sym, ap, ◌∙◌}
use mathlib.Core.Bool.{cond}
use mathlib.Core.List.{List}
use Prim.Native.Nat.{ℕ}
use native.Mathlib.Omega.{arith}
use Rattle.lists.specs.Settling as settling
use Rattle.graph.specs.Refusing.{Verdict, passed, verdict}
use Rattle.graph.specs.Refusing as refusing
use Rattle.seats.specs.Seats.{State}
use Rattle.seats.specs.Calls.{Answer, accepted, refused, judged, settle, is_refusal}
use Rattle.seats.specs.Images.{Loaded, loaded, not_loaded, load, restored}
use Rattle.seats.specs.Images as images
use Rattle.seats.specs.Demands.{OfLoad, contents_in, load_checks}
use Rattle.seats.proofs.LoadRefusals.{load_refusals}
use Rattle.seats.proofs.LoadVerdict as base
use Rattle.sittings.specs.Sittings.{Sitting, begun}
use Rattle.sittings.specs.Images.{settle_load, load_over}

module _ (z : Sitting) where
  -- What the sitting makes of a load that document 01's keeper answers with a, leaving h.
  begun_or_kept : Answer × State → Answer × Sitting
  begun_or_kept (a, h) = cond (is_refusal a) (a, z) (a, begun h)

  loaded_beside : (x : Loaded) → settle_load z x ≡ begun_or_kept (images.settle_load z.state x)
  unfolding settle_load images.settle_load begun_or_kept is_refusal
  loaded_beside (loaded h) = refl
  loaded_beside (not_loaded n p) = refl

  settled_beside : (v : Verdict) (h : State) → begun_or_kept (settle v accepted z.state h) ≡ settle v accepted z (begun h)
  unfolding begun_or_kept settle judged settling.settle is_refusal
  settled_beside passed h = refl
  settled_beside (refusing.refused n p) h = refl

  module _ (l : List ℕ) where
    load_beside : load_over z l ≡ begun_or_kept (images.load_over z.state l)
    unfolding load_over images.load_over
    load_beside = loaded_beside (load l)

    -- Loading is settled by its list of checks.
    pub load_settles : load_over z l ≡ settle (verdict (load_checks l)) accepted z (begun (restored (contents_in l)))
    load_settles = load_beside ∙ ap begun_or_kept (base.load_settles z.state l) ∙ settled_beside (verdict (load_checks l)) (restored (contents_in l))

    -- What loads as the state h for document 01's keeper begins a sitting with it.
    pub load_begins : (h : State) → images.load_over z.state l ≡ (accepted, h) → load_over z l ≡ (accepted, begun h)
    unfolding begun_or_kept is_refusal
    load_begins h e = load_beside ∙ ap begun_or_kept e

    -- A load that is accepted gives the state that the bytes hold, with no pair and nothing active.
    pub accepted_load : (y : Sitting) → (accepted, y) ≡ load_over z l → (load l ≡ loaded y.state) × (y ≡ begun y.state)
    unfolding load_over settle_load begun
    accepted_load y e = go (load l) e
      where
        go : (x : Loaded) → (accepted, y) ≡ settle_load z x → (x ≡ loaded y.state) × (y ≡ begun y.state)
        go (loaded h) q =
            let w : y ≡ begun h = ap (λ (k : Answer × Sitting). k.1) q in
            let s = ap (λ (k : Sitting). k.state) w in
            (ap loaded (sym s), w ∙ ap begun (sym s))
        go (not_loaded n p) q = absurd (no_refusal (ap (λ (k : Answer × Sitting). k.0) q))
          where
            no_refusal : accepted ≡ refused n p → ⊥
            no_refusal w = let o : ◌≡◌ {A = ℕ} 0 1 = cc in omega arith

    -- A refused load has 6, 7 or 8 at place 0.
    pub load_number : (n p : ℕ) → (load_over z l).0 ≡ refused n p → OfLoad n × (p ≡ 0)
    unfolding load_over settle_load
    load_number n p e = go (load l) refl e
      where
        go : (x : Loaded) → load l ≡ x → (settle_load z x).0 ≡ refused n p → OfLoad n × (p ≡ 0)
        go (loaded h) q r = absurd (let o : ◌≡◌ {A = ℕ} 0 1 = cc in omega arith)
        go (not_loaded m k) q r = load_refusals l n p (q ∙ same r)
          where
            same : refused m k ≡ refused n p → not_loaded m k ≡ not_loaded n p
            same w = let x : m ≡ n = cc in let y : k ≡ p = cc in rw (x, y)
