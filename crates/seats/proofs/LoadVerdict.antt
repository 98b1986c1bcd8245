-- A load is judged by one list of checks, 6 before 7 before 8: it is refused by the first that holds, or gives the state that the image's entries describe.
-- Assumes nothing.
use mathlib.Core.Path.{◌≡◌, refl, sym, ap, ◌∙◌}
use mathlib.Core.Bool.{Bool, true, false, cond, not, ◌&&◌}
use mathlib.Core.Logic.{◌↔◌}
use mathlib.Core.List.{List, ◌++◌}
use Prim.Native.Nat.{ℕ}
use native.Mathlib.Omega.{arith}
use lib.ListN.{length}
use lib.Dec.{T, not_T, eqb, leb, ltb, leb→le, ltb→lt, nltb→le, le→leb}
use Rattle.sets.proofs.Tests.{same_test}
use Rattle.graph.specs.Refusing.{Verdict, passed, verdict, listed, from}
use Rattle.graph.specs.Refusing as refusing
use Rattle.graph.proofs.Refusals.{in_order}
use Rattle.lists.specs.Settling as settling
use Rattle.seats.specs.Bytes.{Bytes}
use Rattle.seats.specs.Seats.{State}
use Rattle.seats.specs.Calls.{accepted, judged, settle}
use Rattle.seats.specs.Images.{least_image, distance, far_at, counts_at, restored, entry_checks, content_checks, Loaded, loaded, not_loaded, unless_refused, load_contents, load_trailer, load, settle_load, load_over, measured, unmeasured, measure_loaded, measure}
use Rattle.seats.specs.Images as images
use Rattle.seats.specs.Demands.{contents_in, load_order, load_checks}
use Rattle.seats.proofs.LoadedSaves.{image_far}

-- At most is not above.
not-above : (m n : ℕ) → leb m n ≡ not (ltb n m)
not-above m n =
    same_test (leb m n) (not (ltb n m)) (λ t. not_T (ltb n m) (λ u. let a = leb→le m n t in let b = ltb→lt n m u in omega arith)) (λ t. le→leb m n (nltb→le n m t))

load-judged : (l : List ℕ) → load l ≡ unless_refused (verdict (load_checks l)) (restored (contents_in l))
unfolding load load_trailer load_contents load_checks verdict unless_refused
load-judged l =
    let end = length l in
    let far = far_at l end in
    rw (not-above far end) (go (ltb end least_image) (eqb far (distance (counts_at l end))) (ltb end far))
  where
    s : State
    s = restored (contents_in l)

    v : Verdict
    v = verdict (entry_checks (contents_in l) ++ content_checks s)

    go : (short same beyond : Bool) → cond short (not_loaded 6 0) (cond (same && not beyond) (unless_refused v s) (not_loaded 6 0))
        ≡ unless_refused (cond short (refusing.refused 6 0) (cond (not same) (refusing.refused 6 0) (cond beyond (refusing.refused 6 0) v))) s
    go true same beyond = refl
    go false true true = refl
    go false true false = refl
    go false false beyond = refl

settled_load : (s h : State) (v : Verdict) → settle_load s (unless_refused v h) ≡ settle v accepted s h
unfolding settle_load unless_refused settle judged settling.settle
settled_load s h passed = refl
settled_load s h (refusing.refused n p) = refl

-- Loading with a state at hand is settled by that list, as a call is by its own.
pub load_settles : (s : State) (l : List ℕ) → load_over s l ≡ settle (verdict (load_checks l)) accepted s (restored (contents_in l))
unfolding load_over
load_settles s l = ap (settle_load s) (load-judged l) ∙ settled_load s (restored (contents_in l)) (verdict (load_checks l))

-- The checks of a load stand in their order.
pub load_checks_in_order : (l : List ℕ) → T (in_order load_order (load_checks l))
unfolding in_order load_order listed from load_checks entry_checks content_checks
load_checks_in_order l = tt

-- ---- reading and measuring

judged_by : (v : Verdict) (h : State) → (images.image_verdict (unless_refused v h)).0 ≡ v
unfolding images.image_verdict unless_refused
judged_by passed h = refl
judged_by (refusing.refused n p) h = refl

-- An image is read with the verdict of loading, and as the state that its entries describe where nothing refuses it.
pub read_judged : (l : List ℕ) → (images.image_verdict (load l)).0 ≡ verdict (load_checks l)
read_judged l = ap (λ (x : Loaded). (images.image_verdict x).0) (load-judged l) ∙ judged_by (verdict (load_checks l)) (restored (contents_in l))

pub read_passed : (l : List ℕ) → verdict (load_checks l) ≡ passed → images.image_verdict (load l) ≡ (passed, restored (contents_in l))
unfolding images.image_verdict unless_refused
read_passed l v = ap images.image_verdict (load-judged l ∙ ap (λ (w : Verdict). unless_refused w (restored (contents_in l))) v)

measured_by : (v : Verdict) (h : State) (n p : ℕ) → (measure_loaded (unless_refused v h) ≡ unmeasured n p) ↔ (v ≡ refusing.refused n p)
unfolding measure_loaded unless_refused
measured_by passed h n p = (λ e. absurd (let z : ◌≡◌ {A = ℕ} 0 1 = cc in omega arith), λ e. absurd (let z : ◌≡◌ {A = ℕ} 0 1 = cc in omega arith))
measured_by (refusing.refused m k) h n p = (
  λ e. let a : m ≡ n = cc in let b : k ≡ p = cc in rw (a, b),
  λ e. let a : m ≡ n = cc in let b : k ≡ p = cc in rw (a, b),
)

-- An image is measured with the refusals of loading.
pub measure-refuses : (l : List ℕ) (n p : ℕ) → (measure l ≡ unmeasured n p) ↔ (verdict (load_checks l) ≡ refusing.refused n p)
unfolding measure
measure-refuses l n p =
    let e = ap measure_loaded (load-judged l) in
    let z = measured_by (verdict (load_checks l)) (restored (contents_in l)) n p in
    (λ q. z.0 (sym e ∙ q), λ q. e ∙ z.1 q)

-- Bytes that load are measured as the distance in their trailer.
pub measure_loads : (l : List ℕ) → Bytes l → verdict (load_checks l) ≡ passed → measure l ≡ measured (far_at l (length l))
unfolding measure measure_loaded unless_refused
measure_loads l b v =
    let q : load l ≡ loaded (restored (contents_in l)) = load-judged l ∙ ap (λ (w : Verdict). unless_refused w (restored (contents_in l))) v in
    ap measure_loaded q ∙ ap measured (image_far l b (restored (contents_in l)) q).1
