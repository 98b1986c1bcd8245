-- What a load leaves: the state that it gives, or the state at hand; and that it is refused with 6, 7 or 8 at place 0.
-- Assumes nothing.
use mathlib.Core.Path.{◌≡◌, refl, subst}
use mathlib.Core.Bool.{Bool, true, false, cond, ◌&&◌}
use mathlib.Core.Logic.{◌⊎◌, inl, inr}
use mathlib.Core.List.{List, [], ◌∷◌, ◌++◌}
use Prim.Native.Nat.{ℕ, ◌-◌}
use lib.ListN.{length}
use lib.Dec.{eqb, leb, ltb}
use Rattle.graph.specs.Refusing.{Check, Verdict, passed, verdict}
use Rattle.graph.specs.Refusing as refusing
use Rattle.seats.specs.Seats.{State}
use Rattle.seats.specs.Calls.{accepted, refused}
use Rattle.seats.specs.Demands.{OfLoad}
use Rattle.seats.specs.Images.{least_image, distance, Contents, far_at, counts_at, contents, restored, entry_checks, content_checks, Loaded, loaded, not_loaded, unless_refused, load_contents, load_trailer, load, settle_load, load_over}

pub load_refused_keeps : (s : State) (l : List ℕ) (n p : ℕ) → load l ≡ not_loaded n p → load_over s l ≡ (refused n p, s)
unfolding load_over settle_load
load_refused_keeps s l n p e = rw e

pub load_accepted_takes : (s : State) (l : List ℕ) (h : State) → load l ≡ loaded h → load_over s l ≡ (accepted, h)
unfolding load_over settle_load
load_accepted_takes s l h e = rw e

-- A refusal of loading: 6, 7 or 8, at place 0.
abbrev pub OfLoading : ℕ → ℕ → Type 0
OfLoading n p = OfLoad n × (p ≡ 0)

-- Every check of the list has a refusal of loading.
abbrev Checks : List Check → Type 0
Checks [] = Unit {0}
Checks (c ∷ l) = OfLoading c.number c.place × Checks l

-- Where the verdict is a refusal, it is one of loading.
abbrev Judged : Verdict → Type 0
Judged passed = Unit {0}
Judged (refusing.refused n p) = OfLoading n p

-- Where a load is refused, it is by a refusal of loading.
abbrev Refused : Loaded → Type 0
Refused (loaded s) = Unit {0}
Refused (not_loaded n p) = OfLoading n p

-- What both outcomes of a test have, the outcome has.
either_way : {A : Type 0} (P : A → Type 0) (b : Bool) (x y : A) → P x → P y → P (cond b x y)
either_way P true x y h k = h
either_way P false x y h k = k

judged : (l : List Check) → Checks l → Judged (verdict l)
unfolding verdict
judged [] h = tt
judged (c ∷ l) h = either_way Judged c.holds (refusing.refused c.number c.place) (verdict l) h.0 (judged l h.1)

checks-refuse : (c : Contents) → Checks (entry_checks c ++ content_checks (restored c))
unfolding entry_checks content_checks
checks-refuse c =
    let seven : OfLoading 7 0 = (inr (inl refl), refl) in
    let eight : OfLoading 8 0 = (inr (inr refl), refl) in
    (seven, (seven, (seven, (seven, (seven, (seven, (seven, (seven, (seven, (eight, (eight, (eight, (eight, (eight, tt))))))))))))))

contents_refused : (c : Contents) → Refused (load_contents c)
unfolding load_contents unless_refused
contents_refused c = by_verdict (verdict (entry_checks c ++ content_checks (restored c))) (judged _ (checks-refuse c))
  where
    by_verdict : (d : Verdict) → Judged d → Refused (unless_refused d (restored c))
    by_verdict passed h = tt
    by_verdict (refusing.refused n p) h = h

-- What refusal 6 and every load of contents have, every load has.
pub load_cases : (P : Loaded → Type 0) → P (not_loaded 6 0) → ((c : Contents) → P (load_contents c)) → (l : List ℕ) → P (load l)
unfolding load load_trailer
load_cases P six some l =
    let far = far_at l (length l) in
    let n = counts_at l (length l) in
    let c = contents l (length l - far) n in
    either_way P (ltb (length l) least_image) (not_loaded 6 0) (load_trailer l far n) six
    (either_way P (eqb far (distance n) && leb far (length l)) (load_contents c) (not_loaded 6 0) (some c) six)

pub load_refusals : (l : List ℕ) (n p : ℕ) → load l ≡ not_loaded n p → ((n ≡ 6) ⊎ (n ≡ 7) ⊎ (n ≡ 8)) × (p ≡ 0)
load_refusals l n p e = subst Refused e (load_cases Refused (inl refl, refl) contents_refused l)
