-- What the early returns of a judge say of its list of checks.
-- Assumes nothing.
use mathlib.Core.Path.{◌≡◌, refl, sym, ap, ◌∙◌}
use mathlib.Core.Bool.{Bool, true, false, cond, not, ◌&&◌}
use mathlib.Core.List.{List, [], ◌∷◌, ◌++◌}
use Prim.Native.Nat.{ℕ}
use Rattle.sets.specs.Counting.{any, lowest}
use Rattle.sets.specs.Sets.{member}
use Rattle.graph.specs.Graph.{Graph, role_count, present}
use Rattle.graph.specs.Refusing.{Check, Verdict, passed, refused, verdict, keep}
use Rattle.graph.specs.Searching.{Found, nothing, found, lowest_found}
use Rattle.graph.specs.Reading.{drawn_from, read_verdict, read_found, read_attempt}
use Rattle.graph.specs.declared.Refusal.{Refusal}
use Rattle.graph.specs.declared.Redrawn.{Redrawn}
use Rattle.std.specs.Prelude.{Option, Some, None, Result, Ok, Err}

-- The first check holds, or the others decide.
module _ (c : Check) (l : List Check) where
  pub stops : c.holds ≡ true → verdict (c ∷ l) ≡ refused c.number c.place
  unfolding verdict
  stops e = rw e

  pub moves_on : c.holds ≡ false → verdict (c ∷ l) ≡ verdict l
  unfolding verdict
  moves_on e = rw e

-- No check holds.
pub ends : passed ≡ verdict []
unfolding verdict
ends = refl

-- ---- a verdict on the first checks
-- What follows a verdict counts where it passed.
after : Verdict → Verdict → Verdict
after passed w = w
after (refused n p) w = refused n p

verdict-append : (l m : List Check) → verdict (l ++ m) ≡ after (verdict l) (verdict m)
unfolding verdict after
verdict-append [] m = refl
verdict-append (c ∷ l) m = go c.holds (verdict-append l m)
  where
    go : (b : Bool) → verdict (l ++ m) ≡ after (verdict l) (verdict m)
        → cond b (refused c.number c.place) (verdict (l ++ m)) ≡ after (cond b (refused c.number c.place) (verdict l)) (verdict m)
    go true e = refl
    go false e = e

-- It refuses, and decides; or it passed, and the checks after them decide.
module _ (l m : List Check) {v : Result (Unit {0}) Refusal} (e : read_verdict v ≡ verdict l) where
  pub refused_first : {r : Refusal} → v ≡ Err r → read_verdict (Err r) ≡ verdict (l ++ m)
  unfolding read_verdict after
  refused_first {r} d = ap (λ (w : Verdict). after w (verdict m)) (sym (ap read_verdict d) ∙ e) ∙ sym (verdict-append l m)

  pub passed_first : v ≡ Ok tt → verdict (l ++ m) ≡ verdict m
  unfolding read_verdict after
  passed_first d = verdict-append l m ∙ ap (λ (w : Verdict). after w (verdict m)) (sym e ∙ ap read_verdict d)

-- It passed, and the check after it refuses, or is the last one and does not.
module _ (l : List Check) (c : Check) (m : List Check) {v : Result (Unit {0}) Refusal} (e : read_verdict v ≡ verdict l) (d : v ≡ Ok tt) where
  pub then_stops : c.holds ≡ true → refused c.number c.place ≡ verdict (l ++ (c ∷ m))
  then_stops h = sym (passed_first l (c ∷ m) e d ∙ stops c m h)

  pub then_goes : c.holds ≡ false → verdict m ≡ verdict (l ++ (c ∷ m))
  then_goes h = sym (passed_first l (c ∷ m) e d ∙ moves_on c m h)

-- ---- what a call leaves
-- It refuses, and the graph stays.
pub stays : (l : List Check) (g h : Graph) {v : Result (Unit {0}) Refusal} → read_verdict v ≡ verdict l → {r : Refusal} → v ≡ Err r → read_attempt g (Err r) ≡ keep (verdict l) g h
unfolding read_verdict read_attempt keep
stays l g h e {r} d = sym (ap (λ (w : Verdict). keep w g h) (sym e ∙ ap read_verdict d))

-- It passed, and leaves the graph after it.
pub becomes : (l : List Check) (g h : Graph) {v : Result (Unit {0}) Refusal} → read_verdict v ≡ verdict l → v ≡ Ok tt → (d : Redrawn) → drawn_from d.roles d.sets ≡ h → read_attempt g (Ok d) ≡ keep (verdict l) g h
unfolding read_verdict read_attempt keep
becomes l g h e k d p = ap (λ (m : Graph). (passed, m)) p ∙ sym (ap (λ (w : Verdict). keep w g h) (sym e ∙ ap read_verdict k))

-- ---- presence
-- Being present depends on the roles alone.
pub present_by : (roles : ℕ) (sets : List ℕ) (r : ℕ) {x b : Bool} → x ≡ present (drawn_from roles []) r → x ≡ b → present (drawn_from roles sets) r ≡ b
unfolding present
present_by roles sets r e t = sym e ∙ t

-- So does a search among the absent roles.
pub absent_by : (roles : ℕ) (sets : List ℕ) (s : ℕ) {x : Found} → x ≡ lowest_found role_count (λ n. member n s && not (present (drawn_from roles []) n))
    → x ≡ lowest_found role_count (λ n. member n s && not (present (drawn_from roles sets) n))
unfolding present
absent_by roles sets s e = e

-- ---- places
is_found : Found → Bool
is_found nothing = false
is_found (found p) = true

place_of : Found → ℕ
place_of nothing = 0
place_of (found p) = p

some_passes : (k : ℕ) (f : ℕ → Bool) → is_found (lowest_found k f) ≡ any k f
unfolding is_found lowest_found
some_passes k f = go (any k f)
  where
    go : (b : Bool) → is_found (cond b (found (lowest k f)) nothing) ≡ b
    go true = refl
    go false = refl

-- A search found a place, the lowest that passes, or nothing.
module _ (k : ℕ) (f : ℕ → Bool) {x : Option ℕ} (e : read_found x ≡ lowest_found k f) where
  pub place_found : {p : ℕ} → x ≡ Some p → any k f ≡ true
  unfolding is_found read_found
  place_found d = sym (ap is_found e ∙ some_passes k f) ∙ ap (λ (y : Option ℕ). is_found (read_found y)) d

  pub place_none : x ≡ None → any k f ≡ false
  unfolding is_found read_found
  place_none d = sym (ap is_found e ∙ some_passes k f) ∙ ap (λ (y : Option ℕ). is_found (read_found y)) d

  pub place_lowest : {p : ℕ} → x ≡ Some p → p ≡ lowest k f
  unfolding place_of read_found lowest_found
  place_lowest d =
      sym (ap (λ (y : Option ℕ). place_of (read_found y)) d) ∙ ap place_of e
      ∙ ap (λ (b : Bool). place_of (cond b (found (lowest k f)) nothing)) (place_found d)
