-- What was read: by a test, in two steps, in front of more; and the first byte of a text.
-- Assumes nothing.
use mathlib.Core.Bool.{Bool, true, false, cond, ◌&&◌}
use mathlib.Core.List.{List, [], ◌∷◌}
use mathlib.Core.Logic.{◌⊎◌, inl, inr}
use mathlib.Core.Path.{◌≡◌, refl, sym, ap, ◌∙◌}
use Prim.Native.Nat.{ℕ, ◌<◌}
use native.Mathlib.Omega.{arith}
use lib.ListN.{length, drop}
use lib.Seq.{drop-drop}
use Rattle.sheets.specs.Parsing.{Read, got, bad, and_then, head, fronted}

-- ---- tests
pub not_both : true ≡ false → ⊥
not_both e = let z : ◌≡◌ {A = ℕ} 0 1 = cc in omega arith

pub and_both : (a b : Bool) → a && b ≡ true → (a ≡ true) × (b ≡ true)
and_both true b e = (refl, e)
and_both false b e = absurd (not_both (sym e))

-- ---- what was read
pub nothing_got : {X : Type 0} {x : X} {t : List ℕ} → bad ≡ got x t → ⊥
nothing_got e = let z : ◌≡◌ {A = ℕ} 0 1 = cc in omega arith

-- By a test that has nothing otherwise.
pub passed : {X : Type 0} (b : Bool) {r : Read X} {x : X} {t : List ℕ} → cond b r bad ≡ got x t → (b ≡ true) × (r ≡ got x t)
passed true e = (refl, e)
passed false e = absurd (nothing_got e)

pub by_test : {X : Type 0} (b : Bool) {r q u : Read X} → cond b r q ≡ u → ((b ≡ true) × (r ≡ u)) ⊎ ((b ≡ false) × (q ≡ u))
by_test true e = inl (refl, e)
by_test false e = inr (refl, e)

-- In two steps.
pub in_steps : {X Y : Type 0} (r : Read X) (f : X → List ℕ → Read Y) {y : Y} {t : List ℕ} → and_then r f ≡ got y t → (x : X) × (u : List ℕ) × (r ≡ got x u) × (f x u ≡ got y t)
unfolding and_then
in_steps bad f e = absurd (nothing_got e)
in_steps (got x u) f e = (x, u, refl, e)

-- With one thing more in front.
pub in_front : {X : Type 0} (x : X) (r : Read (List X)) {l : List X} {t : List ℕ} → fronted x r ≡ got l t → (m : List X) × (r ≡ got m t) × (l ≡ x ∷ m)
unfolding fronted
in_front x bad e = absurd (nothing_got e)
in_front {X} x (got m u) {l} {t} e =
    let a : u ≡ t = cc in
    let b : x ∷ m ≡ l = cc in
    (m, ap (got m) a, sym b)

-- ---- texts
pub no_length : (l : List ℕ) → length l ≡ 0 → l ≡ []
no_length [] e = refl
no_length (x ∷ l) e = absurd (omega arith)

-- A text that begins with this byte, and no zero.
pub begins_with : (l : List ℕ) {x : ℕ} → head l ≡ x → 0 < x → l ≡ x ∷ drop 1 l
begins_with [] e h = absurd (let z = e in omega arith)
begins_with (y ∷ l) e h = ap (λ (z : ℕ). z ∷ l) e

-- A text that begins with these two.
pub begins_with_two : (l : List ℕ) {x y : ℕ} → head l ≡ x → 0 < x → head (drop 1 l) ≡ y → 0 < y → l ≡ x ∷ y ∷ drop 2 l
begins_with_two l {x} {y} e h f k =
    begins_with l e h ∙ ap (λ (m : List ℕ). x ∷ m) (begins_with (drop 1 l) f k ∙ ap (λ (m : List ℕ). y ∷ m) (drop-drop 1 1 l))
