-- Loops over the members of a set, lowest first, by the set that is left: `rest` holds the members that are still to be visited, below any width w.
-- Assumes nothing.
use mathlib.Core.Path.{◌≡◌, refl, sym, ap, ap₂, ◌∙◌, subst}
use mathlib.Core.Bool.{Bool, true, false, not, ◌&&◌, ◌||◌}
use mathlib.Core.Logic.{◌≢◌}
use Prim.Native.Nat.{ℕ, ◌<◌, ◌^◌}
use lib.Dec.{T, T_not, eqb, ltb, lt→ltb}
use Rattle.sets.specs.Sets.{member, single, union, when, collect, lowest_member, without_lowest}
use Rattle.sets.proofs.Tests.{both, passes, fails, test_equal}
use Rattle.sets.proofs.Counting.{lowest-lt}
use Rattle.sets.proofs.Laws.{member-empty, member-union, member-single, member-when, member-collect, extensional, collect-lt, difference-lt}
use Rattle.sets.proofs.Walks.{some_member, lowest_in, member_next}

pub lowest_below : (w rest : ℕ) → rest < 2 ^ w → rest ≢ 0 → lowest_member w rest < w
unfolding lowest_member
lowest_below w rest fits some = lowest-lt w (λ n. member n rest) (some_member w rest fits some)

-- A number is a member of `all` that was visited: it is not in what is left.
unfoldable pub visited : ℕ → ℕ → ℕ → Bool
visited all rest n = member n all && not (member n rest)

pub visited_none : (all n : ℕ) → T (visited all all n) → ⊥
unfolding visited
visited_none all n t = let (x, y) = both (member n all) (not (member n all)) t in T_not (member n all) y x

pub visited_all : (all n : ℕ) → visited all 0 n ≡ member n all
unfolding visited
visited_all all n = ap (λ (b : Bool). member n all && not b) (member-empty n) ∙ last (member n all)
  where
    last : (b : Bool) → b && true ≡ b
    last true = refl
    last false = refl

-- With the lowest member visited, the visited ones are those of before and that member.
pub visited_next : (w all rest : ℕ) → rest < 2 ^ w → rest ≢ 0 → ((n : ℕ) → T (member n rest) → T (member n all))
    → (n : ℕ) → visited all (without_lowest w rest) n ≡ visited all rest n || eqb n (lowest_member w rest)
unfolding visited
visited_next w all rest fits some sub n =
    ap (λ (b : Bool). member n all && not b) (member_next w rest n)
    ∙ spread (member n all) (member n rest) (eqb n (lowest_member w rest)) (λ t. sub n (subst (λ (i : ℕ). T (member i rest)) (sym (test_equal t)) (lowest_in w rest fits some)))
  where
    spread : (a r e : Bool) → (T e → T a) → a && not (r && not e) ≡ (a && not r) || e
    spread true true true f = refl
    spread true true false f = refl
    spread true false true f = refl
    spread true false false f = refl
    spread false r true f = absurd (f tt)
    spread false r false f = refl

-- What is left stays within the set, and within its width.
pub next_within : (w rest n : ℕ) → T (member n (without_lowest w rest)) → T (member n rest)
next_within w rest n t = (both (member n rest) (not (eqb n (lowest_member w rest))) (subst T (member_next w rest n) t)).0

pub next_lt : (w rest : ℕ) → rest < 2 ^ w → without_lowest w rest < 2 ^ w
unfolding without_lowest
next_lt w rest h = difference-lt w rest (single (lowest_member w rest)) h

-- ---- collecting the members that pass
-- What has been collected: the visited members that pass.
unfoldable pub Collected : (ℕ → Bool) → ℕ → ℕ → ℕ → Type 0
Collected f all rest acc = (n : ℕ) → member n acc ≡ visited all rest n && f n

pub collect_none : (f : ℕ → Bool) (all : ℕ) → Collected f all all 0
unfolding Collected
collect_none f all n = member-empty n ∙ sym (ap (λ (b : Bool). b && f n) (fails (visited all all n) (visited_none all n)))

pub collect_next : (f : ℕ → Bool) (w all rest acc : ℕ) → rest < 2 ^ w → rest ≢ 0 → ((n : ℕ) → T (member n rest) → T (member n all)) → Collected f all rest acc
    → Collected f all (without_lowest w rest) (union acc (when (f (lowest_member w rest)) (single (lowest_member w rest))))
unfolding Collected
collect_next f w all rest acc fits some sub c n =
    let m = lowest_member w rest in
    member-union n acc (when (f m) (single m))
    ∙ ap₂ ◌||◌ (c n) (member-when n (f m) (single m) ∙ ap (λ (b : Bool). f m && b) (member-single n m))
    ∙ spread (visited all rest n) (eqb n m) (f n) (f m) (λ t. ap f (test_equal t))
    ∙ sym (ap (λ (b : Bool). b && f n) (visited_next w all rest fits some sub n))
  where
    spread : (v e x y : Bool) → (T e → x ≡ y) → (v && x) || (y && e) ≡ (v || e) && x
    spread true true true true q = refl
    spread true true true false q = refl
    spread true true false true q = sym (q tt)
    spread true true false false q = refl
    spread true false true true q = refl
    spread true false true false q = refl
    spread true false false true q = refl
    spread true false false false q = refl
    spread false true true true q = refl
    spread false true true false q = sym (q tt)
    spread false true false true q = sym (q tt)
    spread false true false false q = refl
    spread false false x true q = refl
    spread false false x false q = refl

-- At the end: the members of `all` that pass.
pub collect_done : (f : ℕ → Bool) (w all acc : ℕ) → all < 2 ^ w → acc < 2 ^ w → Collected f all 0 acc → acc ≡ collect w (λ n. member n all && f n)
unfolding Collected
collect_done f w all acc fits h c =
    extensional w acc (collect w (λ n. member n all && f n)) h (collect-lt w (λ n. member n all && f n))
    (λ n l. c n ∙ ap (λ (b : Bool). b && f n) (visited_all all n) ∙ sym (member-collect n w (λ n. member n all && f n) ∙ ap (λ (b : Bool). b && (member n all && f n)) (passes (ltb n w) (lt→ltb n w l))))
