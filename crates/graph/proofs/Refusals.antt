-- The laws of checks: what a verdict says of its list, that the first in the order of refusals answers, and what each check that passes says.
-- Assumes nothing.
use mathlib.Core.Path.{◌≡◌, refl, sym, ap, ◌∙◌, subst}
use mathlib.Core.Bool.{Bool, true, false, cond, not, ◌&&◌, ◌||◌}
use mathlib.Core.Logic.{◌≢◌, inl, inr}
use mathlib.Core.List.Memᴰ
use mathlib.Core.List.{List, [], ◌∷◌, ◌++◌, Memᴰ}
use Prim.Native.Nat.{ℕ, ◌<◌, ◌≤◌, ◌^◌}
use native.Mathlib.Decide.{ℕ_discrete}
use native.Mathlib.Omega.{arith}
use lib.Dec.{T, T_not, not_T, leb, nleb→lt, eqb}
use Rattle.sets.specs.Counting.{any}
use Rattle.sets.specs.Sets.{member}
use Rattle.sets.proofs.Tests.{both, or_right, join, passes, fails, decide, so, equal_test, test_equal}
use Rattle.sets.proofs.Counting.{any-some, some-any}
use Rattle.sets.proofs.Laws.{member-lt}
use Rattle.graph.specs.Graph.{Graph, role_count, is_end, ordinary, present, effective}
use Rattle.graph.specs.Conflicts.{holds_pair}
use Rattle.graph.specs.Editing.{Change, add_by_place, add_by_privileges, remove_role, grant, withdraw, add_edge, remove_edge}
use Rattle.graph.specs.Refusing.{Check, passed, refused, verdict, refusal_order, listed, from, no_earlier, input_checks, at_or_below, state_checks, empty_role, twin_role, pair_role, still_below, closed_checks, change_checks, Passes}
use Rattle.graph.specs.Invariants.{Formed, Distinct, PairFree}
use Rattle.graph.proofs.Order.{is_end-lt, not-end, ordinary_lt}

pub parts : (l m : List Check) → Passes (l ++ m) → Passes l × Passes m
unfolding Passes
parts [] m t = (tt, t)
parts (c ∷ l) m (x, t) = let z = parts l m t in ((x, z.0), z.1)

pub whole : (l m : List Check) → Passes l → Passes m → Passes (l ++ m)
unfolding Passes
whole [] m s t = t
whole (c ∷ l) m (x, s) t = (x, whole l m s t)

-- ---- verdicts
-- The first check refuses, or the others decide.
verdict_holds : (c : Check) (l : List Check) → T c.holds → verdict (c ∷ l) ≡ refused c.number c.place
unfolding verdict
verdict_holds c l t = rw (passes c.holds t)

verdict_next : (c : Check) (l : List Check) → (T c.holds → ⊥) → verdict (c ∷ l) ≡ verdict l
unfolding verdict
verdict_next c l f = rw (fails c.holds f)

not_passed : {n p : ℕ} → refused n p ≡ passed → ⊥
not_passed e = let z : ◌≡◌ {A = ℕ} 0 1 = cc in omega arith

pub verdict_passes : (l : List Check) → Passes l → verdict l ≡ passed
unfolding Passes verdict
verdict_passes [] t = refl
verdict_passes (c ∷ l) (x, t) = verdict_next c l x ∙ verdict_passes l t

pub passed_passes : (l : List Check) → verdict l ≡ passed → Passes l
unfolding Passes
passed_passes [] e = tt
passed_passes (c ∷ l) e =
    elim (decide c.holds) [
      | inl t ↦ absurd (not_passed (sym (verdict_holds c l t) ∙ e))
      | inr f ↦ (f, passed_passes l (sym (verdict_next c l f) ∙ e))
    ]

-- A check of the list holds with number n and place p, and none before it holds.
pub record Refuses (l : List Check) (n p : ℕ) : Type 0 where
  pub before : List Check
  pub found : Check
  pub after : List Check
  pub split : l ≡ before ++ (found ∷ after)
  pub none_before : Passes before
  pub found_holds : T found.holds
  pub found_number : found.number ≡ n
  pub found_place : found.place ≡ p

pub refused_holds : (l : List Check) (n p : ℕ) → verdict l ≡ refused n p → Refuses l n p
unfolding Passes verdict
refused_holds [] n p e = absurd (not_passed (sym e))
refused_holds (c ∷ l) n p e =
    elim (decide c.holds) [
      | inl t ↦ here t (sym (verdict_holds c l t) ∙ e)
      | inr f ↦ later f (refused_holds l n p (sym (verdict_next c l f) ∙ e))
    ]
  where
    here : T c.holds → refused c.number c.place ≡ refused n p → Refuses (c ∷ l) n p
    here t q = record {
      before = [];
      found = c;
      after = l;
      split = refl;
      none_before = tt;
      found_holds = t;
      found_number = cc;
      found_place = cc;
    }

    later : (T c.holds → ⊥) → Refuses l n p → Refuses (c ∷ l) n p
    later f r = record {
      before = c ∷ r.before;
      found = r.found;
      after = r.after;
      split = ap (λ (m : List Check). c ∷ m) r.split;
      none_before = (f, r.none_before);
      found_holds = r.found_holds;
      found_number = r.found_number;
      found_place = r.found_place;
    }

-- ---- the order of refusals
-- The checks stand in the order o: each has a number of it, no earlier than that of the one before.
unfoldable pub in_order : List ℕ → List Check → Bool
in_order o [] = true
in_order o (c ∷ l) = listed o c.number && in_order (from o c.number) l

-- An order from one of its numbers on has that number.
own_place : (o : List ℕ) (n : ℕ) → T (listed o n) → T (listed (from o n) n)
unfolding listed from
own_place [] n t = t
own_place (m ∷ o) n t = go (eqb m n) refl (own_place o n) t
  where
    go : (b : Bool) → eqb m n ≡ b → (T (listed o n) → T (listed (from o n) n)) → T (b || listed o n) → T (listed (cond b (m ∷ o) (from o n)) n)
    go true e rest u = subst (λ (b : Bool). T (b || listed o n)) (sym e) tt
    go false e rest u = rest u

-- What an order has from a number on, it has.
pub from-listed : (o : List ℕ) (n m : ℕ) → T (listed (from o n) m) → T (listed o m)
unfolding listed from
from-listed [] n m t = t
from-listed (k ∷ o) n m t = go (eqb k n) (from-listed o n m) t
  where
    go : (b : Bool) → (T (listed (from o n) m) → T (listed o m)) → T (listed (cond b (k ∷ o) (from o n)) m) → T (eqb k m || listed o m)
    go true rest u = u
    go false rest u = or_right (eqb k m) (listed o m) (rest u)

-- What stands from n on in the order from d on, stands from n on in the whole order.
from-from : (o : List ℕ) (d n m : ℕ) → T (listed (from (from o d) n) m) → T (listed (from o n) m)
unfolding listed from
from-from [] d n m t = t
from-from (k ∷ o) d n m t = go (eqb k d) (eqb k n) refl (from-from o d n m) t
  where
    go : (x y : Bool) → eqb k n ≡ y → (T (listed (from (from o d) n) m) → T (listed (from o n) m))
        → T (listed (from (cond x (k ∷ o) (from o d)) n) m) → T (listed (cond y (k ∷ o) (from o n)) m)
    go true y e rest u = subst (λ (b : Bool). T (listed (cond b (k ∷ o) (from o n)) m)) e u
    go false true e rest u = or_right (eqb k m) (listed o m) (from-listed o d m (from-listed (from o d) n m u))
    go false false e rest u = rest u

-- Each check of a list in an order has a number of it.
check_listed : (o : List ℕ) (l : List Check) → T (in_order o l) → (c : Check) → Memᴰ c l → T (listed o c.number)
unfolding in_order
check_listed o [] a c m = absurd (Memᴰ.not-nil m)
check_listed o (d ∷ l) a c m =
    let (x, y) = both (listed o d.number) (in_order (from o d.number) l) a in
    elim (Memᴰ.cases_cons m) [
      | inl e ↦ subst (λ (i : Check). T (listed o i.number)) (sym e) x
      | inr z ↦ from-listed o d.number c.number (check_listed (from o d.number) l y c z)
    ]

-- Where the checks stand in an order, no check that holds has an earlier number in it than the verdict.
pub first_in_order : (o : List ℕ) (l : List Check) (n p : ℕ) → T (in_order o l) → verdict l ≡ refused n p → (c : Check) → Memᴰ c l → T c.holds → T (no_earlier o n c.number)
unfolding verdict in_order no_earlier
first_in_order o [] n p a e c m t = absurd (Memᴰ.not-nil m)
first_in_order o (d ∷ l) n p a e c m t =
    let (x, y) = both (listed o d.number) (in_order (from o d.number) l) a in
    elim (decide d.holds) [
      | inl u ↦ first x y (sym (verdict_holds d l u) ∙ e)
      | inr f ↦
          elim (Memᴰ.cases_cons m) [
            | inl q ↦ absurd (f (subst (λ (i : Check). T i.holds) q t))
            | inr z ↦ from-from o d.number n c.number (first_in_order (from o d.number) l n p y (sym (verdict_next d l f) ∙ e) c z t)
          ]
    ]
  where
    first : T (listed o d.number) → T (in_order (from o d.number) l) → refused d.number d.place ≡ refused n p → T (listed (from o n) c.number)
    first x y q =
        let e : d.number ≡ n = cc in
        subst (λ (i : ℕ). T (listed (from o i) c.number)) e
        (elim (Memᴰ.cases_cons m) [
          | inl z ↦ subst (λ (i : Check). T (listed (from o d.number) i.number)) (sym z) (own_place o d.number x)
          | inr z ↦ check_listed (from o d.number) l y c z
        ])

-- The checks of a change stand in the order of refusals.
pub checks_in_order : (g : Graph) (c : Change) (h : Graph) → T (in_order refusal_order (change_checks g c h))
unfolding in_order refusal_order listed from change_checks input_checks state_checks still_below closed_checks
checks_in_order g (add_by_place a own juniors seniors) h = tt
checks_in_order g (add_by_privileges a own) h = tt
checks_in_order g (remove_role a b) h = tt
checks_in_order g (grant a b) h = tt
checks_in_order g (withdraw a b) h = tt
checks_in_order g (add_edge a b) h = tt
checks_in_order g (remove_edge a b) h = tt

-- ---- what each check that passes says
-- 2: a number is below the count.
pub number_lt : (n a : ℕ) → (T (leb n a) → ⊥) → a < n
number_lt n a f = nleb→lt n a (not_T (leb n a) f)

-- 3: no role named among several is an end role.
pub no_end_in : (s : ℕ) → (T (any role_count (λ r. is_end r && member r s)) → ⊥) → (r : ℕ) → T (member r s) → 2 ≤ r
no_end_in s f r m =
    not-end r
    (λ e. let l = is_end-lt r e in f (some-any role_count (λ r. is_end r && member r s) r (omega arith) (join (is_end r) (member r s) e m)))

-- 4 and 5: the two numbers differ.
pub not_equal : (a b : ℕ) → (T (eqb a b) → ⊥) → a ≢ b
not_equal a b f e = f (equal_test e)

-- 21: each role named among several is present.
pub all_present : (g : Graph) (s : ℕ) → s < 2 ^ role_count → (T (any role_count (λ r. member r s && not (present g r))) → ⊥) → (r : ℕ) → T (member r s) → T (present g r)
all_present g s h f r m =
    so (present g r)
    (λ n. f (some-any role_count (λ r. member r s && not (present g r)) r (member-lt role_count r s h m) (join (member r s) (not (present g r)) m n)))

-- 25, kind 1: no senior is or lies below a junior.
pub no_circle_in : (g : Graph) (juniors seniors : ℕ) → juniors < 2 ^ role_count → seniors < 2 ^ role_count
    → (T (any role_count (λ j. member j juniors && any role_count (λ s. member s seniors && at_or_below g s j))) → ⊥)
    → (j s : ℕ) → T (member j juniors) → T (member s seniors) → T (at_or_below g s j) → ⊥
no_circle_in g juniors seniors hj hs f j s mj ms t =
    f
    (some-any role_count (λ j. member j juniors && any role_count (λ s. member s seniors && at_or_below g s j)) j (member-lt role_count j juniors hj mj)
    (join (member j juniors) (any role_count (λ s. member s seniors && at_or_below g s j)) mj
    (some-any role_count (λ s. member s seniors && at_or_below g s j) s (member-lt role_count s seniors hs ms) (join (member s seniors) (at_or_below g s j) ms t))))

-- ---- refusals 27 to 29
-- s is a twin of r.
twins : Graph → ℕ → ℕ → Bool
twins h r s = (ordinary h s && not (eqb r s)) && eqb (effective h r) (effective h s)

-- What the checks after closing leave: ordinary roles are non-empty, different and free of declared pairs.
pub closed-from : (h : Graph) → Formed h → Passes (closed_checks h) → Distinct h × PairFree h
unfolding Passes closed_checks empty_role twin_role pair_role twins
closed-from h w (x, (y, (z, _))) = (
  record {
    non_empty = λ r o e. x (some-any role_count (empty_role h) r (lt r o) (join (ordinary h r) (eqb (effective h r) 0) o (equal_test e)));
    different = λ r s o q e.
        elim (ℕ_discrete r s) [
          | yes n ↦ n
          | no n ↦ absurd (y (some-any role_count (twin_role h) r (lt r o)
              (join (ordinary h r) (any role_count (twins h r)) o (some-any role_count (twins h r) s (lt s q)
              (join (ordinary h s && not (eqb r s)) (eqb (effective h r) (effective h s)) (join (ordinary h s) (not (eqb r s)) q (not_T (eqb r s) (λ t. n (test_equal t)))) (equal_test e))))))
        ];
  },
  λ r o t. z (some-any role_count (pair_role h) r (lt r o) (join (ordinary h r) (holds_pair h.conflicts (effective h r)) o t)),
)
  where
    lt : (r : ℕ) → T (ordinary h r) → r < role_count
    lt r o = ordinary_lt h r w.roles_lt o

-- And back: where ordinary roles are so, no check after closing holds.
pub closed_goes : (h : Graph) → Distinct h → PairFree h → Passes (closed_checks h)
unfolding Passes closed_checks empty_role twin_role pair_role twins
closed_goes h d f = (none_empty, (none_twin, (none_pair, tt)))
  where
    none_empty : T (any role_count (empty_role h)) → ⊥
    none_empty t =
        let (r, l, x) = any-some role_count (empty_role h) t in
        let (o, e) = both (ordinary h r) (eqb (effective h r) 0) x in
        d.non_empty r o (test_equal e)

    none_twin : T (any role_count (twin_role h)) → ⊥
    none_twin t =
        let (r, l, x) = any-some role_count (twin_role h) t in
        let (o, y) = both (ordinary h r) (any role_count (twins h r)) x in
        let (s, k, z) = any-some role_count (twins h r) y in
        let (u, e) = both (ordinary h s && not (eqb r s)) (eqb (effective h r) (effective h s)) z in
        let (q, n) = both (ordinary h s) (not (eqb r s)) u in
        T_not (eqb r s) n (equal_test (d.different r s o q (test_equal e)))

    none_pair : T (any role_count (pair_role h)) → ⊥
    none_pair t =
        let (r, l, x) = any-some role_count (pair_role h) t in
        let (o, y) = both (ordinary h r) (holds_pair h.conflicts (effective h r)) x in
        f r o y
