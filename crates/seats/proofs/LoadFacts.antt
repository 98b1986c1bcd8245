-- What a load that gives a state has found: its trailer, contents that no check refuses, and the state that they describe.
-- Assumes nothing.
use mathlib.Core.Path.{◌≡◌, refl, sym, ap, ◌∙◌}
use mathlib.Core.Bool.{Bool, true, false, not, cond, ◌&&◌, ◌||◌}
use mathlib.Core.Logic.{◌⊎◌, inl, inr}
use mathlib.Core.List.{List, ◌++◌}
use Prim.Native.Nat.{ℕ, suc, ◌-◌, ◌<◌, ◌≤◌}
use native.Mathlib.Omega.{arith}
use lib.ListN.{length}
use lib.Dec.{T, T_not, not_T, eqb, leb, leb→le, ltb, ltb→lt}
use Rattle.sets.specs.Sets.{empty, included}
use Rattle.sets.proofs.Tests.{both, either, or_left, or_right, so, test_equal}
use Rattle.graph.specs.Graph.{role_count, is_end, privilege_count}
use Rattle.graph.specs.Refusing.{Verdict, passed, refused, verdict, Passes}
use Rattle.seats.specs.Seats.{State, seat_count}
use Rattle.seats.specs.Images.{Entry, Contents, trailer_length, least_image, distance, far_at, counts_at, contents, keys, restored, pair_place, no_ordinary_number, entry_checks, content_checks, Loaded, loaded, not_loaded, unless_refused, load_contents, load_trailer, load}
use Rattle.graph.proofs.Refusals.{parts, passed_passes, number_lt}
use Rattle.seats.proofs.EntryBytes.{Each, each_map, each_zip}
use Rattle.seats.proofs.AscendingEntries.{Rising, ordered_rising, rising_ordered, none_each, each_none}
use Rattle.seats.proofs.StoredPairs.{Pair}

-- The trailer and the contents of bytes that load.
pub record Found (l : List ℕ) (s : State) : Type 0 where
  pub far : far_at l (length l) ≡ distance (counts_at l (length l))
  pub fits : distance (counts_at l (length l)) ≤ length l
  pub loads : load_contents (contents l (length l - distance (counts_at l (length l))) (counts_at l (length l))) ≡ loaded s

pub found : (l : List ℕ) (s : State) → load l ≡ loaded s → Found l s
unfolding load load_trailer
found l s e =
    let end = length l in
    let far = far_at l end in
    let n = counts_at l end in
    let x = otherwise (ltb end least_image) _ e in
    let y = where_so (eqb far (distance n) && leb far end) _ x in
    let z = both (eqb far (distance n)) (leb far end) y.0 in
    let q : far ≡ distance n = test_equal z.0 in
    let k = leb→le far end z.1 in
    record { far = q; fits = omega arith; loads = ap (λ (d : ℕ). load_contents (contents l (end - d) n)) (sym q) ∙ y.1 }
  where
    where_so : (b : Bool) (x : Loaded) → cond b x (not_loaded 6 0) ≡ loaded s → T b × (x ≡ loaded s)
    where_so true x e = (tt, e)
    where_so false x e = absurd (let z : ◌≡◌ {A = ℕ} 0 1 = cc in omega arith)

    otherwise : (b : Bool) (x : Loaded) → cond b (not_loaded 6 0) x ≡ loaded s → x ≡ loaded s
    otherwise true x e = absurd (let z : ◌≡◌ {A = ℕ} 0 1 = cc in omega arith)
    otherwise false x e = e

-- They have a trailer.
pub loads_long : (l : List ℕ) (s : State) → load l ≡ loaded s → trailer_length ≤ length l
unfolding distance
loads_long l s e = let f = (found l s e).fits in omega arith

-- Contents that load: no check refuses, and the state is the one that they describe.
pub record Accepted (c : Contents) (s : State) : Type 0 where
  pub entries : Passes (entry_checks c)
  pub state : Passes (content_checks (restored c))
  pub same : restored c ≡ s

pub accepted : (c : Contents) (s : State) → load_contents c ≡ loaded s → Accepted c s
unfolding load_contents unless_refused
accepted c s e =
    let l = entry_checks c in
    let m = content_checks (restored c) in
    let x = unrefused (verdict (l ++ m)) e in
    let p = parts l m (passed_passes (l ++ m) x.0) in
    record { entries = p.0; state = p.1; same = x.1 }
  where
    unrefused : (d : Verdict) → unless_refused d (restored c) ≡ loaded s → (d ≡ passed) × (restored c ≡ s)
    unrefused passed e = (refl, cc)
    unrefused (refused n p) e = absurd (let z : ◌≡◌ {A = ℕ} 0 1 = cc in omega arith)

-- What the checks of the entries say.
pub record Ordered (c : Contents) : Type 0 where
  pub roles_rise : Rising Entry.key 0 c.roles
  pub roles : Each (λ e. (2 ≤ e.key) × (e.key < role_count)) c.roles
  pub conflicts_rise : Rising pair_place 0 c.conflicts
  pub conflicts : Each Pair c.conflicts
  pub seats_rise : Rising Entry.key 0 c.seats
  pub seats : Each (λ e. (e.key < seat_count) × T (not (eqb e.value empty)) × T (included e.value (keys c.roles))) c.seats

-- A number that is not refused is that of an ordinary role, and back.
pub role_number : (e : Entry) → (T (no_ordinary_number e) → ⊥) → (2 ≤ e.key) × (e.key < role_count)
unfolding no_ordinary_number is_end
role_number e f =
    let h = number_lt (suc e.key) 2 (λ t. f (or_left (ltb e.key 2) (leb role_count e.key) t)) in
    (omega arith, number_lt role_count e.key (λ t. f (or_right (ltb e.key 2) (leb role_count e.key) t)))

pub number_role : (e : Entry) → (2 ≤ e.key) × (e.key < role_count) → T (no_ordinary_number e) → ⊥
unfolding no_ordinary_number is_end
number_role e p t = none (either (ltb e.key 2) (leb role_count e.key) t)
  where
    none : T (ltb e.key 2) ⊎ T (leb role_count e.key) → ⊥
    none (inl t) = let a = p.0 in let b = ltb→lt e.key 2 t in omega arith
    none (inr t) = let a = p.1 in let b = leb→le role_count e.key t in omega arith

pub ordered : (c : Contents) → Passes (entry_checks c) → Ordered c
unfolding Passes entry_checks
ordered c (no-roles, (no_pairs, (no-seats, (R, (C, (S, (lower, (none, (absent, _))))))))) = record {
  roles_rise = ordered_rising Entry.key c.roles R;
  roles = each_map c.roles role_number (none_each no_ordinary_number c.roles no-roles);
  conflicts_rise = ordered_rising pair_place c.conflicts C;
  conflicts =
      each_zip c.conflicts
      (λ e x y. (number_lt e.value e.key y, number_lt privilege_count e.value (λ t. x (or_right (leb privilege_count e.key) (leb privilege_count e.value) t))))
      (none_each _ c.conflicts no_pairs) (none_each _ c.conflicts lower);
  seats_rise = ordered_rising Entry.key c.seats S;
  seats =
      each_zip c.seats (λ e x y. (number_lt seat_count e.key x, y.0, y.1)) (none_each _ c.seats no-seats)
      (each_zip {R = λ e. T (not (eqb e.value empty)) × T (included e.value (keys c.roles))} c.seats
      (λ e x y. (not_T (eqb e.value empty) x, so (included e.value (keys c.roles)) y)) (none_each _ c.seats none) (none_each _ c.seats absent));
}

-- And back: where the entries are so, no check of them holds.
pub ordered_passes : (c : Contents) → Ordered c → Passes (entry_checks c)
unfolding Passes entry_checks
ordered_passes c o =
    let R = c.roles in
    let C = c.conflicts in
    let S = c.seats in
    let roles = each_none no_ordinary_number R (each_map R number_role o.roles) in
    let pairs =
    each_none (λ e. leb privilege_count e.key || leb privilege_count e.value) C (each_map C (λ e p t. no_pair e p (either (leb privilege_count e.key) (leb privilege_count e.value) t)) o.conflicts) in
    let seats = each_none (λ e. leb seat_count e.key) S (each_map S (λ e p t. let a = p.0 in let b = leb→le seat_count e.key t in omega arith) o.seats) in
    let lower = each_none (λ e. leb e.value e.key) C (each_map C (λ e p t. let a = p.0 in let b = leb→le e.value e.key t in omega arith) o.conflicts) in
    let some-role = each_none (λ e. eqb e.value empty) S (each_map S (λ e p. T_not (eqb e.value empty) p.1) o.seats) in
    let present-roles = each_none (λ e. not (included e.value (keys R))) S (each_map S (λ e p t. T_not (included e.value (keys R)) t p.2) o.seats) in (
      roles,
      (
        pairs,
        (
          seats,
          (
            rising_ordered Entry.key 0 R o.roles_rise,
            (
              rising_ordered pair_place 0 C o.conflicts_rise,
              (rising_ordered Entry.key 0 S o.seats_rise, (lower, (some-role, (present-roles, tt)))),
            ),
          ),
        ),
      ),
    )
  where
    no_pair : (e : Entry) → Pair e → T (leb privilege_count e.key) ⊎ T (leb privilege_count e.value) → ⊥
    no_pair e p (inl t) = let a = p.0 in let c = p.1 in let b = leb→le privilege_count e.key t in omega arith
    no_pair e p (inr t) = let a = p.1 in let b = leb→le privilege_count e.value t in omega arith
