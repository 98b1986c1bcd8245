-- The laws of the edges drawn of a strict order: their paths are the order, none returns, and no other edges with the same paths are fewer.
-- Assumes nothing.
use mathlib.Core.Path.{subst}
use mathlib.Core.Bool.{Bool, not, ◌&&◌}
use mathlib.Core.Logic.{◌↔◌, ◌⊎◌, inl, inr}
use Prim.Native.Nat.{ℕ, zero, suc, ◌<◌}
use native.Mathlib.Nat.{not-suc-le-zero}
use native.Mathlib.Decide.{ℕ_discrete}
use native.Mathlib.Omega.{arith}
use lib.Dec.{T, T_not, not_T}
use Rattle.sets.specs.Counting.{any}
use Rattle.sets.proofs.Tests.{both, join, decide}
use Rattle.sets.proofs.Counting.{any-some, some-any}
use Rattle.order.specs.Paths.{drawn, Path, last, then, StrictOrder, Between, SamePaths}

-- The drawn edges, as facts.
abbrev pub Drawn : ℕ → (ℕ → ℕ → Bool) → ℕ → ℕ → Type 0
Drawn n below r s = T (drawn n below r s)

-- ---- paths along any edges
-- One path after another.
pub ◌⧺◌ : {E : ℕ → ℕ → Type 0} {r s t : ℕ} → Path E r s → Path E s t → Path E r t
◌⧺◌ (last e) q = then e q
◌⧺◌ (then e p) q = then e (p ⧺ q)

infixr 40 ◌⧺◌
-- Where each edge of one kind is a path of another, so is each path.
pub refine : {E F : ℕ → ℕ → Type 0} → ((r s : ℕ) → E r s → Path F r s) → {r s : ℕ} → Path E r s → Path F r s
refine f (last {r = r} {s = s} e) = f r s e
refine f (then {r = r} {t = t} e p) = f r t e ⧺ refine f p

-- ---- one edge
-- t lies between r and s.
abbrev between : (ℕ → ℕ → Bool) → ℕ → ℕ → ℕ → Bool
between below r s t = below r t && below t s

-- r is below s, and none of the numbers below k lies between.
record Clear (below : ℕ → ℕ → Bool) (k r s : ℕ) : Type 0 where
  under : T (below r s)
  free : (t : ℕ) → t < k → T (below r t) → T (below t s) → ⊥

module _ (n : ℕ) (below : ℕ → ℕ → Bool) where
  -- A drawn edge is one that none of the numbers below n lies between.
  drawn_clear : (r s : ℕ) → T (drawn n below r s) → Clear below n r s
  unfolding drawn
  drawn_clear r s d =
      let some = any n (between below r s) in
      let h = both (below r s) (not some) d in
      record {
        under = h.0;
        free = λ t l x y. T_not some h.1 (some-any n (between below r s) t l (join (below r t) (below t s) x y));
      }

  clear_drawn : (r s : ℕ) → Clear below n r s → T (drawn n below r s)
  unfolding drawn
  clear_drawn r s e =
      let some = any n (between below r s) in
      join (below r s) (not some) e.under (not_T some none)
    where
      none : T (any n (between below r s)) → ⊥
      none t =
          let (i, l, z) = any-some n (between below r s) t in
          let (x, y) = both (below r i) (below i s) z in
          e.free i l x y

  pub drawn_below : (r s : ℕ) → T (drawn n below r s) → T (below r s)
  drawn_below r s d = (drawn_clear r s d).under

module _ (n : ℕ) (present : ℕ → Bool) (below : ℕ → ℕ → Bool) (o : StrictOrder n present below) where
  -- No number lies between the two of a drawn edge.
  pub drawn_none_between : (r s : ℕ) → T (drawn n below r s) → (t : ℕ) → T (below r t) → T (below t s) → ⊥
  drawn_none_between r s d t x y = (drawn_clear n below r s d).free t (o.bounded t (o.between_present t s y).0) x y

  -- ---- their paths are the order
  pub path_below : {r s : ℕ} → Path (Drawn n below) r s → T (below r s)
  path_below (last {r = r} {s = s} d) = drawn_below n below r s d
  path_below (then {r = r} {t = t} {s = s} d p) = o.transitive r t s (drawn_below n below r t d) (path_below p)

  -- Where neither a number below k nor k lies between, none below k + 1 does.
  wider : (k r s : ℕ) → Clear below k r s → (T (below r k) → T (below k s) → ⊥) → Clear below (suc k) r s
  wider k r s e g = record {
    under = e.under;
    free = λ t l x y.
        elim (ℕ_discrete t k) [
          | yes q ↦ g (subst (λ (i : ℕ). T (below r i)) q x) (subst (λ (i : ℕ). T (below i s)) q y)
          | no q ↦ e.free t (omega arith) x y
        ];
  }

  -- An edge that none of the numbers below k lies between stays where k does not lie between either, and else becomes two.
  split : (k r s : ℕ) → Clear below k r s → Path (Clear below (suc k)) r s
  split k r s e = go (decide (below r k && below k s))
    where
      go : T (below r k && below k s) ⊎ (T (below r k && below k s) → ⊥) → Path (Clear below (suc k)) r s
      go (inl p) =
          let (x, y) = both (below r k) (below k s) p in
          then (wider k r k (record { under = x; free = λ t l u v. e.free t l u (o.transitive t k s v y) }) (λ u v. o.irreflexive k v))
          (last (wider k k s (record { under = y; free = λ t l u v. e.free t l (o.transitive r k t x u) v }) (λ u v. o.irreflexive k u)))
      go (inr q) = last (wider k r s e (λ u v. q (join (below r k) (below k s) u v)))

  -- What lies below is reached by edges that none of the numbers below k lies between.
  clear_path : (k r s : ℕ) → T (below r s) → Path (Clear below k) r s
  clear_path zero r s t = last (record { under = t; free = λ i l. absurd (not-suc-le-zero l) })
  clear_path (suc k) r s t = refine (split k) (clear_path k r s t)

  pub below_path : (r s : ℕ) → T (below r s) → Path (Drawn n below) r s
  below_path r s t = refine (λ i j e. last (clear_drawn n below i j e)) (clear_path n r s t)

  pub path_iff_below : (r s : ℕ) → Path (Drawn n below) r s ↔ T (below r s)
  path_iff_below r s = (path_below, below_path r s)

  -- No path returns to where it starts.
  pub no_circle : (r : ℕ) → Path (Drawn n below) r r → ⊥
  no_circle r p = o.irreflexive r (path_below p)

  -- Any edges with the same paths have every drawn edge among them.
  pub fewest : (E : ℕ → ℕ → Type 0) → Between present E → SamePaths present E (Drawn n below) → (r s : ℕ) → Drawn n below r s → E r s
  fewest E ends same r s d =
      let h = o.between_present r s (drawn_below n below r s d) in
      only (drawn_none_between r s d) ((same r s h.0 h.1).1 (last d))
    where
      start : {i j : ℕ} → Path E i j → T (present i)
      start (last {r = i} {s = j} e) = (ends i j e).0
      start (then {r = i} {t = j} e p) = (ends i j e).0

      end : {i j : ℕ} → Path E i j → T (present j)
      end (last {r = i} {s = j} e) = (ends i j e).1
      end (then e p) = end p

      ordered : {i j : ℕ} → Path E i j → T (below i j)
      ordered {i} {j} p = path_below ((same i j (start p) (end p)).0 p)

      only : {i j : ℕ} → ((t : ℕ) → T (below i t) → T (below t j) → ⊥) → Path E i j → E i j
      only free (last e) = e
      only free (then {t = t} e p) = absurd (free t (ordered (last e)) (ordered p))
