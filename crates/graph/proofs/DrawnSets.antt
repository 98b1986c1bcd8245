-- The laws of the graph as drawn from its sets: closing gives the sets back, what roles hold by paths, and which other edges make no circle.
-- Assumes nothing.
use mathlib.Core.Path.{◌≡◌, refl, sym, subst}
use mathlib.Core.Bool.{not}
use mathlib.Core.Logic.{◌↔◌, ◌⊎◌, inl, inr}
use Prim.Native.Nat.{ℕ, zero, suc, ◌<◌, ◌≤◌, ◌^◌}
use native.Mathlib.Nat.{not-suc-le-zero, lt-suc_self}
use native.Mathlib.Omega.{arith}
use lib.Dec.{T, eqb}
use Rattle.sets.specs.Sets.{member, included, strictly_included, gather}
use Rattle.sets.proofs.Tests.{both, decide}
use Rattle.sets.proofs.Laws.{included-member, difference-lt}
use Rattle.sets.proofs.Members.{in_difference, difference_in, in_gather, no_members}
use Rattle.order.specs.Paths.{Path, last, then}
use Rattle.order.proofs.Drawing.{◌⧺◌}
use Rattle.graph.specs.Tables.{at}
use Rattle.graph.specs.Graph.{Graph, role_count, privilege_count, min_role, present, effective}
use Rattle.graph.specs.Drawing.{Drawing, below, edge, direct, redraw}
use Rattle.graph.specs.Closing.{counts, close}
use Rattle.graph.specs.Invariants.{Formed}
use Rattle.graph.proofs.Tables.{table_ext, entry_in, at_end}
use Rattle.graph.proofs.Order.{Edge, from_min, to_max, inside, present_cases, below_cases, edge-below, path_iff_below}
use Rattle.graph.proofs.Heights.{order, ordinary_below, tall, tall_lt, edges_laid}
use Rattle.graph.proofs.Closing.{DirectsLaid, Laid, by_edge, of_top, counted, count_join, closed-length, closed_by, closed_member}

-- p is direct in r, or in a role from which a path leads to r.
abbrev pub Reached : Graph → ℕ → ℕ → Type 0
Reached g p r = (t : ℕ) × T (member p (direct g t)) × ((t ≡ r) ⊎ Path (Edge g) t r)

pub in_direct : (g : Graph) (p r : ℕ) → T (member p (direct g r)) → T (member p (effective g r))
unfolding direct
in_direct g p r u = (in_difference p (effective g r) (gather role_count (λ t. edge g t r) (effective g)) u).0

-- A privilege that a role holds is direct, or some immediate junior holds it.
pub direct_or_junior : (g : Graph) (p r : ℕ) → T (member p (effective g r)) → T (member p (direct g r)) ⊎ ((t : ℕ) × Edge g t r × T (member p (effective g t)))
unfolding direct
direct_or_junior g p r u =
    let below = gather role_count (λ t. edge g t r) (effective g) in
    elim (decide (member p below)) [
      | inl m ↦ (let (t, _, d, x) = in_gather p role_count (λ t. edge g t r) (effective g) m in inr (t, d, x))
      | inr n ↦ inl (difference_in p (effective g r) below u n)
    ]

module _ (g : Graph) (w : Formed g) where
  pub effective_lt : (r : ℕ) → effective g r < 2 ^ privilege_count
  unfolding effective
  effective_lt r = w.sets.entry_lt r

  -- What lies below holds no more.
  pub below_member : (t r p : ℕ) → T (below g t r) → T (member p (effective g t)) → T (member p (effective g r))
  unfolding strictly_included
  below_member t r p b u = elim (below_cases g t r b).2 [
    | from_min e d ↦ absurd (omega (arith, held.1))
    | to_max e d ↦
        elim (present_cases g t held.0) [
          | inl l ↦ absurd (omega (arith, held.1, d))
          | inr o ↦ subst (λ (i : ℕ). T (member p (effective g i))) (sym e) (included-member _ _ (w.top_whole t o) p u)
        ]
    | inside _ _ i ↦ included-member _ _ (both (included (effective g t) (effective g r)) (not (eqb (effective g t) (effective g r))) i).0 p u
  ]
    where
      held : T (present g t) × (1 ≤ t)
      held = w.held p t u

  -- ---- the drawn graph
  pub direct_laid : DirectsLaid g.roles (direct g)
  unfolding present direct
  direct_laid = record {
    direct_lt = λ r. difference-lt privilege_count (effective g r) _ (effective_lt r);
    direct_of = λ p r u. w.held p r (in_direct g p r u);
  }

  pub laid_drawing : Laid (redraw g)
  unfolding redraw
  laid_drawing = record { roles_lt = w.roles_lt; roles_ordinary = w.roles_ordinary; directs = direct_laid; joins = edges_laid g w.roles_lt }

  -- Where a drawing's roles are roles of g and its edges lie in the order of g, its counted juniors lie below.
  pub counted_below : (d : Drawing) → ((t : ℕ) → T (member t d.roles) → T (member t g.roles)) → ((t r : ℕ) → T (d.joins t r) → T (below g t r))
      → (t r : ℕ) → T (counts d t r) → T (below g t r)
  counted_below d old lies t r c =
      elim (counted d t r c) [
        | by_edge x ↦ lies t r x
        | of_top e l m ↦ subst (λ (i : ℕ). T (below g t i)) (sym e) (ordinary_below g w.roles_lt t (old t m) l)
      ]

  -- Closing the drawn graph gives the sets that it was drawn from.
  pub reclosed : (r : ℕ) → r < role_count → at (close (redraw g)) r ≡ effective g r
  unfolding redraw
  reclosed =
      closed_by (redraw g) laid_drawing (effective g) effective_lt
      (λ r p u. elim (direct_or_junior g p r u) [ inl x ↦ inl x | inr (t, d, x) ↦ inr (t, count_join (redraw g) t r d, x) ])
      (λ r p u. in_direct g p r u)
      (λ t r p c u. below_member t r p (counted_below (redraw g) (λ t m. m) (edge-below g) t r c) u)

  pub reclosed_sets : close (redraw g) ≡ g.sets
  unfolding effective
  reclosed_sets = table_ext role_count (close (redraw g)) g.sets (closed-length (redraw g)) w.sets.whole reclosed

  -- ---- what roles hold
  -- A role holds what is direct in it or in a role from which a path leads to it.
  pub effective_iff : (p r : ℕ) → T (member p (effective g r)) ↔ Reached g p r
  effective_iff p r = (find (suc (tall g w.roles_lt r)) r (lt-suc_self _), back)
    where
      on : (t r : ℕ) → Edge g t r → Reached g p t → Reached g p r
      on t r d (s, x, inl e) = (s, x, inr (subst (λ (i : ℕ). Path (Edge g) i r) (sym e) (last d)))
      on t r d (s, x, inr q) = (s, x, inr (q ⧺ last d))

      find : (k r : ℕ) → tall g w.roles_lt r < k → T (member p (effective g r)) → Reached g p r
      find zero r l u = absurd (not-suc-le-zero l)
      find (suc k) r l u =
          elim (direct_or_junior g p r u) [
            | inl x ↦ (r, x, inl refl)
            | inr (t, d, x) ↦ on t r d (find k t (omega (arith, tall_lt g w.roles_lt t r (edge-below g t r d))) x)
          ]

      back : Reached g p r → T (member p (effective g r))
      back (t, x, inl e) = subst (λ (i : ℕ). T (member p (effective g i))) e (in_direct g p t x)
      back (t, x, inr q) = below_member t r p ((path_iff_below g w.roles_lt t r).0 q) (in_direct g p t x)

  -- Beyond the last role number nothing is held.
  pub beyond_empty : (r : ℕ) → role_count ≤ r → effective g r ≡ 0
  unfolding effective
  beyond_empty r l = at_end g.sets r (omega (arith, w.sets.whole))

  pub min_empty : effective g min_role ≡ 0
  min_empty = no_members privilege_count (effective g min_role) (effective_lt min_role) (λ p u. omega (arith, (w.held p min_role u).1))

  -- A drawing whose direct privileges are held in g, and whose counted edges lie in the order of g, closes to sets that add nothing.
  pub closed_within : (d : Drawing) → Laid d → ((p r : ℕ) → T (member p (d.directs r)) → T (member p (effective g r)))
      → ((t r : ℕ) → T (counts d t r) → T (below g t r))
      → (p r : ℕ) → T (member p (at (close d) r)) → T (member p (effective g r))
  closed_within d v own lies p r u = go ((closed_member d v p r (omega (arith, entry_in (close d) r p u, closed-length d))).0 u)
    where
      along : {t r : ℕ} → Path (λ u v. T (counts d u v)) t r → T (below g t r)
      along (last {r = t} {s = r} c) = lies t r c
      along (then {r = t} {t = s} {s = r} c q) = (order g w.roles_lt).transitive t s r (lies t s c) (along q)

      go : (t : ℕ) × T (member p (d.directs t)) × ((t ≡ r) ⊎ Path (λ u v. T (counts d u v)) t r) → T (member p (effective g r))
      go (t, x, inl e) = subst (λ (i : ℕ). T (member p (effective g i))) e (own p t x)
      go (t, x, inr q) = below_member t r p (along q) (own p t x)
