-- The laws of reaching: what reaches a role, and that fewer roles, in a graph that orders fewer, reach less and are less together.
-- Assumes nothing.
use mathlib.Core.Path.{sym, subst}
use mathlib.Core.Bool.{◌&&◌, ◌||◌}
use mathlib.Core.Logic.{inl, inr}
use Prim.Native.Nat.{ℕ, ◌<◌, ◌≤◌}
use native.Mathlib.Omega.{arith}
use lib.Dec.{T, eqb}
use Rattle.sets.specs.Counting.{any}
use Rattle.sets.specs.Sets.{member}
use Rattle.sets.proofs.Tests.{both, join, either, or_left, or_right, test_equal}
use Rattle.sets.proofs.Counting.{any-some, some-any}
use Rattle.graph.specs.Tables.{at}
use Rattle.graph.specs.Graph.{Graph, role_count, ordinary}
use Rattle.graph.specs.Drawing.{below}
use Rattle.graph.specs.Refusing.{at_or_below}
use Rattle.graph.proofs.Order.{present_cases, below_cases}
use Rattle.seats.specs.Seats.{seat_count}
use Rattle.sittings.specs.Sittings.{Sitting, is_active, reaches, in_use, together}

module _ (g : Graph) where
  -- What roles reach, one of them is or lies above.
  pub in_reach : (roles t : ℕ) → T (reaches g roles t) → (r : ℕ) × (r < role_count) × T (member r roles) × T (at_or_below g t r)
  unfolding reaches
  in_reach roles t x =
      let (r, l, y) = any-some role_count (λ r. member r roles && at_or_below g t r) x in
      let (m, u) = both (member r roles) (at_or_below g t r) y in
      (r, l, m, u)

  pub reach_in : (roles t r : ℕ) → r < role_count → T (member r roles) → T (at_or_below g t r) → T (reaches g roles t)
  unfolding reaches
  reach_in roles t r l m u = some-any role_count (λ r. member r roles && at_or_below g t r) r l (join (member r roles) (at_or_below g t r) m u)

  -- A role that ordinary roles reach and that is no end role is ordinary.
  pub reached_ordinary : (roles t : ℕ) → ((r : ℕ) → T (member r roles) → T (ordinary g r)) → 2 ≤ t → T (reaches g roles t) → T (ordinary g t)
  unfolding at_or_below
  reached_ordinary roles t f l u =
      let (r, _, m, b) = in_reach roles t u in
      elim (either (eqb t r) (below g t r) b) [
        | inl e ↦ subst (λ (i : ℕ). T (ordinary g i)) (sym (test_equal e)) (f r m)
        | inr x ↦ elim (present_cases g t (below_cases g t r x).0) [ inl k ↦ absurd (omega arith) | inr o ↦ o ]
      ]

-- What lies below another in g does so in h.
module _ (g h : Graph) (ordered : (t r : ℕ) → T (below g t r) → T (below h t r)) where
  -- More roles reach more.
  pub reach_more : (less more t : ℕ) → ((r : ℕ) → T (member r less) → T (member r more)) → T (reaches g less t) → T (reaches h more t)
  unfolding at_or_below
  reach_more less more t f u =
      let (r, l, m, b) = in_reach g less t u in
      reach_in h more t r l (f r m)
      (elim (either (eqb t r) (below g t r) b) [
        | inl e ↦ or_left (eqb t r) (below h t r) e
        | inr x ↦ or_right (eqb t r) (below h t r) (ordered t r x)
      ])

-- With more active roles more are together.
pub together-more : (y z : Sitting) → ((t r : ℕ) → T (below y.state.graph t r) → T (below z.state.graph t r)) → ((i r : ℕ) → T (is_active y i r) → T (is_active z i r))
    → (p q : ℕ) → T (together y p q) → T (together z p q)
unfolding together in_use is_active
together-more y z ordered f p q t =
    let g = y.state.graph in
    let h = z.state.graph in
    elim (either (below g p q || below g q p) (any seat_count (λ i. in_use y i p && in_use y i q)) t) [
      | inl x ↦ or_left (below h p q || below h q p) _
          (elim (either (below g p q) (below g q p) x) [
            | inl b ↦ or_left (below h p q) (below h q p) (ordered p q b)
            | inr b ↦ or_right (below h p q) (below h q p) (ordered q p b)
          ])
      | inr x ↦ (
          let (i, l, u) = any-some seat_count (λ i. in_use y i p && in_use y i q) x in
          let (c, d) = both (in_use y i p) (in_use y i q) u in
          let more : (t : ℕ) → T (in_use y i t) → T (in_use z i t) = λ t. reach_more g h ordered (at y.active i) (at z.active i) t (f i) in
          or_right (below h p q || below h q p) _
          (some-any seat_count (λ i. in_use z i p && in_use z i q) i l (join (in_use z i p) (in_use z i q) (more p c) (more q d))))
    ]
