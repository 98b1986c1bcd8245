-- What roles reach, and which pairs are together, by the table of the roles below each role.
-- Assumes nothing.
use mathlib.Core.Path.{◌≡◌, refl, sym, ap, ap₂, ◌∙◌, subst}
use mathlib.Core.Bool.{Bool, false, ◌&&◌, ◌||◌}
use mathlib.Core.Logic.{inl, inr}
use mathlib.Core.List.{List}
use Prim.Native.Nat.{ℕ, ◌<◌}
use lib.Dec.{T, eqb, ltb, lt→ltb}
use Rattle.sets.specs.Counting.{any}
use Rattle.sets.specs.Sets.{digit, member, union, when, gather}
use Rattle.sets.proofs.Tests.{both, join, either, or_left, or_right, same_test, passes, fails, equal_test, test_equal}
use Rattle.sets.proofs.Counting.{any-some, some-any, any_cong}
use Rattle.sets.proofs.Laws.{member-union, member-collect, member-gather}
use Rattle.sets.proofs.Members.{in_empty}
use Rattle.graph.specs.Tables.{at, table}
use Rattle.graph.specs.Graph.{Graph, role_count}
use Rattle.graph.specs.Drawing.{below, roles_below}
use Rattle.graph.specs.Refusing.{at_or_below}
use Rattle.graph.specs.Searching.{nothing, lowest_found}
use Rattle.graph.proofs.Tables.{at-table}
use Rattle.graph.proofs.Searches.{found_cong, found_none}
use Rattle.seats.specs.Seats.{seat_count}
use Rattle.seats.specs.Records.{all_empty}
use Rattle.sittings.specs.Sittings.{Sitting, reaches, in_use, together, clashing}
use Rattle.sittings.specs.Working.{reached_by, together_by, meets_by, clash_by}
use Rattle.sittings.proofs.JoinedTables.{empty_entries}

-- Some number passes f and is t or passes h: t passes f, or some number passes both.
any_here : (n t : ℕ) (f h : ℕ → Bool) → t < n → any n (λ r. f r && (eqb t r || h r)) ≡ f t || any n (λ r. f r && h r)
any_here n t f h l = same_test _ _ there back
  where
    there : T (any n (λ r. f r && (eqb t r || h r))) → T (f t || any n (λ r. f r && h r))
    there x =
        let (r, k, y) = any-some n (λ r. f r && (eqb t r || h r)) x in
        let (a, b) = both (f r) (eqb t r || h r) y in
        elim (either (eqb t r) (h r) b) [
          | inl e ↦ or_left (f t) _ (subst (λ (i : ℕ). T (f i)) (sym (test_equal e)) a)
          | inr c ↦ or_right (f t) _ (some-any n (λ r. f r && h r) r k (join (f r) (h r) a c))
        ]

    back : T (f t || any n (λ r. f r && h r)) → T (any n (λ r. f r && (eqb t r || h r)))
    back x =
        elim (either (f t) (any n (λ r. f r && h r)) x) [
          | inl a ↦ some-any n (λ r. f r && (eqb t r || h r)) t l (join (f t) (eqb t t || h t) a (or_left (eqb t t) (h t) (equal_test {a = t} refl)))
          | inr y ↦ (
              let (r, k, z) = any-some n (λ r. f r && h r) y in
              let (a, c) = both (f r) (h r) z in
              some-any n (λ r. f r && (eqb t r || h r)) r k (join (f r) (eqb t r || h r) a (or_right (eqb t r) (h r) c)))
        ]

-- No roles reach none.
pub none_reached : (lower : List ℕ) → reached_by lower 0 ≡ 0
unfolding gather union when member digit
none_reached lower = refl

-- No role of an empty row is together with one.
pub none_met : (lower used : List ℕ) (p : ℕ) → meets_by lower used p 0 ≡ false
none_met lower used p =
    fails (meets_by lower used p 0)
    (λ x.
    let (q, _, y) = any-some role_count (λ q. member q 0 && together_by lower used p q) x in
    in_empty q (both (member q 0) (together_by lower used p q) y).0)

-- The table of the roles below each.
abbrev pub lowers : Graph → List ℕ
lowers g = table role_count (roles_below g)

-- Its entries tell what lies below what, and what roles reach.
module _ (g : Graph) where
  pub lower_test : (p q : ℕ) → p < role_count → q < role_count → member p (at (lowers g) q) ≡ below g p q
  lower_test p q k l =
      ap (member p) (at-table role_count q (roles_below g) l) ∙ member-collect p role_count (λ r. below g r q) ∙ rw (passes (ltb p role_count) (lt→ltb p role_count k))

  pub reached_test : (roles t : ℕ) → t < role_count → member t (reached_by (lowers g) roles) ≡ reaches g roles t
  unfolding reaches at_or_below
  reached_test roles t l =
      member-union t roles _
      ∙ ap (◌||◌ (member t roles))
      (member-gather t role_count (λ r. member r roles) (at (lowers g)) ∙ any_cong role_count _ _ (λ r k. ap (◌&&◌ (member r roles)) (lower_test t r l k)))
      ∙ sym (any_here role_count t (λ r. member r roles) (below g t) l)

-- ---- pairs that are together
module _ (z : Sitting) where
  -- What the active roles of a seat reach.
  used_test : (i t : ℕ) → i < seat_count → t < role_count → member t (at (table seat_count (λ i. reached_by (lowers z.state.graph) (at z.active i))) i) ≡ in_use z i t
  unfolding in_use
  used_test i t l k = ap (member t) (at-table seat_count i _ l) ∙ reached_test z.state.graph (at z.active i) t k

  -- The lower role of the lowest excluding pair that is together.
  pub clash_test : clash_by (lowers z.state.graph) z.pairs z.active ≡ lowest_found role_count (clashing z)
  unfolding clashing together
  clash_test =
      let g = z.state.graph in
      found_cong role_count _ _
      (λ p k.
      any_cong role_count _ _
      (λ q l.
      ap (◌&&◌ (member q (at z.pairs p)))
      (ap₂ ◌||◌ (ap₂ ◌||◌ (lower_test g p q k l) (lower_test g q p l k)) (any_cong seat_count _ _ (λ i h. ap₂ ◌&&◌ (used_test i p h k) (used_test i q h l))))))

  -- Without a pair there is none that is together.
  pub no_clash : T (all_empty z.pairs) → nothing ≡ lowest_found role_count (clashing z)
  unfolding clashing
  no_clash t =
      found_none role_count (clashing z)
      (fails (any role_count (clashing z))
      (λ x.
      let (p, _, y) = any-some role_count (clashing z) x in
      let (q, _, u) = any-some role_count (λ q. member q (at z.pairs p) && together z p q) y in
      in_empty q (subst (λ (s : ℕ). T (member q s)) (empty_entries z.pairs t p) (both (member q (at z.pairs p)) (together z p q) u).0)))
