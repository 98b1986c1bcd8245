-- The laws of closing: of a drawing without a circle it gives the one solution of the paper's equation, what its sets hold, and a formed graph.
-- Assumes nothing.
use mathlib.Core.Path.{◌≡◌, refl, sym, ap, ◌∙◌, subst}
use mathlib.Core.Bool.{Bool, not, ◌&&◌}
use mathlib.Core.Logic.{◌↔◌, ◌⊎◌, inl, inr}
use mathlib.Core.List.{List}
use Prim.Native.Nat.{ℕ, zero, suc, ◌<◌, ◌≤◌, ◌^◌}
use native.Mathlib.Nat.{not-suc-le-zero, lt-suc_self}
use native.Mathlib.Omega.{arith}
use native.Mathlib.Decide.{dec_lt}
use lib.ListN.{length}
use lib.Pow.{pow_pos}
use lib.Dec.{T, T_not, not_T, eqb, ltb, lt→ltb}
use Rattle.sets.specs.Sets.{member, union, collect, gather}
use Rattle.sets.proofs.Tests.{both, join, either, or_left, or_right, passes, test_equal}
use Rattle.sets.proofs.Laws.{member-collect, member-lt, member-included, gather_cong, gather-lt, union-lt}
use Rattle.sets.proofs.Members.{in_union, union_left, union_right, in_gather, gather_in, same_members}
use Rattle.order.specs.Paths.{Path, last, then}
use Rattle.order.proofs.Drawing.{◌⧺◌}
use Rattle.graph.specs.Tables.{at, table}
use Rattle.graph.specs.Graph.{role_count, privilege_count, max_role, is_end, present, effective}
use Rattle.graph.specs.Drawing.{Drawing}
use Rattle.graph.specs.Closing.{drawn_role, counts, gathered, close}
use Rattle.graph.specs.Working.{has_role, JoinsLaid}
use Rattle.graph.specs.Invariants.{Formed}
use Rattle.graph.proofs.Tables.{at-table, length-table, entry_in, at_end}
use Rattle.graph.proofs.Gathering.{gathered_cong, gathered-lt, equation, unique}
use Rattle.graph.proofs.Order.{is_end-lt, lt-is_end, not-end, ordinary_parts}

-- What closing gives, read without its tables.
pub closed-at : (d : Drawing) (r : ℕ) → r < role_count → at (close d) r ≡ gathered d.directs (counts d) role_count r
unfolding close
closed-at d r l =
    at-table role_count r _ l
    ∙ gathered_cong _ _ _ _ (λ r l. at-table role_count r d.directs l) (λ t r h l. junior t r h l) role_count r l
  where
    junior : (t r : ℕ) → t < role_count → r < role_count → member t (at (table role_count (λ r. collect role_count (λ t. counts d t r))) r) ≡ counts d t r
    junior t r h l =
        ap (member t) (at-table role_count r (λ r. collect role_count (λ t. counts d t r)) l)
        ∙ member-collect t role_count (λ t. counts d t r)
        ∙ ap (λ (b : Bool). b && counts d t r) (passes (ltb t role_count) (lt→ltb t role_count h))

pub closed-length : (d : Drawing) → length (close d) ≡ role_count
unfolding close
closed-length d = length-table role_count _

-- ---- drawings that close well
-- Only roles other than MinRole have direct privileges.
pub record DirectsLaid (R : ℕ) (directs : ℕ → ℕ) : Type 0 where
  pub direct_lt : (r : ℕ) → directs r < 2 ^ privilege_count
  pub direct_of : (p r : ℕ) → T (member p (directs r)) → T (has_role R r) × (1 ≤ r)

pub record Laid (d : Drawing) : Type 0 where
  pub roles_lt : d.roles < 2 ^ role_count
  pub roles_ordinary : (r : ℕ) → T (member r d.roles) → 2 ≤ r
  pub directs : DirectsLaid d.roles d.directs
  pub joins : JoinsLaid d.roles d.joins

-- The two ways in which t counts as a junior of r: by an edge, or as an ordinary role of MaxRole.
pub data Counted (d : Drawing) (t r : ℕ) : Type 0 where
  by_edge : T (d.joins t r) → Counted d t r
  of_top : r ≡ max_role → 2 ≤ t → T (member t d.roles) → Counted d t r

drawn-parts : (d : Drawing) (r : ℕ) → T (drawn_role d r) → (2 ≤ r) × T (member r d.roles)
drawn-parts d r t = let (n, m) = both (not (is_end r)) (member r d.roles) t in (not-end r (T_not (is_end r) n), m)

drawn_join : (d : Drawing) (r : ℕ) → 2 ≤ r → T (member r d.roles) → T (drawn_role d r)
drawn_join d r l m = join (not (is_end r)) (member r d.roles) (not_T (is_end r) (λ e. let k = is_end-lt r e in omega arith)) m

-- The end roles are roles of every drawing.
end_role : (R r : ℕ) → r < 2 → T (has_role R r)
end_role R r l = or_left (is_end r) (member r R) (lt-is_end r l)

pub counted : (d : Drawing) (t r : ℕ) → T (counts d t r) → Counted d t r
unfolding counts
counted d t r u =
    elim (either (d.joins t r) (eqb r max_role && drawn_role d t) u) [
      | inl x ↦ by_edge x
      | inr x ↦ (let (e, o) = both (eqb r max_role) (drawn_role d t) x in let (l, m) = drawn-parts d t o in of_top (test_equal e) l m)
    ]

pub count_join : (d : Drawing) (t r : ℕ) → T (d.joins t r) → T (counts d t r)
unfolding counts
count_join d t r u = or_left (d.joins t r) _ u

pub count_top : (d : Drawing) (t : ℕ) → 2 ≤ t → T (member t d.roles) → T (counts d t max_role)
unfolding counts
count_top d t l m = or_right (d.joins t max_role) (drawn_role d t) (drawn_join d t l m)

-- Where a height rises along a drawing's edges, one rises along its counted juniors.
pub counted_height : (d : Drawing) → JoinsLaid d.roles d.joins → ℕ → ℕ
counted_height d w = w.height

pub counts_rise : (d : Drawing) (w : JoinsLaid d.roles d.joins) (t r : ℕ) → T (counts d t r) → counted_height d w t < counted_height d w r
unfolding counted_height
counts_rise d w t r u =
    elim (counted d t r u) [
      | by_edge x ↦ w.falls t r x
      | of_top e l m ↦ subst (λ (i : ℕ). w.height t < w.height i) (sym e) (w.top t m l)
    ]

has_role-lt : (R r : ℕ) → R < 2 ^ role_count → T (has_role R r) → r < role_count
has_role-lt R r h t =
    elim (either (is_end r) (member r R) t) [ inl e ↦ (let l = is_end-lt r e in omega arith) | inr m ↦ member-lt role_count r R h m ]

module _ (d : Drawing) (w : Laid d) where
  counts_from : (t r : ℕ) → T (counts d t r) → t < role_count
  counts_from t r u =
      elim (counted d t r u) [
        | by_edge x ↦ has_role-lt d.roles t w.roles_lt (w.joins.joins_from t r x)
        | of_top _ _ m ↦ member-lt role_count t d.roles w.roles_lt m
      ]

  counts_to : (t r : ℕ) → T (counts d t r) → T (has_role d.roles r) × (1 ≤ r)
  counts_to t r u =
      elim (counted d t r u) [
        | by_edge x ↦ w.joins.joins_to t r x
        | of_top e _ _ ↦ (end_role d.roles r (omega arith), omega arith)
      ]

  counts_fall : (t r : ℕ) → t < role_count → r < role_count → T (counts d t r) → counted_height d w.joins t < counted_height d w.joins r
  counts_fall t r _ _ u = counts_rise d w.joins t r u

  -- A role's closed set is its direct privileges joined with the closed sets of its juniors.
  pub closed_equation : (r : ℕ) → r < role_count → at (close d) r ≡ union (d.directs r) (gather role_count (λ t. counts d t r) (at (close d)))
  closed_equation r l =
      closed-at d r l
      ∙ equation d.directs (counts d) (counted_height d w.joins) counts_fall r l
      ∙ ap (union (d.directs r)) (gather_cong role_count (λ t. counts d t r) (λ t. counts d t r) _ (at (close d)) (λ i _. refl) (λ t h _. sym (closed-at d t h)))

  -- Whatever solves that equation is what closing gives.
  pub closed_unique : (F : ℕ → ℕ) → ((r : ℕ) → r < role_count → F r ≡ union (d.directs r) (gather role_count (λ t. counts d t r) F)) → (r : ℕ) → r < role_count → at (close d) r ≡ F r
  closed_unique F s r l = closed-at d r l ∙ unique d.directs (counts d) (counted_height d w.joins) counts_fall F s r l

  -- Sets that hold what is direct and what juniors hold, and nothing else, are what closing gives.
  pub closed_by : (F : ℕ → ℕ) → ((r : ℕ) → F r < 2 ^ privilege_count)
      → ((r p : ℕ) → T (member p (F r)) → T (member p (d.directs r)) ⊎ ((t : ℕ) × T (counts d t r) × T (member p (F t))))
      → ((r p : ℕ) → T (member p (d.directs r)) → T (member p (F r)))
      → ((t r p : ℕ) → T (counts d t r) → T (member p (F t)) → T (member p (F r)))
      → (r : ℕ) → r < role_count → at (close d) r ≡ F r
  closed_by F lt up own down r l =
      closed_unique F
      (λ r l. same_members privilege_count _ _ (lt r) (union-lt privilege_count _ _ (w.directs.direct_lt r) (gather-lt privilege_count role_count _ F (λ i _. lt i))) (there r) (back r)) r l
    where
      there : (r p : ℕ) → T (member p (F r)) → T (member p (union (d.directs r) (gather role_count (λ t. counts d t r) F)))
      there r p u =
          elim (up r p u) [
            | inl x ↦ union_left p _ _ x
            | inr (t, c, x) ↦ union_right p _ _ (gather_in p role_count (λ t. counts d t r) F t (counts_from t r c) c x)
          ]

      back : (r p : ℕ) → T (member p (union (d.directs r) (gather role_count (λ t. counts d t r) F))) → T (member p (F r))
      back r p u =
          elim (in_union p _ _ u) [
            | inl x ↦ own r p x
            | inr x ↦ (let (t, _, c, y) = in_gather p role_count (λ t. counts d t r) F x in down t r p c y)
          ]

  -- ---- the members of closed sets
  -- What is held is direct or held by a counted junior.
  closed_up : (p r : ℕ) → r < role_count → T (member p (at (close d) r)) → T (member p (d.directs r)) ⊎ ((t : ℕ) × (t < role_count) × T (counts d t r) × T (member p (at (close d) t)))
  closed_up p r l u =
      elim (in_union p _ _ (subst (λ (s : ℕ). T (member p s)) (closed_equation r l) u)) [
        | inl x ↦ inl x
        | inr x ↦ inr (in_gather p role_count (λ t. counts d t r) (at (close d)) x)
      ]

  -- What is direct is held.
  pub closed_own : (p r : ℕ) → T (member p (d.directs r)) → T (member p (at (close d) r))
  closed_own p r u =
      let l = has_role-lt d.roles r w.roles_lt (w.directs.direct_of p r u).0 in
      subst (λ (s : ℕ). T (member p s)) (sym (closed_equation r l)) (union_left p _ _ u)

  -- What a counted junior holds is held.
  pub closed_down : (p t r : ℕ) → T (counts d t r) → T (member p (at (close d) t)) → T (member p (at (close d) r))
  closed_down p t r c u =
      subst (λ (s : ℕ). T (member p s)) (sym (closed_equation r (has_role-lt d.roles r w.roles_lt (counts_to t r c).0)))
      (union_right p _ _ (gather_in p role_count (λ t. counts d t r) (at (close d)) t (counts_from t r c) c u))

  -- A privilege is in a role's closed set exactly when it is direct in that role, or in one from which counted edges lead to it.
  pub closed_member : (p r : ℕ) → r < role_count → T (member p (at (close d) r)) ↔ ((t : ℕ) × T (member p (d.directs t)) × ((t ≡ r) ⊎ Path (λ u v. T (counts d u v)) t r))
  closed_member p r l = (find (suc (counted_height d w.joins r)) r l (lt-suc_self _), back)
    where
      Reached : ℕ → Type 0
      Reached r = (t : ℕ) × T (member p (d.directs t)) × ((t ≡ r) ⊎ Path (λ u v. T (counts d u v)) t r)

      on : (t r : ℕ) → T (counts d t r) → Reached t → Reached r
      on t r c (s, x, inl e) = (s, x, inr (subst (λ (i : ℕ). Path (λ u v. T (counts d u v)) i r) (sym e) (last c)))
      on t r c (s, x, inr q) = (s, x, inr (q ⧺ last c))

      find : (k r : ℕ) → r < role_count → counted_height d w.joins r < k → T (member p (at (close d) r)) → Reached r
      find zero r l h u = absurd (not-suc-le-zero h)
      find (suc k) r l h u =
          elim (closed_up p r l u) [
            | inl x ↦ (r, x, inl refl)
            | inr (t, b, c, x) ↦ on t r c (find k t b (omega (arith, counts_fall t r b l c)) x)
          ]

      along : {t r : ℕ} → Path (λ u v. T (counts d u v)) t r → T (member p (at (close d) t)) → T (member p (at (close d) r))
      along (last {r = t} {s = r} c) u = closed_down p t r c u
      along (then {r = t} {t = v} c q) u = along q (closed_down p t v c u)

      back : Reached r → T (member p (at (close d) r))
      back (t, x, inl e) = subst (λ (i : ℕ). T (member p (at (close d) i))) e (closed_own p t x)
      back (t, x, inr q) = along q (closed_own p t x)

  -- ---- the closed graph
  closed_lt : (r : ℕ) → at (close d) r < 2 ^ privilege_count
  closed_lt r =
      elim (dec_lt r role_count) [
        | yes l ↦ subst (λ (s : ℕ). s < 2 ^ privilege_count) (sym (closed-at d r l)) (gathered-lt _ _ w.directs.direct_lt role_count r)
        | no n ↦ subst (λ (s : ℕ). s < 2 ^ privilege_count) (sym (at_end (close d) r (omega (arith, closed-length d)))) (pow_pos privilege_count)
      ]

  closed_held : (p r : ℕ) → T (member p (at (close d) r)) → T (has_role d.roles r) × (1 ≤ r)
  closed_held p r u =
      elim (closed_up p r (omega (arith, entry_in (close d) r p u, closed-length d)) u) [
        | inl x ↦ w.directs.direct_of p r x
        | inr (t, _, c, _) ↦ counts_to t r c
      ]

  pub closed_formed : (C : List ℕ) → Formed (record { roles = d.roles; sets = close d; conflicts = C })
  unfolding present effective
  closed_formed C = record {
    roles_lt = w.roles_lt;
    roles_ordinary = w.roles_ordinary;
    sets = record { whole = closed-length d; entry_lt = closed_lt };
    held = closed_held;
    top_whole = λ r o.
        let (l, m) = ordinary_parts (record { roles = d.roles; sets = close d; conflicts = C }) r o in
        member-included privilege_count (at (close d) r) (at (close d) max_role) (closed_lt r) (λ p _ u. closed_down p r max_role (count_top d r l m) u);
  }
