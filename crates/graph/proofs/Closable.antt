-- Tables that hold a drawing can be closed, and close to what it closes to.
-- Assumes nothing.
use mathlib.Core.Path.{◌≡◌, sym, ap, ap₂, ◌∙◌, subst}
use mathlib.Core.Bool.{not, ◌&&◌, ◌||◌, or-false}
use mathlib.Core.Logic.{inl, inr}
use mathlib.Core.List.{List}
use Prim.Native.Nat.{ℕ, ◌<◌, ◌≤◌, ◌^◌}
use native.Mathlib.Decide.{ℕ_discrete}
use native.Mathlib.Omega.{arith}
use lib.ListN.{set}
use lib.Seq.{get_or-set_same, get_or-set_other}
use lib.Dec.{T, not_T, eqb}
use Rattle.sets.specs.Sets.{member, single, union, difference}
use Rattle.sets.proofs.Tests.{join, either, fails, decide, test_equal}
use Rattle.sets.proofs.Laws.{member-union, member-lt, union-lt, difference-lt}
use Rattle.sets.proofs.Members.{union_left, union_right, single_in, no_members}
use Rattle.graph.specs.Tables.{at, table}
use Rattle.graph.specs.Graph.{role_count, max_role, is_end, ordinary, max_alone, end_roles}
use Rattle.graph.specs.Drawing.{Drawing}
use Rattle.graph.specs.Closing.{counts, gathered, close}
use Rattle.graph.specs.Reading.{drawn_from}
use Rattle.graph.specs.Invariants.{Table}
use Rattle.graph.specs.Working.{has_role, Holds, Acyclic}
use Rattle.graph.proofs.Tables.{at-table, length-table, table_ext, set_table}
use Rattle.graph.proofs.Gathering.{gathered_cong}
use Rattle.graph.proofs.Closing.{closed-at, closed-length, by_edge, of_top, counted, counted_height, counts_rise}
use Rattle.graph.proofs.Order.{is_end-lt}
use Rattle.graph.proofs.DrawingCode.{ordinary-member}

module _ {d : Drawing} {roles : ℕ} (b : roles < 2 ^ role_count) {D J : List ℕ} (h : Holds d roles D J) where
  -- The ordinary roles.
  abbrev own : ℕ
  own = difference roles end_roles

  own_member : (t : ℕ) → member t own ≡ not (is_end t) && member t d.roles
  unfolding ordinary
  own_member t = ordinary-member (drawn_from roles J) t ∙ ap (λ (x : ℕ). not (is_end t) && member t x) h.same_roles

  -- The juniors, with every ordinary role among MaxRole's.
  abbrev K : List ℕ
  K = set J max_role (union (at J max_role) own)

  K_table : Table role_count role_count K
  K_table = set_table h.table max_role 0 (omega arith) _ (union-lt role_count _ _ (h.table.entry_lt max_role) (difference-lt role_count roles end_roles b))

  -- They are the counted juniors.
  counted_at : (t r : ℕ) → t < role_count → r < role_count → member t (at K r) ≡ counts d t r
  unfolding at counts
  counted_at t r k l =
      elim (ℕ_discrete r max_role) [
        | yes e ↦ subst (λ (i : ℕ). member t (at K i) ≡ d.joins t i || (eqb i max_role && (not (is_end t) && member t d.roles))) (sym e)
            (ap (member t) (get_or-set_same J max_role _ 0 (omega (arith, h.table.whole))) ∙ member-union t (at J max_role) own ∙ ap₂ ◌||◌ (h.same_joins t max_role k (omega arith)) (own_member t))
        | no n ↦ ap (member t) (get_or-set_other J max_role r _ 0 n) ∙ h.same_joins t r k l ∙ sym (rw (fails (eqb r max_role) (λ x. n (test_equal x)), or-false))
      ]

  -- Closing these tables gives what the drawing closes to.
  pub closed_tables : table role_count (gathered (at D) (λ t r. member t (at K r)) role_count) ≡ close d
  closed_tables =
      table_ext role_count _ (close d) (length-table role_count _) (closed-length d)
      (λ r l. at-table role_count r _ l ∙ gathered_cong (at D) d.directs (λ t r. member t (at K r)) (counts d) h.same_directs counted_at role_count r l ∙ sym (closed-at d r l))

  -- A role with juniors is ordinary or MaxRole.
  senior : (t r : ℕ) → T (counts d t r) → T (member r (union own max_alone))
  unfolding single
  senior t r u =
      elim (counted d t r u) [
        | by_edge x ↦ (let (p, q) = h.no_circle.joins_to t r x in role p q)
        | of_top e _ _ ↦ top e
      ]
    where
      top : r ≡ max_role → T (member r (union own max_alone))
      top e = union_right r own max_alone (subst (λ (i : ℕ). T (member i max_alone)) (sym e) (single_in 1))

      role : T (has_role d.roles r) → 1 ≤ r → T (member r (union own max_alone))
      role p q =
          elim (decide (is_end r)) [
            | inl x ↦ top (let l = is_end-lt r x in omega arith)
            | inr x ↦ union_left r own max_alone (subst T (sym (own_member r))
                (join (not (is_end r)) (member r d.roles) (not_T (is_end r) x) (elim (either (is_end r) (member r d.roles) p) [ inl y ↦ absurd (x y) | inr y ↦ y ])))
          ]

  -- Going down these tables ends.
  pub closable : Acyclic (union own max_alone) K
  closable = record {
    ending = record {
      height = counted_height d h.no_circle;
      falls = λ t r k l m. counts_rise d h.no_circle t r (subst T (counted_at t r k l) m);
    };
    outside = λ r l n.
        no_members role_count (at K r) (K_table.entry_lt r)
        (λ t m. n (senior t r (subst T (counted_at t r (member-lt role_count t (at K r) (K_table.entry_lt r) m) l) m)));
  }
