-- Closing with a table of the sets that are done: what one role more, one junior more and the end of each loop give.
-- Assumes nothing.
use mathlib.Core.Path.{◌≡◌, sym, ap, ◌∙◌, subst}
use mathlib.Core.Bool.{Bool, true}
use mathlib.Core.Logic.{inl, inr}
use mathlib.Core.List.{List, [], ◌∷◌, ◌++◌}
use Prim.Native.Nat.{ℕ, ◌-◌, ◌<◌, ◌^◌}
use native.Mathlib.Decide.{ℕ_discrete}
use native.Mathlib.Omega.{arith}
use lib.ListN.{length, set, length-set}
use lib.Seq.{get_or-set_same, get_or-set_other}
use lib.Dec.{T, lit<, eqb}
use Rattle.sets.specs.Sets.{empty, member, single, union, difference, when, collect, gather, members}
use Rattle.sets.proofs.Tests.{either, decide, test_equal}
use Rattle.sets.proofs.Laws.{member-lt, gather-lt, union-empty}
use Rattle.sets.proofs.Members.{in_union, union_left, union_right, in_difference, difference_in, in_single, single_in, in_empty, in_gather, collect_in, no_members}
use Rattle.sets.proofs.Ascending.{seen, seen_none, seen_more, seen_members}
use Rattle.graph.specs.Tables.{at, table}
use Rattle.graph.specs.Graph.{role_count}
use Rattle.graph.specs.Working.{Ending, Acyclic, closed_set, Memo}
use Rattle.graph.proofs.Tables.{length-table, at-table, table_ext}
use Rattle.graph.proofs.Acyclic.{closed_set_equation}
use Rattle.graph.proofs.Loops.{Gathering, gathering_none, gathering_next}

-- What is gathered where no number passes.
gather-empty : (n : ℕ) (c : ℕ → Bool) (f : ℕ → ℕ) → ((i : ℕ) → T (c i) → ⊥) → gather n c f ≡ 0
gather-empty n c f h =
    no_members 0 (gather n c f) (gather-lt 0 n c f (λ i t. absurd (h i t))) (λ p m. let (i, _, x, _) = in_gather p n c f m in h i x)

-- ---- one role more
-- A role without juniors has its direct privileges alone.
closed_alone : (directs juniors : List ℕ) → Ending juniors → (r : ℕ) → r < role_count → at juniors r ≡ empty → closed_set directs juniors r ≡ at directs r
closed_alone directs juniors ending r l e =
    closed_set_equation directs juniors ending r l
    ∙ ap (union (at directs r)) (gather-empty role_count _ _ (λ t m. in_empty t (subst (λ (s : ℕ). T (member t s)) e m)))
    ∙ union-empty (at directs r)

-- With its closed set in its entry, a role is done.
memo_more : (directs juniors : List ℕ) (done : ℕ) (sets : List ℕ) (r v : ℕ) → r < role_count → v ≡ closed_set directs juniors r → Memo directs juniors done sets
    → Memo directs juniors (union done (single r)) (set sets r v)
unfolding at
memo_more directs juniors done sets r v l e w = record {
  whole = length-set sets r v ∙ w.whole;
  right = λ i m.
      elim (ℕ_discrete i r) [
        | yes q ↦ subst (λ (j : ℕ). at (set sets r v) j ≡ closed_set directs juniors j) (sym q) (get_or-set_same sets r v 0 (omega (arith, w.whole)) ∙ e)
        | no d ↦
            get_or-set_other sets r i v 0 d
            ∙ w.right i (elim (in_union i done (single r) m) [ inl x ↦ x | inr x ↦ absurd (d (in_single i r x)) ])
      ];
}

-- What doing role r leaves, once its juniors are gathered.
pub role_closed : {directs juniors sets : List ℕ} {done r s v one more : ℕ} (before : ℕ) → Ending juniors → r < role_count
    → Memo directs juniors done sets → ((n : ℕ) → T (member n before) → T (member n done))
    → s ≡ gather role_count (λ t. member t (at juniors r)) (closed_set directs juniors) → v ≡ union (at directs r) s
    → one ≡ single r → more ≡ union done one
    → Memo directs juniors more (set sets r v) × (((n : ℕ) → T (member n before) → T (member n more)) × T (member r more))
role_closed {directs} {juniors} {sets} {done} {r} {v = v} before ending l w kept e f g h =
    subst (λ (i : ℕ). Memo directs juniors i (set sets r v) × (((n : ℕ) → T (member n before) → T (member n i)) × T (member r i)))
    (sym (h ∙ ap (union done) g)) (
      memo_more directs juniors done sets r v l (f ∙ ap (union (at directs r)) e ∙ sym (closed_set_equation directs juniors ending r l)) w,
      (λ n m. union_left n done (single r) (kept n m), union_right r done (single r) (single_in r)),
    )

-- ---- the loop of the gatherer
-- The juniors that were seen are done, and s joins their closed sets.
pub record Joined (directs juniors : List ℕ) (before : ℕ) (sets : List ℕ) (done s : ℕ) (xs : List ℕ) : Type 0 where
  pub sum : Gathering (closed_set directs juniors) xs s
  pub memo : Memo directs juniors done sets
  pub kept : (n : ℕ) → T (member n before) → T (member n done)

pub joined_none : {directs juniors sets : List ℕ} {before s : ℕ} → s ≡ 0 → Memo directs juniors before sets → Joined directs juniors before sets before s []
joined_none {directs} {juniors} e w = record { sum = subst (Gathering (closed_set directs juniors) []) (sym e) (gathering_none (closed_set directs juniors)); memo = w; kept = λ n m. m }

pub joined_next : {directs juniors sets then xs : List ℕ} {before done s more x : ℕ} → Joined directs juniors before sets done s xs → (t : ℕ)
    → Memo directs juniors more then → ((n : ℕ) → T (member n done) → T (member n more)) → T (member t more) → x ≡ union s (at then t)
    → Joined directs juniors before then more x (xs ++ (t ∷ []))
joined_next {s = s} w t memo kept m f = record {
  sum = gathering_next w.sum t (f ∙ ap (union s) (memo.right t m));
  memo = memo;
  kept = λ n b. kept n (w.kept n b);
}

-- ---- the loop over the roles that are present
-- The set of all role numbers: each of its digits is 1.
abbrev all_roles : ℕ
all_roles = 2 ^ role_count - 1

all_in : (r : ℕ) → r < role_count → T (member r all_roles)
unfolding collect union when single
all_in r l = collect_in r role_count (λ i. true) l tt

-- Every role that is not present or was seen is done.
pub record Doing (directs juniors : List ℕ) (present : ℕ) (sets : List ℕ) (done : ℕ) (xs : List ℕ) : Type 0 where
  pub memo : Memo directs juniors done sets
  pub outside : (r : ℕ) → r < role_count → (T (member r present) → ⊥) → T (member r done)
  pub did : (r : ℕ) → T (seen xs r) → T (member r done)

-- A role that is not present is done from the start.
pub doing_none : {directs juniors sets : List ℕ} {present done : ℕ} → Acyclic present juniors → length sets ≡ role_count → sets ≡ directs → done ≡ difference all_roles present
    → Doing directs juniors present sets done []
doing_none {directs} {juniors} {present = present} w k e f = record {
  memo = record {
    whole = k;
    right = λ r m.
        let (i, o) = in_difference r all_roles present (subst (λ (s : ℕ). T (member r s)) f m) in
        let l = member-lt role_count r all_roles (lit< tt) i in
        ap (λ (t : List ℕ). at t r) e ∙ sym (closed_alone directs juniors w.ending r l (w.outside r l o));
  };
  outside = λ r l o. subst (λ (s : ℕ). T (member r s)) (sym f) (difference_in r all_roles present (all_in r l) o);
  did = λ r t. absurd (subst T (seen_none r) t);
}

pub doing_next : {directs juniors sets then xs : List ℕ} {present done more : ℕ} → Doing directs juniors present sets done xs → (t : ℕ) → Memo directs juniors more then
    → ((n : ℕ) → T (member n done) → T (member n more)) → T (member t more)
    → Doing directs juniors present then more (xs ++ (t ∷ []))
doing_next {xs = xs} {more = more} w t memo kept m = record {
  memo = memo;
  outside = λ r l o. kept r (w.outside r l o);
  did = λ r u.
      elim (either (seen xs r) (eqb t r) (subst T (seen_more xs t r) u)) [
        | inl v ↦ kept r (w.did r v)
        | inr e ↦ subst (λ (i : ℕ). T (member i more)) (test_equal e) m
      ];
}

pub doing_done : {directs juniors sets xs : List ℕ} {present done : ℕ} → Doing directs juniors present sets done xs → present < 2 ^ role_count → xs ≡ members role_count present
    → sets ≡ table role_count (closed_set directs juniors)
doing_done {sets = sets} {xs} {present} {done} w h e =
    table_ext role_count sets _ w.memo.whole (length-table role_count _)
    (λ r l. w.memo.right r (elim (decide (member r present)) [ inl m ↦ w.did r (subst T (sym (all r)) m) | inr o ↦ w.outside r l o ]) ∙ sym (at-table role_count r _ l))
  where
    all : (r : ℕ) → seen xs r ≡ member r present
    all r = ap (λ (ys : List ℕ). seen ys r) e ∙ seen_members role_count present h r
