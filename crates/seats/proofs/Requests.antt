-- What requests store, which numbers their checks let through, and what a seat has and holds where a role is added to some seat.
-- Assumes nothing.
use mathlib.Core.Path.{◌≡◌, refl, sym, ap, ◌∙◌, subst}
use mathlib.Core.Bool.{Bool, true, false, not, ◌&&◌, ◌||◌}
use mathlib.Core.List.{List, [], ◌∷◌}
use mathlib.Core.Logic.{◌≢◌}
use Prim.Native.Nat.{ℕ, max, ◌<◌}
use native.Mathlib.Omega.{arith}
use native.Mathlib.Decide.{ℕ_discrete, dec_lt}
use borrow.Author.Tests.{lt-ltb, le-ltb, eq-eqb, ne_eqb}
use lib.Dec.{eqb, ltb}
use lib.ListN.{length, set}
use lib.Seq.{get_or-set_same, get_or-set_other, set_out}
use Rattle.sets.specs.Counting.{any}
use Rattle.sets.specs.Sets.{digit, member, single, union, when, gather}
use Rattle.sets.proofs.Laws.{member-empty, member-union, member-when, member-single, gather_cong, union-empty}
use Rattle.graph.specs.Tables.{at, put}
use Rattle.graph.specs.Graph.{Graph, role_count, privilege_count}
use Rattle.graph.specs.Conflicts.{holds_both, holds_pair}
use Rattle.graph.specs.Refusing.{Check, refuse, refuse_lowest, passed, verdict, declare_checks, Passes}
use Rattle.graph.proofs.Refusals.{passed_passes, number_lt}
use Rattle.seats.specs.Seats.{State, seat_count, assigned, pair_seat}
use Rattle.seats.specs.Calls.{assign, after, seat_role_checks}

-- ---- numbers that are not refused
-- Two numbers that kind 8 does not refuse are privileges.
pub declare_numbers : (g : Graph) (a b : ℕ) → verdict (declare_checks g a b) ≡ passed → max a b < privilege_count
unfolding Passes declare_checks
declare_numbers g a b e =
    let (x, (y, _)) = passed_passes (declare_checks g a b) e in
    let k = number_lt privilege_count a x in
    let l = number_lt privilege_count b y in
    omega arith

-- What judges kind 10 after these.
abbrev pub assign_late : State → ℕ → ℕ → List Check
assign_late s a b = refuse 22 (assigned s a b) a ∷ refuse_lowest 30 seat_count (pair_seat (after s (assign a b))) ∷ []

-- What judges kind 11 after these.
abbrev pub unassign_late : State → ℕ → ℕ → List Check
unassign_late s a b = refuse 23 (not (assigned s a b)) a ∷ []

-- A seat and a role that these do not refuse have their numbers.
pub seat_numbers : (g : Graph) (a b : ℕ) → verdict (seat_role_checks g a b) ≡ passed → (a < seat_count) × (b < role_count)
unfolding Passes
seat_numbers g a b e =
    let (x, (y, _)) = passed_passes (seat_role_checks g a b) e in
    (number_lt seat_count a x, number_lt role_count b y)

-- ---- seats with a role added
-- No set, whether it counts or not.
pub when-empty : (b : Bool) → when b 0 ≡ 0
unfolding when
when-empty true = refl
when-empty false = refl

-- An entry of a table where b is put into entry a, if there is such an entry.
at-put : (l : List ℕ) (a b i : ℕ) → at (put l a b) i ≡ union (at l i) (when (eqb i a) (when (ltb a (length l)) (single b)))
unfolding put at when
at-put l a b i =
    elim (ℕ_discrete i a) [
      | yes e ↦ subst (λ (j : ℕ). at (set l a s) j ≡ union (at l j) (when (eqb j a) (when (ltb a (length l)) (single b)))) (sym e) here
      | no d ↦ other d
    ]
  where
    s : ℕ
    s = union (at l a) (single b)

    stored_at : a < length l → at (set l a s) a ≡ s
    stored_at h = get_or-set_same l a s 0 h

    here : at (set l a s) a ≡ union (at l a) (when (eqb a a) (when (ltb a (length l)) (single b)))
    here =
        elim (dec_lt a (length l)) [
          | yes h ↦ stored_at h ∙ sym (rw (eq-eqb a a refl, lt-ltb a (length l) h))
          | no d ↦ ap (λ (t : List ℕ). at t a) (set_out l a s (omega arith)) ∙ sym (rw (eq-eqb a a refl, le-ltb a (length l) (omega arith)) (union-empty (at l a)))
        ]

    other : i ≢ a → at (set l a s) i ≡ union (at l i) (when (eqb i a) (when (ltb a (length l)) (single b)))
    other d = get_or-set_other l a i s 0 d ∙ sym (rw (ne_eqb i a d) (union-empty (at l i)))

-- A number below w is a member of a one-member set where it is of the one kept below w.
member_kept : (w r b : ℕ) → r < w → member r (when (ltb b w) (single b)) ≡ member r (single b)
unfolding when
member_kept w r b h =
    elim (dec_lt b w) [
      | yes l ↦ rw (lt-ltb b w l)
      | no d ↦ rw (le-ltb b w (omega arith)) (member-empty r ∙ sym (member-single r b ∙ ne_eqb r b (λ e. omega arith)))
    ]

-- ---- what the roles hold
module _ (sets : List ℕ) where
  -- What these roles hold.
  abbrev pub joint : ℕ → ℕ
  joint roles = gather role_count (λ r. member r roles) (at sets)

  -- The roles that a loop adds to seat a are those that putting b in gives it.
  pub joint_put : (l : List ℕ) (a b i : ℕ)
      → joint (union (at l i) (when (eqb i a) (when (ltb a (length l)) (when (ltb b role_count) (single b))))) ≡ joint (at (put l a b) i)
  joint_put l a b i =
      gather_cong role_count _ _ (at sets) (at sets)
      (λ r h. expand r (when (ltb b role_count) (single b)) ∙ ap (part r) (member_kept role_count r b h) ∙ sym (expand r (single b)) ∙ ap (member r) (sym (at-put l a b i)))
      (λ r h t. refl)
    where
      part : ℕ → Bool → Bool
      part r m = member r (at l i) || (eqb i a && (ltb a (length l) && m))

      expand : (r s : ℕ) → member r (union (at l i) (when (eqb i a) (when (ltb a (length l)) s))) ≡ part r (member r s)
      expand r s =
          member-union r (at l i) _
          ∙ ap (λ (m : Bool). member r (at l i) || m) (member-when r (eqb i a) _ ∙ ap (λ (m : Bool). eqb i a && m) (member-when r (ltb a (length l)) s))

  -- Where nothing is added, the seat has its own roles.
  pub joint_none : (l : List ℕ) (a i : ℕ) → joint (union (at l i) (when (eqb i a) 0)) ≡ joint (at l i)
  joint_none l a i = ap joint (ap (union (at l i)) (when-empty (eqb i a)) ∙ union-empty (at l i))

  -- No roles hold no pair, declared or offered.
  pub none_pair : (C : List ℕ) → holds_pair C (joint 0) ≡ false
  unfolding holds_pair any gather when union member digit
  none_pair C = refl

  pub none_both : (a b : ℕ) → holds_both a b (joint 0) ≡ false
  unfolding holds_both gather when union member digit
  none_both a b = rw (member-empty a)
