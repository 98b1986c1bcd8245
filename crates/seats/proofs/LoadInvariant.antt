-- Loading keeps the invariants: whatever loads is a state that has them.
-- Assumes nothing.
use mathlib.Core.Path.{◌≡◌, refl, sym, ◌∙◌, subst}
use mathlib.Core.Logic.{inl, inr}
use mathlib.Core.List.{List}
use Prim.Native.Nat.{ℕ, ◌-◌, ◌^◌, ◌<◌, ◌≤◌}
use native.Mathlib.Decide.{ℕ_discrete}
use native.Mathlib.Omega.{arith}
use lib.ListN.{length, replicate}
use lib.Seq.{get_or-set_other}
use lib.Dec.{T, eqb}
use lib.Pow.{pow_pos}
use Rattle.sets.specs.Sets.{empty, member, included}
use Rattle.sets.proofs.Tests.{join, so, decide, test_equal}
use Rattle.sets.proofs.Counting.{some-any}
use Rattle.sets.proofs.Laws.{included-member}
use Rattle.sets.proofs.Members.{in_empty}
use Rattle.graph.specs.Tables.{at}
use Rattle.graph.specs.Graph.{role_count, privilege_count, max_role, ordinary, present, effective}
use Rattle.graph.specs.Refusing.{closed_checks, Passes}
use Rattle.graph.specs.Invariants.{Table, Formed, Distinct, PairFree}
use Rattle.graph.proofs.Tables.{at-replicate}
use Rattle.graph.proofs.Order.{ordinary_join, end_present, member_present, ordinary_lt}
use Rattle.seats.specs.Bytes.{Bytes}
use Rattle.seats.specs.Seats.{State, seat_count, assigned, pair_seat}
use Rattle.seats.specs.Invariants.{Invariant}
use Rattle.seats.specs.Images.{Entry, set_bytes, role_set_bytes, distance, Contents, counts_at, contents, keys, stored, end_sets, restored, content_checks, loaded, load}
use Rattle.graph.proofs.Refusals.{closed-from}
use Rattle.seats.proofs.Numbers.{number_lt}
use Rattle.seats.proofs.EntryBytes.{Each, each_map, entries_lt}
use Rattle.seats.proofs.AscendingEntries.{there, some-one}
use Rattle.seats.proofs.StoredEntries.{set_holds, length-stored, stored_holds, stored_absent, member-keys, keys-lt}
use Rattle.seats.proofs.StoredPairs.{pairs_paired}
use Rattle.seats.proofs.LoadFacts.{found, accepted, Ordered, ordered}

zeros_lt : (n w i : ℕ) → at (replicate n 0) i < 2 ^ w
zeros_lt n w i = rw (at-replicate n i) (pow_pos w)

-- Sets of a width stored into a table of such sets leave one.
stored-table : (n w : ℕ) (l : List Entry) (t : List ℕ) → length t ≡ n → Each (λ e. e.value < 2 ^ w) l → ((i : ℕ) → at t i < 2 ^ w) → Table n w (stored l t)
stored-table n w l t e h f = record {
  whole = length-stored l t ∙ e;
  entry_lt = λ i. stored_holds (λ x. x < 2 ^ w) i l t (each_map l (λ e k q. k) h) (f i);
}

module _ (c : Contents) (o : Ordered c) (ht : c.top < 2 ^ privilege_count) (hr : Each (λ e. e.value < 2 ^ privilege_count) c.roles) (hs : Each (λ e. e.value < 2 ^ role_count) c.seats) where
  roles_lt : keys c.roles < 2 ^ role_count
  roles_lt = keys-lt role_count c.roles (each_map c.roles (λ e x. x.1) o.roles)

  role_ordinary : (r : ℕ) → T (member r (keys c.roles)) → 2 ≤ r
  role_ordinary r m =
      let z = some-one (λ e. eqb r e.key) c.roles (subst T (member-keys r c.roles) m) o.roles in
      let q : r ≡ z.0.key = test_equal z.1 in
      let h = z.2.0 in
      omega arith

  member_ordinary : (r : ℕ) → T (member r (keys c.roles)) → T (ordinary (restored c).graph r)
  unfolding restored
  member_ordinary r m = ordinary_join (restored c).graph r (role_ordinary r m) m

  -- Only MaxRole and the roles of the image hold anything.
  held : (p r : ℕ) → T (member p (effective (restored c).graph r)) → T (present (restored c).graph r) × (1 ≤ r)
  unfolding restored effective at
  held p r m =
      elim (decide (there Entry.key r c.roles)) [
        | inl t ↦
            (let n = subst T (sym (member-keys r c.roles)) t in
            let h = role_ordinary r n in
            (member_present (restored c).graph r n, omega arith))
        | inr n ↦
            elim (ℕ_discrete r 1) [
              | yes q ↦ (end_present (restored c).graph r (omega arith), omega arith)
              | no d ↦
                  absurd (in_empty p (subst (λ (x : ℕ). T (member p x))
                  (stored_absent r c.roles (end_sets c.top) n ∙ get_or-set_other (replicate role_count empty) max_role r c.top 0 d ∙ at-replicate role_count r) m))
            ]
      ]

  seats_seated : (i r : ℕ) → T (assigned (restored c) i r) → T (ordinary (restored c).graph r)
  unfolding assigned restored
  seats_seated i =
      stored_holds (λ x. (r : ℕ) → T (member r x) → T (ordinary (restored c).graph r)) i c.seats (replicate seat_count empty)
      (each_map c.seats (λ e x q r m. member_ordinary r (included-member e.value (keys c.roles) x.2 r m)) o.seats)
      (λ r m. absurd (in_empty r (subst (λ (x : ℕ). T (member r x)) (at-replicate seat_count i) m)))

  -- ---- what the checks of the state say
  module _ (p : Passes (content_checks (restored c))) where
    restored_formed : Formed (restored c).graph
    unfolding Passes content_checks restored
    restored_formed = record {
      roles_lt = roles_lt;
      roles_ordinary = role_ordinary;
      sets = stored-table role_count privilege_count c.roles (end_sets c.top) refl hr (λ i. set_holds (λ x. x < 2 ^ privilege_count) (replicate role_count empty) max_role c.top i (λ q. ht) (zeros_lt role_count privilege_count i));
      held = held;
      top_whole = λ r t.
          so (included (effective (restored c).graph r) (effective (restored c).graph max_role))
          (λ n. p.1.1.1.1.0 (some-any role_count _ r (ordinary_lt (restored c).graph r roles_lt t) (join (ordinary (restored c).graph r) _ t n)));
    }

    restored_closed : Distinct (restored c).graph × PairFree (restored c).graph
    unfolding Passes content_checks closed_checks
    restored_closed = closed-from (restored c).graph restored_formed (p.0, (p.1.0, (p.1.1.0, tt)))

    restored_keeps : Invariant (restored c)
    unfolding Passes content_checks restored
    restored_keeps = record {
      graph = record { formed = restored_formed; distinct = restored_closed.0; paired = pairs_paired c.conflicts o.conflicts; pair_free = restored_closed.1 };
      seats = stored-table seat_count role_count c.seats (replicate seat_count empty) refl hs (zeros_lt seat_count role_count);
      seated = seats_seated;
      seat_free = λ i l t. p.1.1.1.0 (some-any seat_count (pair_seat (restored c)) i l t);
    }

pub loaded_keeps : (l : List ℕ) → Bytes l → (s : State) → load l ≡ loaded s → Invariant s
unfolding contents
loaded_keeps l h s e =
    let f = found l s e in
    let n = counts_at l (length l) in
    let i = length l - distance n in
    let c = contents l i n in
    let a = accepted c s f.loads in
    subst Invariant a.same
    (restored_keeps c (ordered c a.entries) (number_lt set_bytes i l h) (entries_lt set_bytes _ n.roles l h) (entries_lt role_set_bytes _ n.seats l h) a.state)
