-- Saving, then loading: an image that ends any bytes loads as the state saved.
-- Assumes nothing.
use mathlib.Core.Path.{◌≡◌, refl, sym, ◌∙◌, subst}
use mathlib.Core.Bool.{not, ◌&&◌}
use mathlib.Core.Logic.{inl, inr}
use mathlib.Core.List.{List, ◌++◌}
use Prim.Native.Nat.{ℕ, ◌^◌, ◌<◌, ◌*◌}
use native.Mathlib.Decide.{ℕ_discrete}
use native.Mathlib.Omega.{arith}
use lib.ListN.{replicate}
use lib.Seq.{get_or-set_other}
use lib.Dec.{T, T_not, eqb}
use Rattle.sets.specs.Counting.{any}
use Rattle.sets.specs.Sets.{empty, member, included}
use Rattle.sets.proofs.Tests.{both, so, test_equal}
use Rattle.sets.proofs.Counting.{any-some}
use Rattle.sets.proofs.Laws.{member-lt, member-included}
use Rattle.sets.proofs.Members.{same_members, no_members}
use Rattle.graph.specs.Tables.{at}
use Rattle.graph.specs.Graph.{Graph, role_count, privilege_count, max_role, ordinary, effective}
use Rattle.graph.specs.Refusing.{closed_checks, Passes}
use Rattle.graph.specs.Invariants.{Formed}
use Rattle.graph.proofs.Tables.{at-replicate}
use Rattle.graph.proofs.Order.{ordinary_parts, ordinary_join, present_cases}
use Rattle.seats.specs.Seats.{State, seat_count, assigned, pair_seat}
use Rattle.seats.specs.Images.{Entry, role_entries, conflict_entries, seat_entries, contents_of, set_bytes, role_set_bytes, image, keys, stored, end_sets, restored, pair_place, entry_checks, content_checks, loaded, unless_refused, load_contents, load}
use Rattle.seats.specs.Invariants.{Invariant}
use Rattle.graph.proofs.Refusals.{whole, verdict_passes, closed_goes}
use Rattle.seats.proofs.EntryBytes.{Each, each_map}
use Rattle.seats.proofs.AscendingEntries.{valued, rising_by, some-one, each_listed, rising_listed, listed_there}
use Rattle.seats.proofs.StoredEntries.{filled, member-keys, keys-lt, listed-stored}
use Rattle.seats.proofs.StoredPairs.{Pair, pair_number, pair_at, has_pair, listed_pairs}
use Rattle.seats.proofs.ImageLength.{role_keys, conflict_pairs, roles_bound, seats_bound, conflicts_bound}
use Rattle.seats.proofs.ImageReading.{Fits, parts_load}
use Rattle.seats.proofs.LoadFacts.{ordered_passes}

-- ---- the state that an image's entries describe is the one saved
module _ (g : Graph) (f : Formed g) where
  roles_again : keys (role_entries g) ≡ g.roles
  unfolding role_entries
  roles_again = same_members role_count (keys (role_entries g)) g.roles (keys-lt role_count (role_entries g) (each_map (role_entries g) (λ e x. x.1) (role_keys g))) f.roles_lt to back
    where
      to : (p : ℕ) → T (member p (keys (role_entries g))) → T (member p g.roles)
      to p m =
          let known : Each (λ e. T (member e.key g.roles)) (role_entries g) = each_listed (ordinary g) (valued (effective g)) (λ e. T (member e.key g.roles)) 0 role_count (λ k l t. (ordinary_parts g k t).1) in
          let z = some-one (λ e. eqb p e.key) (role_entries g) (subst T (member-keys p (role_entries g)) m) known in
          subst (λ (r : ℕ). T (member r g.roles)) (sym (test_equal z.1)) z.2

      back : (p : ℕ) → T (member p g.roles) → T (member p (keys (role_entries g)))
      back p m =
          let l = member-lt role_count p g.roles f.roles_lt m in
          subst T (sym (member-keys p (role_entries g)))
          (listed_there (ordinary g) (valued (effective g)) Entry.key (λ i. refl) 0 role_count p (omega arith) (omega arith) (ordinary_join g p (f.roles_ordinary p m) m))

  sets_again : stored (role_entries g) (end_sets (effective g max_role)) ≡ g.sets
  unfolding role_entries effective at
  sets_again = listed-stored role_count (ordinary g) g.sets _ f.sets.whole refl other
    where
      -- a role that is not ordinary, nor MaxRole, holds nothing
      nothing : (k : ℕ) → (T (ordinary g k) → ⊥) → (k ≡ 1 → ⊥) → (p : ℕ) → T (member p (at g.sets k)) → ⊥
      nothing k none d p m =
          let h = f.held p k m in
          let l = h.1 in
          elim (present_cases g k h.0) [ inl q ↦ d (omega arith) | inr t ↦ none t ]

      other : (k : ℕ) → (T (ordinary g k) → ⊥) → at (end_sets (at g.sets 1)) k ≡ at g.sets k
      other k none =
          elim (ℕ_discrete k 1) [
            | yes q ↦ subst (λ (j : ℕ). at (end_sets (at g.sets 1)) j ≡ at g.sets j) (sym q) refl
            | no d ↦
                get_or-set_other (replicate role_count empty) max_role k (at g.sets max_role) 0 d
                ∙ at-replicate role_count k
                ∙ sym (no_members privilege_count (at g.sets k) (f.sets.entry_lt k) (nothing k none d))
          ]

module _ (s : State) (v : Invariant s) where
  seats_again : stored (seat_entries s) (replicate seat_count empty) ≡ s.seats
  unfolding seat_entries
  seats_again =
      listed-stored seat_count (filled s.seats) s.seats (replicate seat_count empty) v.seats.whole refl
      (λ k none. at-replicate seat_count k ∙ sym (test_equal (so (eqb (at s.seats k) empty) none)))

  restored_saved : restored (contents_of s) ≡ s
  unfolding restored conflict_entries
  restored_saved =
      let f = v.graph.formed in
      λ i. record {
        graph = record { roles = roles_again s.graph f i; sets = sets_again s.graph f i; conflicts = listed_pairs s.graph.conflicts v.graph.paired i };
        seats = seats_again i;
      }

  -- ---- nothing refuses what was saved
  seat_facts : Each (λ e. (e.key < seat_count) × T (not (eqb e.value empty)) × T (included e.value (keys (role_entries s.graph)))) (seat_entries s)
  unfolding seat_entries assigned
  seat_facts =
      each_listed (filled s.seats) (valued (at s.seats))
      (λ e. (e.key < seat_count) × T (not (eqb e.value empty)) × T (included e.value (keys (role_entries s.graph)))) 0 seat_count
      (λ k l t. (
        omega arith,
        t,
        rw (roles_again s.graph v.graph.formed)
            (member-included role_count (at s.seats k) s.graph.roles (v.seats.entry_lt k) (λ r l m. (ordinary_parts s.graph r (v.seated k r m)).1)),
      ))

  entries_pass : Passes (entry_checks (contents_of s))
  unfolding role_entries seat_entries conflict_entries pair_place
  entries_pass =
      let g = s.graph in
      ordered_passes (contents_of s)
      (record {
        roles_rise = rising_listed (ordinary g) (valued (effective g)) Entry.key (λ i. refl) 0 role_count;
        roles = role_keys g;
        conflicts_rise =
            rising_by pair_number pair_place Pair (λ e f x y m. let a = x.1 in let b = y.1 in omega arith) (conflict_entries g) (conflict_pairs g)
            (rising_listed (has_pair g.conflicts) pair_at pair_number (λ i. omega arith) 0 (privilege_count * privilege_count));
        conflicts = conflict_pairs g;
        seats_rise = rising_listed (filled s.seats) (valued (at s.seats)) Entry.key (λ i. refl) 0 seat_count;
        seats = seat_facts;
      })

  state_passes : Passes (content_checks s)
  unfolding Passes content_checks closed_checks
  state_passes =
      let (empty-none, (twin-none, (pair-none, _))) = closed_goes g v.graph.distinct v.graph.pair_free in
      (empty-none, (twin-none, (pair-none, (seat_none, (top_none, tt)))))
    where
      g : Graph
      g = s.graph

      seat_none : T (any seat_count (pair_seat s)) → ⊥
      seat_none t =
          let (i, l, x) = any-some seat_count (pair_seat s) t in
          v.seat_free i l x

      top_none : T (any role_count (λ r. ordinary g r && not (included (effective g r) (effective g max_role)))) → ⊥
      top_none t =
          let (r, l, x) = any-some role_count (λ r. ordinary g r && not (included (effective g r) (effective g max_role))) t in
          let (o, n) = both (ordinary g r) (not (included (effective g r) (effective g max_role))) x in
          T_not (included (effective g r) (effective g max_role)) n (v.graph.formed.top_whole r o)

  contents_load : load_contents (contents_of s) ≡ loaded s
  unfolding load_contents unless_refused
  contents_load =
      rw restored_saved (rw (verdict_passes (entry_checks (contents_of s) ++ content_checks s) (whole (entry_checks (contents_of s)) (content_checks s) entries_pass state_passes)))

  pub loads_back : (before : List ℕ) → load (before ++ image s) ≡ loaded s
  unfolding image role_entries seat_entries effective
  loads_back before = parts_load before (contents_of s) fits ∙ contents_load
    where
      set_lt : (r : ℕ) → effective s.graph r < 256 ^ 8
      set_lt r = v.graph.formed.sets.entry_lt r

      fits : Fits (contents_of s)
      fits =
          let g = s.graph in
          record {
            counts = (omega (arith, roles_bound g), omega (arith, seats_bound s), omega (arith, conflicts_bound g));
            top = set_lt max_role;
            roles = each_listed (ordinary g) (valued (effective g)) (λ e. e.value < 256 ^ set_bytes) 0 role_count (λ k l t. set_lt k);
            conflicts = each_map (conflict_entries g) (λ e p. let a = p.1 in omega arith) (conflict_pairs g);
            seats = each_listed (filled s.seats) (valued (at s.seats)) (λ e. e.value < 256 ^ role_set_bytes) 0 seat_count (λ k l t. v.seats.entry_lt k);
          }
