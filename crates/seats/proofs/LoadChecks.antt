-- What loading tests, against the definitions: the entries read, the state that they describe, and the trailer.
-- Assumes nothing.
use mathlib.Core.Path.{◌≡◌, refl, sym, ap, ap₂, ◌∙◌, subst}
use mathlib.Core.Bool.{Bool, true, false, not, cond, ◌&&◌}
use mathlib.Core.Logic.{◌≢◌, inl, inr}
use mathlib.Core.List.{List, [], ◌∷◌, ◌++◌}
use Prim.Native.Nat.{ℕ, ◌-◌, ◌<◌, ◌≤◌}
use lib.ListN.{length, replicate}
use lib.Dec.{T, T_not, not_T, eqb, ltb, ltb→lt, lt→ltb}
use borrow.Author.Tests.{lt-ltb, le-ltb, le-leb, lt-leb, eq-eqb, ne_eqb}
use Rattle.std.specs.Prelude.{Option, Some, None, Ok, Err}
use Rattle.std.specs.Option.{is_some}
use Rattle.sets.specs.Counting.{any}
use Rattle.sets.specs.Sets.{empty, included}
use Rattle.sets.proofs.Tests.{both, join, passes, fails, decide}
use Rattle.graph.specs.Graph.{privilege_count}
use Rattle.graph.specs.Refusing.{Check, Verdict, passed, refused, verdict, Passes}
use Rattle.graph.specs.Searching.{lowest_found}
use Rattle.graph.specs.Reading.{read_verdict, read_found}
use Rattle.graph.specs.declared.Reason.TheVariants.{BadEntry}
use Rattle.graph.proofs.Refusals.{verdict_passes}
use Rattle.graph.proofs.Judging.{stops, moves_on, refused_first, passed_first, place_found, place_none}
use Rattle.seats.specs.Seats.{State, seat_count, fresh}
use Rattle.seats.specs.Images.{Entry, least_image, Counts, distance, Contents, far_at, counts_at, contents, keys, end_sets, restored, no_ordinary_number, entry_checks, content_checks, Loaded, loaded, not_loaded, image_verdict, unless_refused, load_contents, load_trailer, load}
use Rattle.seats.specs.ImageWork.{Part, Roles, Conflicts, Seats, entry_place, entry_passes, ascends, EntriesStored}
use Rattle.seats.proofs.EntryBytes.{Each, each_map}
use Rattle.seats.proofs.AscendingEntries.{Rising}
use Rattle.seats.proofs.LoadFacts.{role_number, number_role, Ordered, ordered, ordered_passes}
use Rattle.seats.proofs.EntryReading.{ascends_rising, rising_ascends}

-- ---- the entries
module _ (c : Contents) where
  -- What the reader tests of the roles, the conflicts and the seats.
  abbrev tests : Part → ℕ → List Entry → Bool
  tests part present l = ascends (entry_place part) (entry_passes part present) 0 l

  abbrev entries_test : Bool
  entries_test = (tests Roles 0 c.roles && tests Conflicts 0 c.conflicts) && tests Seats (keys c.roles) c.seats

  rises : (part : Part) (present : ℕ) (l : List Entry) → T (tests part present l) → Rising (entry_place part) 0 l × Each (λ e. T (entry_passes part present e)) l
  rises part present l = ascends_rising (entry_place part) (entry_passes part present) 0 l

  tested : (part : Part) (present : ℕ) (l : List Entry) → Rising (entry_place part) 0 l → Each (λ e. T (entry_passes part present e)) l → T (tests part present l)
  tested part present l = rising_ascends (entry_place part) (entry_passes part present) 0 l

  test_ordered : T entries_test → Ordered c
  test_ordered t =
      let (u, s) = both (tests Roles 0 c.roles && tests Conflicts 0 c.conflicts) (tests Seats (keys c.roles) c.seats) t in
      let (r, p) = both (tests Roles 0 c.roles) (tests Conflicts 0 c.conflicts) u in
      let (rise, good) = rises Roles 0 c.roles r in
      let (rise-p, good-p) = rises Conflicts 0 c.conflicts p in
      let (rise-s, good-s) = rises Seats (keys c.roles) c.seats s in
      record {
        roles_rise = rise;
        roles = each_map c.roles (λ e b. role_number e (T_not (no_ordinary_number e) b)) good;
        conflicts_rise = rise-p;
        conflicts = each_map c.conflicts (λ e b. let (x, y) = both (ltb e.key e.value) (ltb e.value privilege_count) b in (ltb→lt e.key e.value x, ltb→lt e.value privilege_count y)) good-p;
        seats_rise = rise-s;
        seats = each_map c.seats seat good-s;
      }
    where
      seat : (e : Entry) → T (ltb e.key seat_count && (not (eqb e.value empty) && included e.value (keys c.roles))) → (e.key < seat_count) × T (not (eqb e.value empty)) × T (included e.value (keys c.roles))
      seat e b =
          let (x, y) = both (ltb e.key seat_count) _ b in
          let (m, n) = both (not (eqb e.value empty)) (included e.value (keys c.roles)) y in
          (ltb→lt e.key seat_count x, m, n)

  ordered_test : Ordered c → T entries_test
  ordered_test o =
      join (tests Roles 0 c.roles && tests Conflicts 0 c.conflicts) (tests Seats (keys c.roles) c.seats)
      (join (tests Roles 0 c.roles) (tests Conflicts 0 c.conflicts)
      (tested Roles 0 c.roles o.roles_rise (each_map c.roles (λ e p. not_T (no_ordinary_number e) (number_role e p)) o.roles))
      (tested Conflicts 0 c.conflicts o.conflicts_rise (each_map c.conflicts (λ e p. join (ltb e.key e.value) (ltb e.value privilege_count) (lt→ltb e.key e.value p.0) (lt→ltb e.value privilege_count p.1)) o.conflicts)))
      (tested Seats (keys c.roles) c.seats o.seats_rise (each_map c.seats (λ e p. join (ltb e.key seat_count) _ (lt→ltb e.key seat_count p.0) (join (not (eqb e.value empty)) (included e.value (keys c.roles)) p.1 p.2)) o.seats))

-- ---- verdicts of one refusal
-- Every check of the list has this number and place.
abbrev Alike : ℕ → ℕ → List Check → Type 0
Alike n p [] = Unit {0}
Alike n p (c ∷ l) = ((c.number ≡ n) × (c.place ≡ p)) × Alike n p l

-- Checks of one refusal refuse with it, unless a test that says that none of them holds passes.
alike_verdict : (n p : ℕ) (l : List Check) → Alike n p l → (b : Bool) → (T b → Passes l) → (Passes l → T b) → verdict l ≡ cond b passed (refused n p)
unfolding Passes
alike_verdict n p l h true f g = verdict_passes l (f tt)
alike_verdict n p l h false f g = refuses l h g
  where
    refuses : (m : List Check) → Alike n p m → (Passes m → ⊥) → verdict m ≡ refused n p
    refuses [] h g = absurd (g tt)
    refuses (c ∷ m) h g =
        elim (decide c.holds) [
          | inl t ↦ stops c m (passes c.holds t) ∙ ap₂ refused h.0.0 h.0.1
          | inr f ↦ moves_on c m (fails c.holds f) ∙ refuses m h.1 (λ q. g (f, q))
        ]

-- ---- the contents
-- What all entries are tested for is what refusal 7 tests.
module _ (c : Contents) where
  entries_verdict : (b : Bool) → b ≡ entries_test c → verdict (entry_checks c) ≡ cond b passed (refused 7 0)
  unfolding entry_checks
  entries_verdict b e =
      alike_verdict 7 0 (entry_checks c)
      ((refl, refl), ((refl, refl), ((refl, refl), ((refl, refl), ((refl, refl), ((refl, refl), ((refl, refl), ((refl, refl), ((refl, refl), tt)))))))))
      b (λ t. ordered_passes c (test_ordered c (subst T e t))) (λ q. subst T (sym e) (ordered_test c (ordered c q)))

  -- The roles, the conflicts, or behind those the seats are refused.
  pub roles_stop : tests c Roles 0 c.roles ≡ false → verdict (entry_checks c) ≡ refused 7 0
  roles_stop r = entries_verdict false (rw r)

  pub conflicts_stop : tests c Roles 0 c.roles ≡ true → tests c Conflicts 0 c.conflicts ≡ false → verdict (entry_checks c) ≡ refused 7 0
  conflicts_stop r p = entries_verdict false (rw (r, p))

  module _ {sets conflicts : List ℕ} {present other : ℕ} (r : EntriesStored Roles 0 c.roles (end_sets c.top) sets present) (p : EntriesStored Conflicts 0 c.conflicts (replicate privilege_count empty) conflicts other) where
    seats_test : (b : Bool) → tests c Seats present c.seats ≡ b → b ≡ entries_test c
    seats_test b s = rw (r.tested, p.tested) (sym s ∙ ap (λ (x : ℕ). tests c Seats x c.seats) r.keyed)

    pub seats_stop : tests c Seats present c.seats ≡ false → verdict (entry_checks c) ≡ refused 7 0
    seats_stop s = entries_verdict false (seats_test false s)

    -- All are stored.
    pub contents_read : {seats : List ℕ} {another : ℕ} → EntriesStored Seats present c.seats (replicate seat_count empty) seats another
        → (verdict (entry_checks c) ≡ passed) × (◌≡◌ {A = State} (record { graph = record { roles = present; sets = sets; conflicts = conflicts }; seats = seats }) (restored c))
    unfolding restored
    contents_read s = (
      entries_verdict true (seats_test true s.tested),
      let k = r.keyed in
          let f = r.filled in
          let g = p.filled in
          let h = s.filled in
          λ i. record { graph = record { roles = k i; sets = f i; conflicts = g i }; seats = h i },
    )

-- The verdict on all checks of the contents.
abbrev all_checks : Contents → List Check
all_checks c = entry_checks c ++ content_checks (restored c)

pub entries_refused : (c : Contents) → verdict (entry_checks c) ≡ refused 7 0 → load_contents c ≡ not_loaded 7 0
unfolding load_contents unless_refused read_verdict
entries_refused c q =
    let z : refused 7 0 ≡ verdict (all_checks c) = refused_first (entry_checks c) (content_checks (restored c)) {v = Err (record { reason = BadEntry; place = 0 })} (sym q) refl in
    ap (λ (v : Verdict). unless_refused v (restored c)) (sym z)

module _ (c : Contents) {h : State} (w : (verdict (entry_checks c) ≡ passed) × (h ≡ restored c)) (x : Bool) (k : verdict (content_checks h) ≡ cond x passed (refused 8 0)) where
  state_verdict : verdict (all_checks c) ≡ cond x passed (refused 8 0)
  unfolding read_verdict
  state_verdict =
      passed_first (entry_checks c) (content_checks (restored c)) {v = Ok tt} (sym w.0) refl
      ∙ ap (λ (s : State). verdict (content_checks s)) (sym w.1)
      ∙ k

  pub state_refused : x ≡ false → load_contents c ≡ not_loaded 8 0
  unfolding load_contents unless_refused
  state_refused f = ap (λ (v : Verdict). unless_refused v (restored c)) (state_verdict ∙ ap (λ (y : Bool). cond y passed (refused 8 0)) f)

  pub state_loaded : x ≡ true → load_contents c ≡ loaded h
  unfolding load_contents unless_refused
  state_loaded t =
      ap (λ (v : Verdict). unless_refused v (restored c)) (state_verdict ∙ ap (λ (y : Bool). cond y passed (refused 8 0)) t)
      ∙ ap loaded (sym w.1)

-- Whether a search finds a place is whether some number passes.
pub finds : (k : ℕ) (f : ℕ → Bool) (x : Option ℕ) {b t : Bool} → read_found x ≡ lowest_found k f → b ≡ is_some x → b ≡ t → any k f ≡ t
finds k f None e o t = place_none k f e refl ∙ sym o ∙ t
finds k f (Some p) e o t = place_found k f e refl ∙ sym o ∙ t

-- ---- the trailer
pub too_few_bytes : (l : List ℕ) → length l < least_image → load l ≡ not_loaded 6 0
unfolding load
too_few_bytes l h = rw (lt-ltb (length l) least_image h)

module _ (l : List ℕ) {far : ℕ} {n : Counts} (long : least_image ≤ length l) (far_is : far ≡ far_at l (length l)) (counts_are : n ≡ counts_at l (length l)) where
  trailer_decides : load l ≡ load_trailer l far n
  unfolding load
  trailer_decides = rw (le-ltb (length l) least_image long, far_is, counts_are)

  pub other_distance : far ≢ distance n → load l ≡ not_loaded 6 0
  unfolding load_trailer
  other_distance d = trailer_decides ∙ rw (ne_eqb far (distance n) d)

  module _ (e : far ≡ distance n) where
    pub beyond_bytes : length l < far → load l ≡ not_loaded 6 0
    unfolding load_trailer
    beyond_bytes h = trailer_decides ∙ rw (eq-eqb far (distance n) e, lt-leb far (length l) h)

    pub contents_decide : far ≤ length l → load l ≡ load_contents (contents l (length l - far) n)
    unfolding load_trailer
    contents_decide h = trailer_decides ∙ rw (eq-eqb far (distance n) e, le-leb far (length l) h)

-- ---- what reading an image gives
pub read_refused : (x : Loaded) (n : ℕ) → x ≡ not_loaded n 0 → ◌≡◌ {A = Verdict × State} (refused n 0, fresh) (image_verdict x)
unfolding image_verdict
read_refused x n e = ap image_verdict (sym e)

pub read_passed : (x : Loaded) (s : State) → x ≡ loaded s → ◌≡◌ {A = Verdict × State} (passed, s) (image_verdict x)
unfolding image_verdict
read_passed x s e = ap image_verdict (sym e)

-- A verdict that passes is no refusal.
abbrev Goes : Verdict → Type 0
Goes passed = Unit {0}
Goes (refused n p) = ⊥

-- What a verdict refuses.
abbrev refusal_of : Verdict → Loaded
refusal_of passed = not_loaded 0 0
refusal_of (refused n p) = not_loaded n p

-- And back, from what was read.
passed_read : (x : Loaded) (s : State) → ◌≡◌ {A = Verdict × State} (passed, s) (image_verdict x) → x ≡ loaded s
unfolding image_verdict
passed_read (loaded h) s e = ap (λ (z : Verdict × State). loaded z.1) (sym e)
passed_read (not_loaded n p) s e = absurd (subst Goes (ap (λ (z : Verdict × State). z.0) e) tt)

refused_read : (x : Loaded) (n p : ℕ) (s : State) → ◌≡◌ {A = Verdict × State} (refused n p, s) (image_verdict x) → x ≡ not_loaded n p
unfolding image_verdict
refused_read (loaded h) n p s e = absurd (subst Goes (sym (ap (λ (z : Verdict × State). z.0) e)) tt)
refused_read (not_loaded m q) n p s e = ap (λ (z : Verdict × State). refusal_of z.0) (sym e)

pub loads_passed : (l : List ℕ) (s : State) → ◌≡◌ {A = Verdict × State} (passed, s) (image_verdict (load l)) → load l ≡ loaded s
loads_passed l s e = passed_read (load l) s e

pub loads_refused : (l : List ℕ) (n p : ℕ) (s : State) → ◌≡◌ {A = Verdict × State} (refused n p, s) (image_verdict (load l)) → load l ≡ not_loaded n p
loads_refused l n p s e = refused_read (load l) n p s e
