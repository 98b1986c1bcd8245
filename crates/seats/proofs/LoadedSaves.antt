-- Loading, then saving: what loads is saved as the same bytes.
-- Assumes nothing.
use mathlib.Core.Path.{◌≡◌, refl, sym, ap, ap₂, ◌∙◌, subst}
use mathlib.Core.Bool.{not}
use mathlib.Core.List.{List, ◌++◌}
use Prim.Native.Nat.{ℕ, ◌+◌, ◌-◌, ◌*◌, ◌≤◌}
use native.Mathlib.Omega.{arith}
use lib.ListN.{length, take, drop, replicate, length-drop, take-append-drop}
use lib.Seq.{take_all, drop-drop}
use lib.Dec.{T, T_not, eqb, eqb_refl}
use Rattle.sets.specs.Sets.{empty, member}
use Rattle.sets.proofs.Tests.{so, equal_test}
use Rattle.graph.specs.Tables.{at}
use Rattle.graph.specs.Graph.{role_count, max_role, ordinary, effective}
use Rattle.graph.proofs.Tables.{at-replicate}
use Rattle.graph.proofs.Order.{ordinary_parts, ordinary_join}
use Rattle.seats.specs.Bytes.{bytes_of, number_at, Bytes}
use Rattle.seats.specs.Seats.{State, seat_count}
use Rattle.seats.specs.Images.{Entry, role_entries, conflict_entries, seat_entries, Contents, trailer_length, distance, trailer, parts, image, far_at, counts_at, contents, keys, stored, end_sets, restored, loaded, load}
use Rattle.seats.proofs.Numbers.{bytes_of_number}
use Rattle.seats.proofs.EntryBytes.{Each, each_map, each_zip, length-entries_at, entry_bytes-at}
use Rattle.seats.proofs.AscendingEntries.{there, each_some}
use Rattle.seats.proofs.StoredEntries.{filled, member-keys, stored_each, stored_other, stored_absent, stored-listed}
use Rattle.seats.proofs.StoredPairs.{pairs_listed}
use Rattle.seats.proofs.LoadFacts.{found, accepted, Ordered, ordered}

-- ---- bytes that were read are written back
-- The bytes from place k on are n of them and those behind.
split : (n k m : ℕ) (l : List ℕ) → k + n ≡ m → take n (drop k l) ++ drop m l ≡ drop k l
split n k m l e = ap (λ (x : List ℕ). take n (drop k l) ++ x) (ap (λ (j : ℕ). drop j l) (sym e) ∙ sym (drop-drop n k l)) ∙ take-append-drop n (drop k l)

trailer_back : (l : List ℕ) → Bytes l → trailer_length ≤ length l → far_at l (length l) ≡ distance (counts_at l (length l)) → trailer (counts_at l (length l)) ≡ drop (length l - trailer_length) l
unfolding trailer far_at counts_at
trailer_back l h k f =
    let end = length l in
    let last : bytes_of 2 (number_at 2 (end - 2) l) ≡ drop (end - 2) l =
    bytes_of_number 2 (end - 2) l h (omega arith) ∙ take_all 2 (drop (end - 2) l) (omega (arith, length-drop (end - 2) l)) in
    behind 4 (end - 8) (end - 4) f (omega arith) (omega arith)
    (behind 1 (end - 4) (end - 3) refl (omega arith) (omega arith) (behind 1 (end - 3) (end - 2) refl (omega arith) (omega arith) last))
  where
    behind : (w k m : ℕ) {x : ℕ} {t : List ℕ} → number_at w k l ≡ x → k + w ≡ m → m ≤ length l → t ≡ drop m l → bytes_of w x ++ t ≡ drop k l
    behind w k m e q b f = ap₂ (λ (y z : List ℕ). y ++ z) (ap (bytes_of w) (sym e) ∙ bytes_of_number w k l h (omega arith)) f ∙ split w k m l q

-- The parts of the contents of bytes are those bytes.
parts_back : (l : List ℕ) (i : ℕ) → let n = counts_at l (length l) in Bytes l → i + distance n ≡ length l → far_at l (length l) ≡ distance n → parts (contents l i n) ≡ drop i l
unfolding parts contents distance
parts_back l i h e f =
    let n = counts_at l (length l) in
    let r = n.roles in
    let s = n.seats in
    let c = n.conflicts in
    rw (
      length-entries_at 8 (i + 8) r l,
      length-entries_at 8 (i + 8 + 9 * r + 2 * c) s l,
      length-entries_at 1 (i + 8 + 9 * r) c l,
      trailer_back l h (omega arith) f,
      bytes_of_number 8 i l h (omega arith),
      entry_bytes-at 8 (i + 8) r l h (omega arith),
      entry_bytes-at 1 (i + 8 + 9 * r) c l h (omega arith),
      entry_bytes-at 8 (i + 8 + 9 * r + 2 * c) s l h (omega arith),
      split (s * 9) (i + 8 + 9 * r + 2 * c) (length l - 8) l (omega arith),
      split (c * 2) (i + 8 + 9 * r) (i + 8 + 9 * r + 2 * c) l (omega arith),
      split (r * 9) (i + 8) (i + 8 + 9 * r) l (omega arith),
    )
    (split 8 i (i + 8) l refl)

-- ---- entries in order are what the state that they describe lists
module _ (c : Contents) (o : Ordered c) where
  role_known : Each (λ e. T (member e.key (keys c.roles))) c.roles
  role_known = each_map c.roles (λ e t. subst T (sym (member-keys e.key c.roles)) t) (each_some (λ e x. eqb e.key x.key) c.roles (λ e. eqb_refl e.key))

  roles_back : role_entries (restored c).graph ≡ c.roles
  unfolding role_entries effective restored
  roles_back =
      stored-listed role_count (ordinary (restored c).graph) c.roles (end_sets c.top) refl o.roles_rise
      (each_zip c.roles (λ e x m. (x.1, ordinary_join (restored c).graph e.key x.0 m)) o.roles role_known)
      (λ k t. subst T (member-keys k c.roles) (ordinary_parts (restored c).graph k t).1)

  top_back : effective (restored c).graph max_role ≡ c.top
  unfolding effective restored at
  top_back = stored_other 1 c.roles (end_sets c.top) (each_map c.roles (λ e x q. let a = x.0 in omega arith) o.roles)

  conflicts_back : conflict_entries (restored c).graph ≡ c.conflicts
  unfolding conflict_entries restored
  conflicts_back = pairs_listed c.conflicts o.conflicts o.conflicts_rise

  seats_back : seat_entries (restored c) ≡ c.seats
  unfolding seat_entries restored
  seats_back =
      let zeros = replicate seat_count empty in
      stored-listed seat_count (filled (stored c.seats zeros)) c.seats zeros refl o.seats_rise
      (each_zip c.seats (λ e x q. (x.0, subst (λ (y : ℕ). T (not (eqb y empty))) (sym q) x.1)) o.seats
      (stored_each 0 c.seats zeros o.seats_rise (each_map c.seats (λ e x. x.0) o.seats)))
      (λ k t. so (there Entry.key k c.seats) (λ n. T_not (eqb (at (stored c.seats zeros) k) empty) t (equal_test (absent k (T_not (there Entry.key k c.seats) n)))))
    where
      absent : (k : ℕ) → (T (there Entry.key k c.seats) → ⊥) → at (stored c.seats (replicate seat_count empty)) k ≡ 0
      absent k n = stored_absent k c.seats (replicate seat_count empty) n ∙ at-replicate seat_count k

  image_restored : image (restored c) ≡ parts c
  unfolding image
  image_restored = rw (top_back, roles_back, conflicts_back, seats_back)

-- What loads has the length that its trailer says.
pub image_far : (l : List ℕ) → Bytes l → (s : State) → load l ≡ loaded s → (image s ≡ drop (length l - far_at l (length l)) l) × (length (image s) ≡ far_at l (length l))
image_far l h s e =
    let f = found l s e in
    let far = distance (counts_at l (length l)) in
    let i = length l - far in
    let k = f.fits in
    let c = contents l i (counts_at l (length l)) in
    let a = accepted c s f.loads in
    let q : image s ≡ drop i l = ap image (sym a.same) ∙ image_restored c (ordered c a.entries) ∙ parts_back l i h (omega arith) f.far in
    (q ∙ ap (λ (d : ℕ). drop (length l - d) l) (sym f.far), ap length q ∙ length-drop i l ∙ omega (arith, f.far))

pub saves_back : (l : List ℕ) → Bytes l → (s : State) → load l ≡ loaded s → (length (image s) ≤ length l) × (drop (length l - length (image s)) l ≡ image s)
saves_back l h s e =
    let f = (found l s e).fits in
    let g = (found l s e).far in
    let (q, d) = image_far l h s e in
    (omega arith, rw d (sym q))
