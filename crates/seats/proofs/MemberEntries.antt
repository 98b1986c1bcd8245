-- The entries of a set's members, lowest first, and the conflicts row by row: what the loops that save visit, count and write.
-- Assumes nothing.
use mathlib.Core.Path.{◌≡◌, refl, sym, ap, ap₂, ◌∙◌, subst}
use mathlib.Core.Bool.{Bool, true, false, cond, ◌&&◌}
use mathlib.Core.List.{List, [], ◌∷◌, ◌++◌, append_assoc, map, map-append}
use Prim.Native.Nat.{ℕ, zero, suc, ◌+◌, ◌-◌, ◌*◌, ◌/◌, ◌%◌, ◌<◌, ◌≤◌}
use native.Mathlib.Nat.{zero-add, add-zero}
use native.Mathlib.Omega.{arith}
use denote.Param.Members.{Mut}
use lib.ListN.{length, take, drop, length-append}
use lib.Dec.{ltb, lt→ltb}
use Rattle.std.specs.Prelude.{Option, Some, None, MatchOption}
use Rattle.std.specs.Fn.{Called}
use Rattle.std.specs.List.{FoldsTo, fold}
use Rattle.std.specs.Iterator.{Drains}
use Rattle.std.specs.declared.ops.Range.{Range}
use Rattle.std.proofs.iter.Yields.{nat_range_steps}
use Rattle.std.proofs.lemmas.Iterator.{YieldsList, YieldsList-from_range}
use Rattle.std.proofs.lemmas.Fn.{fold_over}
use Rattle.std.proofs.lemmas.List.Sums.{fold-append}
use Rattle.std.proofs.lemmas.Nat.{or_comm}
use Rattle.sets.specs.Counting.{ascending, count}
use Rattle.sets.specs.Sets.{digit, member, single, union, when, difference, collect, size, members}
use Rattle.sets.proofs.Tests.{passes}
use Rattle.sets.proofs.Laws.{member-collect}
use Rattle.sets.proofs.Ascending.{ascending_all}
use Rattle.graph.specs.Tables.{at}
use Rattle.graph.specs.Graph.{Graph, role_count, privilege_count, ordinary, effective}
use Rattle.graph.specs.Conflicts.{conflict}
use Rattle.graph.proofs.DrawingCode.{ordinary-member}
use Rattle.seats.specs.Bytes.{bytes_of}
use Rattle.seats.specs.Seats.{State, seat_count}
use Rattle.seats.specs.Written.{Written}
use Rattle.seats.specs.Images.{Entry, listed_from, role_entries, conflict_entries, seat_entries, entry_bytes}
use Rattle.seats.specs.ImageWork.{member_entries, table_entries, row_entries, pair_entries}
use Rattle.seats.proofs.Numbers.{length-bytes_of}
use Rattle.seats.proofs.StoredEntries.{filled}
use Rattle.seats.proofs.StoredPairs.{pair_at, has_pair}
use Rattle.seats.proofs.ImageLength.{length-listed}
use borrow.Rule.Slice.PartMut.{put_mid}
use Rattle.seats.proofs.Written.{Unwritten, unwritten_all, piece_room, unwritten_behind, unwritten_none}

-- ---- lists by places
listed_cong : (has same : ℕ → Bool) (entry : ℕ → Entry) (i n : ℕ) → ((k : ℕ) → i ≤ k → k < i + n → has k ≡ same k) → listed_from i n has entry ≡ listed_from i n same entry
unfolding listed_from
listed_cong has same entry i zero h = refl
listed_cong has same entry i (suc n) h =
    ap₂ (λ (b : Bool) (l : List Entry). cond b (entry i ∷ l) l) (h i (omega arith) (omega arith))
    (listed_cong has same entry (suc i) n (λ k a b. h k (omega arith) (omega arith)))

-- The places from k + i on, counted from i on.
listed_moved : (k : ℕ) (has same : ℕ → Bool) (entry equal : ℕ → Entry) (i n : ℕ) → ((j : ℕ) → j < i + n → (has (k + j) ≡ same j) × (entry (k + j) ≡ equal j))
    → listed_from (k + i) n has entry ≡ listed_from i n same equal
unfolding listed_from
listed_moved k has same entry equal i zero h = refl
listed_moved k has same entry equal i (suc n) h =
    let here = h i (omega arith) in
    let s : suc (k + i) ≡ k + suc i = omega arith in
    let rest = ap (λ (p : ℕ). listed_from p n has entry) s ∙ listed_moved k has same entry equal (suc i) n (λ j l. h j (omega arith)) in
    λ d. cond (here.0 d) (here.1 d ∷ rest d) (rest d)

listed-append : (has : ℕ → Bool) (entry : ℕ → Entry) (i m n : ℕ) → listed_from i (m + n) has entry ≡ listed_from i m has entry ++ listed_from (i + m) n has entry
unfolding listed_from
listed-append has entry i zero n = rw (zero-add, add-zero)
listed-append has entry i (suc m) n =
    let a : suc m + n ≡ suc (m + n) = omega arith in
    let b : suc i + m ≡ i + suc m = omega arith in
    let rest = rw b at (listed-append has entry (suc i) m n) in
    rw (a, rest) (join (has i) (entry i) (listed_from (suc i) m has entry) (listed_from (i + suc m) n has entry))
  where
    join : (b : Bool) (e : Entry) (l r : List Entry) → cond b (e ∷ (l ++ r)) (l ++ r) ≡ cond b (e ∷ l) l ++ r
    join true e l r = refl
    join false e l r = refl

pub entry_bytes-append : (n : ℕ) (l m : List Entry) → entry_bytes n (l ++ m) ≡ entry_bytes n l ++ entry_bytes n m
unfolding entry_bytes
entry_bytes-append n [] m = refl
entry_bytes-append n (e ∷ l) m =
    ap (λ (r : List ℕ). (e.key ∷ bytes_of n e.value) ++ r) (entry_bytes-append n l m)
    ∙ sym (append_assoc (e.key ∷ bytes_of n e.value) (entry_bytes n l) (entry_bytes n m))

-- ---- the members of a set
pub length_members : (v s : ℕ) (entry : ℕ → Entry) → length (member_entries v s entry) ≡ size v s
unfolding member_entries size
length_members v s entry = length-listed (λ n. member n s) entry v

-- They are the entries of the members, one after the other.
members_mapped : (v s : ℕ) (entry : ℕ → Entry) → member_entries v s entry ≡ map entry (members v s)
unfolding member_entries members listed_from ascending
members_mapped v s entry = go v
  where
    alone : (b : Bool) (n : ℕ) → cond b (entry n ∷ []) [] ≡ map entry (cond b (n ∷ []) [])
    alone true n = refl
    alone false n = refl

    go : (n : ℕ) → listed_from 0 n (λ i. member i s) entry ≡ map entry (ascending n (λ i. member i s))
    go zero = refl
    go (suc n) =
        let e : suc n ≡ n + 1 = omega arith in
        let z : 0 + n ≡ n = omega arith in
        ap (λ (k : ℕ). listed_from 0 k (λ i. member i s) entry) e ∙ listed-append (λ i. member i s) entry 0 n 1
        ∙ rw z (ap₂ (λ (l m : List Entry). l ++ m) (go n) (alone (member n s) n))
        ∙ sym (map-append entry (ascending n (λ i. member i s)) (cond (member n s) (n ∷ []) []))

-- The bytes of the entries of these numbers, n for each value: what a walk over members has left to write.
abbrev pub left_bytes : ℕ → (ℕ → Entry) → List ℕ → List ℕ
left_bytes n entry xs = entry_bytes n (map entry xs)

-- A walk over a set, just begun, has all of them left.
pub walk_begun : (old : List ℕ) (n : ℕ) (entry : ℕ → Entry) {s t : ℕ} → t ≡ s → Unwritten old 0 (entry_bytes n (member_entries 64 s entry)) old 0 (left_bytes n entry (members 64 t))
walk_begun old n entry {s} {t} e =
    subst (λ (l : List ℕ). Unwritten old 0 (entry_bytes n (member_entries 64 s entry)) old 0 l)
    (ap (entry_bytes n) (members_mapped 64 s entry ∙ ap (λ (k : ℕ). map entry (members 64 k)) (sym e))) (unwritten_all old 0 _)

-- What a call of a walk gave: the first of the numbers left, or that none is left.
abbrev Walked : List ℕ → Option ℕ → List ℕ → Type 0
Walked xs r ys = MatchOption r ((xs ≡ []) × (ys ≡ [])) (λ x. xs ≡ x ∷ ys)

-- Of the entries left that of the member k, which the walk gives, is written next.
module _ {old whole buffer : List ℕ} {i : ℕ} (n : ℕ) (entry : ℕ → Entry) (xs ys : List ℕ) {r : Option ℕ} {k : ℕ} (is : r ≡ Some k) (steps : Walked xs r ys) (w : Unwritten old 0 whole buffer i (left_bytes n entry xs)) where
  first_left : Unwritten old 0 whole buffer i (((entry k).key ∷ bytes_of n (entry k).value) ++ left_bytes n entry ys)
  unfolding entry_bytes
  first_left =
      let e : xs ≡ k ∷ ys = subst (λ (o : Option ℕ). Walked xs o ys) is steps in
      subst (λ (l : List ℕ). Unwritten old 0 whole buffer i (entry_bytes n (map entry l))) e w

  module _ (h : length whole ≤ length old) where
    pub member_room : i + 1 + n ≤ length buffer
    member_room = let r = piece_room ((entry k).key ∷ bytes_of n (entry k).value) _ first_left (omega arith) in let l = length-bytes_of n (entry k).value in omega arith

    pub member_written : {part : List ℕ} {d : ℕ} → Written (take (length buffer - i) (drop i buffer)) 0 ((entry k).key ∷ bytes_of n (entry k).value) part d → Unwritten old 0 whole (put_mid i (length buffer - i) buffer part) (i + d) (left_bytes n entry ys)
    member_written p = unwritten_behind ((entry k).key ∷ bytes_of n (entry k).value) _ first_left h p

-- Where the walk has none left, all is written.
pub members_written : {old whole buffer : List ℕ} {i : ℕ} (n : ℕ) (entry : ℕ → Entry) (xs ys : List ℕ) {r : Option ℕ} → r ≡ None → Walked xs r ys → Unwritten old 0 whole buffer i (left_bytes n entry xs) → Written old 0 whole buffer i
unfolding entry_bytes
members_written {old} {whole} {buffer} {i} n entry xs ys is steps w =
    let e = subst (λ (o : Option ℕ). Walked xs o ys) is steps in
    unwritten_none (subst (λ (l : List ℕ). Unwritten old 0 whole buffer i (entry_bytes n (map entry l))) e.0 w)

-- ---- the numbers below 64
-- A union is collected from below as it is from above; each number is below 64, by which the code asks for it.
collect_ascending : (n : ℕ) (f : ℕ → Bool) → n ≤ 64 → fold (λ s i. union s (when (f i) (when (ltb i 64) (single i)))) 0 (ascending n (λ i. true)) ≡ collect n f
unfolding ascending collect union when
collect_ascending zero f l = refl
collect_ascending (suc n) f l =
    fold-append (λ s i. union s (when (f i) (when (ltb i 64) (single i)))) 0 (ascending n (λ i. true)) (n ∷ [])
    ∙ rw (passes (ltb n 64) (lt→ltb n 64 (omega arith)), collect_ascending n f (omega arith)) (or_comm (collect n f) (when (f n) (single n)))

yields_below : {s : Range ℕ} → s ≡ record { start = 0; end = 64 } → YieldsList nat_range_steps (λ i. i) s (ascending 64 (λ i. true))
yields_below {s} from_zero = subst (YieldsList nat_range_steps (λ i. i) s) (sym (ascending_all 64)) (YieldsList-from_range 0 64 64 from_zero (omega arith))

-- What folding a union over all of them, with those that pass, collects.
module _ {F : Type 0} {g : Mut F (ℕ × (ℕ × Unit {0})) ℕ} {s : Range ℕ} (from_zero : s ≡ record { start = 0; end = 64 }) where
  pub collected_below : (test : ℕ → Bool) {f : F} (r : ℕ)
      → (xs : List ℕ) × (q : F) × Drains nat_range_steps s xs × FoldsTo {P = F × ℕ} (λ b x d. Called g b.0 (b.1, (x, tt)) d.1 d.0) (f, 0) xs (q, r)
      → ((b n d : ℕ) (q : F) → Called g f (b, (n, tt)) d q → (q ≡ f) × (d ≡ union b (when (test n) (when (ltb n 64) (single n)))))
      → r ≡ collect 64 test
  collected_below test {f} r ran calls =
      fold_over nat_range_steps (λ n. n) g (λ ys b. b ≡ fold (λ t n. union t (when (test n) (when (ltb n 64) (single n)))) 0 ys) f
      (λ ys b n d q j k. let (same, e) = calls b n d q k in (e ∙ ap (λ (t : ℕ). union t (when (test n) (when (ltb n 64) (single n)))) j ∙ sym (fold-append (λ t n. union t (when (test n) (when (ltb n 64) (single n)))) 0 ys (n ∷ [])), same))
      s (ascending 64 (λ i. true)) 0 r (yields_below from_zero).runs refl ran
      ∙ collect_ascending 64 test (omega arith)

-- ---- the roles and the seats
pub roles_listed : (g : Graph) → table_entries (difference g.roles 3) g.sets ≡ role_entries g
unfolding member_entries role_entries effective
roles_listed g = listed_cong (λ r. member r (difference g.roles 3)) (ordinary g) (λ r. record { key = r; value = at g.sets r }) 0 role_count (λ k a b. ordinary-member g k)

pub seats_listed : (s : State) → table_entries (collect seat_count (filled s.seats)) s.seats ≡ seat_entries s
unfolding member_entries seat_entries
seats_listed s =
    listed_cong (λ i. member i (collect seat_count (filled s.seats))) (filled s.seats) (λ i. record { key = i; value = at s.seats i }) 0 seat_count
    (λ k a b. member-collect k seat_count (filled s.seats) ∙ ap (λ (t : Bool). t && filled s.seats k) (passes (ltb k seat_count) (lt→ltb k seat_count (omega arith))))

-- ---- the conflicts, row by row
no_elements : (l : List Entry) → length l ≡ 0 → l ≡ []
no_elements [] e = refl
no_elements (x ∷ l) e = absurd (omega arith)

module _ (C : List ℕ) where
  -- The conflicts whose lower privilege is a or higher.
  unfoldable pub rows_from : ℕ → List Entry
  rows_from a = listed_from (privilege_count * a) (privilege_count * (privilege_count - a)) (has_pair C) pair_at

  pub rows_all : rows_from 0 ≡ pair_entries C
  unfolding rows_from conflict_entries
  rows_all = refl

  pub rows_none : (a : ℕ) → privilege_count ≤ a → rows_from a ≡ []
  unfolding rows_from listed_from
  rows_none a h = let e : privilege_count * (privilege_count - a) ≡ 0 = omega arith in rw e

  row_listed : (a : ℕ) → listed_from (privilege_count * a) privilege_count (has_pair C) pair_at ≡ row_entries a (collect privilege_count (conflict C a))
  unfolding member_entries
  row_listed a =
      ap (λ (p : ℕ). listed_from p privilege_count (has_pair C) pair_at) (sym (add-zero (privilege_count * a)))
      ∙ listed_moved (privilege_count * a) (has_pair C) (λ n. member n (collect privilege_count (conflict C a))) pair_at (λ n. record { key = a; value = n }) 0 privilege_count
      (λ j l.
      let d : (privilege_count * a + j) / privilege_count ≡ a = omega arith in
      let m : (privilege_count * a + j) % privilege_count ≡ j = omega arith in
      (rw (d, m) (sym (member-collect j privilege_count (conflict C a) ∙ ap (λ (t : Bool). t && conflict C a j) (passes (ltb j privilege_count) (lt→ltb j privilege_count (omega arith))))), λ t. record { key = d t; value = m t }))

  pub rows_next : (a : ℕ) → a < privilege_count → rows_from a ≡ row_entries a (collect privilege_count (conflict C a)) ++ rows_from (a + 1)
  unfolding rows_from
  rows_next a h =
      let e : privilege_count * (privilege_count - a) ≡ privilege_count + privilege_count * (privilege_count - (a + 1)) = omega arith in
      let f : privilege_count * a + privilege_count ≡ privilege_count * (a + 1) = omega arith in
      rw (e, listed-append (has_pair C) pair_at (privilege_count * a) privilege_count (privilege_count * (privilege_count - (a + 1))), f, row_listed a)

  -- One row more is counted.
  pub rows_counted : (a n : ℕ) → a < privilege_count → (row : ℕ) → row ≡ collect privilege_count (conflict C a) → n + length (rows_from a) ≡ length (pair_entries C) → n + size privilege_count row + length (rows_from (a + 1)) ≡ length (pair_entries C)
  rows_counted a n h row e k =
      let s = length_members privilege_count row (λ n. record { key = a; value = n }) in
      let t = ap length (rows_next a h) ∙ length-append (row_entries a (collect privilege_count (conflict C a))) (rows_from (a + 1)) in
      let u : length (rows_from a) ≡ length (row_entries a row) + length (rows_from (a + 1)) = rw e t in
      omega arith

  -- One row more is written.
  module _ {old whole buffer : List ℕ} {i : ℕ} (a : ℕ) (h : a < privilege_count) {row : ℕ} (e : row ≡ collect privilege_count (conflict C a)) (w : Unwritten old 0 whole buffer i (entry_bytes 1 (rows_from a))) where
    row_first : Unwritten old 0 whole buffer i (entry_bytes 1 (row_entries a row) ++ entry_bytes 1 (rows_from (a + 1)))
    row_first = rw e (rw (rows_next a h, entry_bytes-append 1) at w)

    -- An empty row leaves nothing to be written.
    pub row_passed : row ≡ 0 → Unwritten old 0 whole buffer i (entry_bytes 1 (rows_from (a + 1)))
    unfolding entry_bytes size count member digit
    row_passed z =
        let s : length (row_entries a row) ≡ size privilege_count 0 = length_members privilege_count row (λ n. record { key = a; value = n }) ∙ ap (size privilege_count) z in
        rw (no_elements (row_entries a row) (s ∙ omega arith)) at row_first

    module _ (room : length whole ≤ length old) where
      pub row_room : i + length (entry_bytes 1 (row_entries a row)) ≤ length buffer
      row_room = piece_room (entry_bytes 1 (row_entries a row)) (entry_bytes 1 (rows_from (a + 1))) row_first (omega arith)

      pub row_written : {part : List ℕ} {n : ℕ} → Written (take (length buffer - i) (drop i buffer)) 0 (entry_bytes 1 (row_entries a row)) part n → Unwritten old 0 whole (put_mid i (length buffer - i) buffer part) (i + n) (entry_bytes 1 (rows_from (a + 1)))
      row_written p = unwritten_behind (entry_bytes 1 (row_entries a row)) (entry_bytes 1 (rows_from (a + 1))) row_first room p

  pub rows_written : {old whole buffer : List ℕ} {i : ℕ} (a : ℕ) → privilege_count ≤ a → Unwritten old 0 whole buffer i (entry_bytes 1 (rows_from a)) → Written old 0 whole buffer i
  unfolding entry_bytes
  rows_written a h w = unwritten_none (rw (rows_none a h) at w)
