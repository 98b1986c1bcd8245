-- Entries read one after the other: the test of an ascending list, the entries that are left, and what is stored of one.
-- Assumes nothing.
use mathlib.Core.Path.{◌≡◌, refl, sym, ap, ◌∙◌, subst}
use mathlib.Core.Bool.{Bool, true, false, ◌&&◌, or_assoc}
use mathlib.Core.List.{List, [], ◌∷◌}
use Prim.Native.Nat.{ℕ, suc, ◌+◌, ◌<◌}
use native.Mathlib.Numerals.{add-one}
use native.Mathlib.Omega.{arith}
use lib.Bits.{or_zero_l}
use lib.Dec.{T, T_not, leb, leb→le, le→leb, ltb, ltb→lt}
use Rattle.sets.specs.Sets.{member, single, union}
use Rattle.sets.proofs.Tests.{both, join}
use Rattle.sets.proofs.Laws.{member-union, equal_members, union-empty}
use Rattle.graph.specs.Graph.{privilege_count}
use Rattle.seats.specs.Seats.{seat_count}
use Rattle.seats.specs.Images.{Entry, keys, stored, stored_pairs, no_ordinary_number}
use Rattle.seats.specs.ImageWork.{Part, Roles, Conflicts, Seats, entry_place, entry_passes, store_entries, ascends, EntriesStored}
use Rattle.seats.proofs.EntryBytes.{Each}
use Rattle.seats.proofs.AscendingEntries.{Rising}
use Rattle.seats.proofs.LoadFacts.{role_number}

-- ---- the test of an ascending list
module _ (place : Entry → ℕ) (good : Entry → Bool) where
  pub ascends_rising : (low : ℕ) (l : List Entry) → T (ascends place good low l) → Rising place low l × Each (λ e. T (good e)) l
  unfolding ascends
  ascends_rising low [] t = (tt, tt)
  ascends_rising low (e ∷ l) t =
      let (x, y) = both (leb low (place e) && good e) (ascends place good (suc (place e)) l) t in
      let (a, b) = both (leb low (place e)) (good e) x in
      let (r, h) = ascends_rising (suc (place e)) l y in
      ((leb→le low (place e) a, r), (b, h))

  pub rising_ascends : (low : ℕ) (l : List Entry) → Rising place low l → Each (λ e. T (good e)) l → T (ascends place good low l)
  unfolding ascends
  rising_ascends low [] r h = tt
  rising_ascends low (e ∷ l) r h =
      join (leb low (place e) && good e) (ascends place good (suc (place e)) l)
      (join (leb low (place e)) (good e) (le→leb low (place e) r.0) h.0) (rising_ascends (suc (place e)) l r.1 h.1)

  -- An entry that fails ends the test, and after one that passes the others decide.
  ascends_stops : (low : ℕ) (e : Entry) (l : List Entry) → leb low (place e) && good e ≡ false → ascends place good low (e ∷ l) ≡ false
  unfolding ascends
  ascends_stops low e l t = rw t

  ascends_next : (low : ℕ) (e : Entry) (l : List Entry) → leb low (place e) && good e ≡ true → ascends place good low (e ∷ l) ≡ ascends place good (place e + 1) l
  unfolding ascends
  ascends_next low e l t = rw (t, add-one)

-- ---- entries under way
pub union_assoc : (s t u : ℕ) → union (union s t) u ≡ union s (union t u)
union_assoc s t u =
    equal_members (union (union s t) u) (union s (union t u))
    (λ n. simp member-union (or_assoc (member n s) (member n t) (member n u)))

module _ (part : Part) (present : ℕ) where
  abbrev ascending : ℕ → List Entry → Bool
  ascending = ascends (entry_place part) (entry_passes part present)

  -- The entries l of `whole` are left: with the keys and the table so far they come to what all came to with the table before.
  pub record PartLeft (whole : List Entry) (before : List ℕ) (low held : ℕ) (table : List ℕ) (l : List Entry) : Type 0 where
    pub tested : ascending low l ≡ ascending 0 whole
    pub keyed : union held (keys l) ≡ keys whole
    pub filled : store_entries part l table ≡ store_entries part whole before

  pub part_all : (l : List Entry) (before : List ℕ) → PartLeft l before 0 0 before l
  unfolding union
  part_all l before = record { tested = refl; keyed = or_zero_l (keys l); filled = refl }

  -- One entry is stored, and others behind it.
  stored_first : (p : Part) (e : Entry) (l : List Entry) (t : List ℕ) → store_entries p l (store_entries p (e ∷ []) t) ≡ store_entries p (e ∷ l) t
  unfolding stored stored_pairs
  stored_first Roles e l t = refl
  stored_first Conflicts e l t = refl
  stored_first Seats e l t = refl

  stored_none : (p : Part) (t : List ℕ) → store_entries p [] t ≡ t
  unfolding stored stored_pairs
  stored_none Roles t = refl
  stored_none Conflicts t = refl
  stored_none Seats t = refl

  module _ {whole : List Entry} {before : List ℕ} {low held : ℕ} {table : List ℕ} where
    module _ (e : Entry) (l : List Entry) (w : PartLeft whole before low held table (e ∷ l)) where
      -- The first entry left passes, and is stored.
      pub part_next : leb low (entry_place part e) && entry_passes part present e ≡ true → {after : List ℕ} → after ≡ store_entries part (e ∷ []) table
          → {next : ℕ} → next ≡ union held (single e.key) → PartLeft whole before (entry_place part e + 1) next after l
      unfolding keys
      part_next t a q = record {
        tested = sym (ascends_next (entry_place part) (entry_passes part present) low e l t) ∙ w.tested;
        keyed = ap (λ (s : ℕ). union s (keys l)) q ∙ union_assoc held (single e.key) (keys l) ∙ w.keyed;
        filled = ap (store_entries part l) a ∙ stored_first part e l table ∙ w.filled;
      }

      -- It is refused.
      pub part_refused : leb low (entry_place part e) && entry_passes part present e ≡ false → ascending 0 whole ≡ false
      part_refused t = sym w.tested ∙ ascends_stops (entry_place part) (entry_passes part present) low e l t

    -- None is left.
    pub part_done : PartLeft whole before low held table [] → EntriesStored part present whole before table held
    unfolding ascends keys
    part_done w = record { tested = sym w.tested; keyed = sym (union-empty held) ∙ w.keyed; filled = sym (stored_none part table) ∙ w.filled }

-- What passes has a key that a set has a place for.
pub passing_key : (part : Part) (present : ℕ) (e : Entry) → entry_passes part present e ≡ true → e.key < 64
passing_key Roles present e t = (role_number e (T_not (no_ordinary_number e) (subst T (sym t) tt))).1
passing_key Conflicts present e t =
    let (x, y) = both (ltb e.key e.value) (ltb e.value privilege_count) (subst T (sym t) tt) in
    let a = ltb→lt e.key e.value x in
    let b = ltb→lt e.value privilege_count y in
    omega arith
passing_key Seats present e t = ltb→lt e.key seat_count (both (ltb e.key seat_count) _ (subst T (sym t) tt)).0
