-- Rows, the marks one after the other: one law for each way out.
-- Assumes nothing.
use mathlib.Core.Bool.{Bool}
use mathlib.Core.List.{List, [], ◌∷◌}
use mathlib.Core.Path.{◌≡◌, refl, sym, ap, ◌∙◌}
use Prim.Native.Nat.{ℕ, suc, ◌+◌, ◌-◌, ◌≤◌, ◌<◌}
use native.Mathlib.Numerals.{add-one}
use native.Mathlib.Omega.{arith}
use lib.ListN.{length, get_or, drop, drop_of_length-le}
use lib.Seq.{drop-cons}
use lib.Dec.{eqb}
use lib.Bits.{or_comm}
use Rattle.sets.specs.Sets.{empty, union}
use Rattle.sets.proofs.Laws.{union-empty}
use Rattle.graph.specs.Graph.{role_count}
use Rattle.seats.proofs.EntryReading.{union_assoc}
use Rattle.sheets.specs.Sheets.{Row}
use Rattle.sheets.specs.Parsing.{Read, got, bad, and_then, field, further, ended, fronted, at_end, marks, row}
use Rattle.sheets.specs.Working.{column_set, known_set, added, meant}

-- ---- sets
union_left : (x : ℕ) → union empty x ≡ x
unfolding union
union_left x = or_comm 0 x ∙ union-empty x

-- ---- marks
-- The set so far, with the marks that are left, makes the whole.
pub record Marking (s cols : List ℕ) (i set : ℕ) (t : List ℕ) : Type 0 where
  pub within : i ≤ length cols
  pub same : added cols empty (marks (length cols) s) ≡ added (drop i cols) set (marks (length cols - i) t)

-- One mark more, in front of those behind it.
added-fronted : (c : ℕ) (cs : List ℕ) (set : ℕ) (b : Bool) (r : Read (List Bool)) → added (c ∷ cs) set (fronted b r) ≡ added cs (union set (column_set c b)) r
unfolding added fronted known_set
added-fronted c cs set b bad = refl
added-fronted c cs set b (got m t) = ap (λ (x : ℕ). got x t) (sym (union_assoc set (column_set c b) (known_set cs m)))

module _ {s cols : List ℕ} {i set : ℕ} {t : List ℕ} (m : Marking s cols i set t) where
  module _ (h : i < length cols) where
    step : added cols empty (marks (length cols) s) ≡ added (drop i cols) set (and_then (further t) (λ n u. fronted (eqb n 1) (marks (length cols - (i + 1)) u)))
    unfolding marks
    step = let a : length cols - i ≡ suc (length cols - (i + 1)) = omega arith in m.same ∙ rw a

    pub marking_no : bad ≡ further t → bad ≡ added cols empty (marks (length cols) s)
    unfolding and_then added
    marking_no e = rw (step, sym e)

    pub marking_next : {n sum : ℕ} {u : List ℕ} → got n u ≡ further t → sum ≡ union set (column_set (get_or cols i 0) (eqb n 1)) → Marking s cols (i + 1) sum u
    unfolding and_then
    marking_next {n} {sum} {u} e p =
        let d : drop i cols ≡ get_or cols i 0 ∷ drop (i + 1) cols = rw (add-one i) (drop-cons cols i 0 h) in
        record {
          within = omega arith;
          same = step ∙ rw (sym e, d, p) (added-fronted (get_or cols i 0) (drop (i + 1) cols) set (eqb n 1) (marks (length cols - (i + 1)) u));
        }

  pub marking_done : length cols ≤ i → got set t ≡ added cols empty (marks (length cols) s)
  unfolding marks added known_set
  marking_done h =
      let a : length cols - i ≡ 0 = omega arith in
      let d : drop i cols ≡ [] = drop_of_length-le cols {i = i} h in
      sym (m.same ∙ rw (a, d, union-empty set))

-- ---- a row
-- A role with a set that was read, where the line ends behind them.
with_role : ℕ → ℕ → List ℕ → Read (ℕ × ℕ)
with_role n set t = at_end (n, set) t

meant-end : (cs : List ℕ) (r : Row) (e : Read (Unit {0})) → meant cs (and_then e (λ z t. got r t)) ≡ and_then e (λ z t. got (r.role, known_set cs r.marks) t)
unfolding meant and_then
meant-end cs r bad = refl
meant-end cs r (got z t) = refl

meant-marks : (cs : List ℕ) (n : ℕ) (x : Read (List Bool)) → meant cs (and_then x (λ m u. at_end (record { role = n; marks = m }) u)) ≡ and_then (added cs empty x) (with_role n)
unfolding added and_then at_end meant with_role
meant-marks cs n bad = refl
meant-marks cs n (got m u) = rw (union_left (known_set cs m)) (meant-end cs (record { role = n; marks = m }) (ended u))

module _ (cs : List ℕ) (k : ℕ) (s : List ℕ) where
  pub row_no : bad ≡ field role_count s → bad ≡ meant cs (row k s)
  unfolding row and_then meant
  row_no e = rw (sym e)

  module _ {n : ℕ} {t : List ℕ} (e : got n t ≡ field role_count s) where
    row_is : meant cs (row k s) ≡ and_then (added cs empty (marks k t)) (with_role n)
    unfolding row and_then
    row_is = rw (sym e) (meant-marks cs n (marks k t))

    pub row_unmarked : bad ≡ added cs empty (marks k t) → bad ≡ meant cs (row k s)
    unfolding and_then
    row_unmarked p = rw (row_is, sym p)

    module _ {set : ℕ} {u : List ℕ} (p : got set u ≡ added cs empty (marks k t)) where
      pub row_open : bad ≡ ended u → bad ≡ meant cs (row k s)
      unfolding and_then with_role at_end
      row_open q = rw (row_is, sym p, sym q)

      pub row_read : {v : List ℕ} → got tt v ≡ ended u → got (n, set) v ≡ meant cs (row k s)
      unfolding and_then with_role at_end
      row_read q = rw (row_is, sym p, sym q)
