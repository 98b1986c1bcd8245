-- Importing: one law for each way out.
-- Assumes nothing.
use mathlib.Core.Bool.{Bool, true, false}
use mathlib.Core.List.{List, [], ◌∷◌, ◌++◌}
use mathlib.Core.Path.{◌≡◌, refl, sym, ap, ap₂, ◌∙◌}
use Prim.Native.Nat.{ℕ, ◌+◌, ◌*◌, ◌/◌, ◌≤◌, ◌<◌}
use native.Mathlib.Omega.{arith}
use lib.ListN.{length}
use borrow.Author.Tests.{lt-ltb}
use Rattle.std.specs.Prelude.{Option, Some, None, Result, Ok, Err}
use Rattle.std.specs.Option.{ok_or}
use Rattle.std.specs.Borrow.{Bor}
use Rattle.sets.specs.Sets.{single, union, when}
use Rattle.lists.specs.Runs.{Each}
use Rattle.graph.specs.Graph.{privilege_count}
use Rattle.seats.specs.Records.{record_length}
use Rattle.seats.specs.Tape.{joined}
use Rattle.seats.specs.Written.{Written}
use Rattle.seats.proofs.Written as writing
use Rattle.sheets.specs.Sheets.{Row, Sheet, set_of, record_with, row_record, tape_of, Spells}
use Rattle.sheets.specs.Importing.{imported, refused, filled, Imports, fails, spelt}
use Rattle.sheets.specs.Parsing.{got, rows, heading}
use Rattle.sheets.specs.Reading.{read_imported}
use Rattle.sheets.specs.Working.{read_as, read_columns, columns_of, counted, known_set, known_records}
use Rattle.sheets.specs.declared.columns.Columns.{Columns}
use Rattle.sheets.specs.declared.ImportError.{ImportError}
use Rattle.sheets.specs.declared.ImportError.TheVariants.{BadRow}
use Rattle.sheets.proofs.HeadingReading.{heading_sound}
use Rattle.sheets.proofs.RowLaws.{length-records}
use Rattle.sheets.proofs.SheetReading.{Found, no_heading, bad_row, read_spelt}

-- ---- the records are the tape's
-- Where the columns are privileges, what is known of the marked ones is their set.
known_set_is : (cs : List ℕ) (m : List Bool) → Each (λ c. c < privilege_count) cs → known_set cs m ≡ set_of cs m
unfolding known_set set_of when Each
known_set_is [] m h = refl
known_set_is (c ∷ cs) [] h = refl
known_set_is (c ∷ cs) (b ∷ m) h = rw (lt-ltb c privilege_count h.0) (ap (λ (x : ℕ). union (when b (single c)) x) (known_set_is cs m h.1))

known_tape : (cs : List ℕ) (l : List Row) → Each (λ c. c < privilege_count) cs → known_records cs l ≡ tape_of (record { columns = cs; rows = l })
unfolding known_records tape_of row_record joined
known_tape cs [] h = refl
known_tape cs (r ∷ l) h = ap₂ (λ (x : ℕ) (y : List ℕ). record_with r.role x ++ y) (known_set_is cs r.marks h) (known_tape cs l h)

-- ---- what was counted
bad_counted : (found : Found) {e : ImportError} → Err e ≡ counted found → (found.1 ≡ false) × (e ≡ BadRow (length found.0 + 2))
unfolding counted
bad_counted (l, true) p = absurd cc
bad_counted (l, false) p = (refl, cc)

all_counted : (found : Found) {n : ℕ} → Ok n ≡ counted found → (found.1 ≡ true) × (n ≡ length found.0)
unfolding counted
all_counted (l, true) p = (refl, cc)
all_counted (l, false) p = absurd cc

-- ---- the ways out
-- The heading that was read.
pub headed : (s : List ℕ) {cs : List ℕ} {r : Option (Columns × Bor (List ℕ))} {h : Columns} {t : Bor (List ℕ)} → read_columns r ≡ heading s → r ≡ Some (h, t) → cs ≡ columns_of h → got cs t.now ≡ heading s
unfolding read_as
headed s {t = t} e p q = ap (λ (cs : List ℕ). got cs t.now) q ∙ (rw p at e)

module _ (s b : List ℕ) where
  pub import_headless : {r : Option (Columns × Bor (List ℕ))} {e : ImportError} → read_columns r ≡ heading s → r ≡ None → ◌≡◌ {A = Result (Columns × Bor (List ℕ)) ImportError} (Err e) (ok_or r (BadRow 1))
      → Imports s b (read_imported (Err e)) b
  unfolding read_as read_imported
  import_headless {r} {e} h p q =
      let a : e ≡ BadRow 1 = (let z = rw p at q in cc) in
      rw a (fails (no_heading (sym (rw p at h))))

  module _ {cs t : List ℕ} (h : got cs t ≡ heading s) where
    abbrev found : Found
    found = rows (length cs) t

    pub import_bad : {e : ImportError} → Err e ≡ counted found → Imports s b (read_imported (Err e)) b
    unfolding read_imported
    import_bad p = let q = bad_counted found p in rw q.1 (fails (bad_row (sym h) q.0))

    module _ {n : ℕ} (p : Ok n ≡ counted found) where
      abbrev the_sheet : Sheet
      the_sheet = record { columns = cs; rows = found.0 }

      the_spelling : Spells s the_sheet
      the_spelling = read_spelt (record { behind = t; headed_by = sym h; reads = ap (λ (b : Bool). (found.0, b)) (all_counted found p).0 })

      tape_is : known_records cs found.0 ≡ tape_of the_sheet
      tape_is = known_tape cs found.0 (heading_sound s (sym h)).good.columns_below

      tape_length : length (tape_of the_sheet) ≡ record_length * n
      tape_length = ap length (sym tape_is) ∙ length-records cs found.0 ∙ ap (λ (m : ℕ). record_length * m) (sym (all_counted found p).1)

      pub import_short : length b / record_length < n → Imports s b (refused 33 0) b
      unfolding filled
      import_short k = let l = tape_length in spelt {s = the_sheet} the_spelling (writing.unfilled 33 b (tape_of the_sheet) (omega arith))

      pub tape_fits : n ≤ length b / record_length → record_length * length found.0 ≤ length b
      tape_fits k = let a = (all_counted found p).1 in omega arith

      pub import_done : {after : List ℕ} {w : ℕ} → n ≤ length b / record_length → Written b 0 (known_records cs found.0) after w → Imports s b (imported w) after
      unfolding filled
      import_done k q = let l = tape_length in spelt {s = the_sheet} the_spelling (writing.filled 33 b (tape_of the_sheet) (omega arith) (rw tape_is at q))
