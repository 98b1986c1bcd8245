-- A text spells at most one sheet; it spells one, or fails at one row; and how long a text is that spells a sheet or begins with rows.
-- Assumes nothing.
use mathlib.Core.Bool.{Bool, true, false}
use mathlib.Core.List.{List, [], ◌∷◌, map}
use mathlib.Core.Logic.{◌⊎◌, inl, inr, ◌≢◌}
use mathlib.Core.Path.{◌≡◌, refl, sym, ap, ap₂, ◌∙◌}
use Prim.Native.Nat.{ℕ, zero, suc, ◌+◌, ◌*◌, ◌≤◌, ◌<◌}
use native.Mathlib.Decide.{dec_lt}
use native.Mathlib.Nat.{not-suc-le-zero}
use native.Mathlib.Omega.{arith}
use lib.ListN.{length, take, length-append, length-map}
use lib.Seq.{length-take-le}
use Rattle.lists.specs.Runs.{Each}
use Rattle.sheets.specs.Rfc.{line_end}
use Rattle.sheets.specs.Sheets.{Row, Sheet, GoodRow, Good, bit, heading_fields, row_fields, table_of, Spells}
use Rattle.sheets.specs.Importing.{Begins, any_text, one-more, Leads, Fails}
use Rattle.sheets.specs.Parsing.{Read, got, bad, rows, heading}
use Rattle.sheets.proofs.Productions.{Records, one_record, parted_file}
use Rattle.sheets.proofs.RowReading.{record_length}
use Rattle.sheets.proofs.SheetReading.{Found, spelt_read, read_spelt, no_heading, bad_row}

-- ---- one sheet
pub one_spelt : {text : List ℕ} {a b : Sheet} → Spells text a → Spells text b → a ≡ b
one_spelt {text} {a} {b} p q =
    let d = spelt_read p in
    let e = spelt_read q in
    let g = sym d.headed_by ∙ e.headed_by in
    let c : a.columns ≡ b.columns = cc in
    let u : d.behind ≡ e.behind = cc in
    let r : a.rows ≡ b.rows = sym (ap (λ (x : Found). x.0) d.reads) ∙ ap₂ (λ (x y : List ℕ). (rows (length x) y).0) c u ∙ ap (λ (x : Found). x.0) e.reads in
    ap₂ (λ (x : List ℕ) (y : List Row). record { columns = x; rows = y }) c r

-- ---- a sheet or a row
pub spelt_or_fails : (text : List ℕ) → ((s : Sheet) × Spells text s) ⊎ ((n : ℕ) × Fails text n)
spelt_or_fails text = by (heading text) refl
  where
    by_rows : (cs t : List ℕ) → heading text ≡ got cs t → (b : Bool) → (rows (length cs) t).1 ≡ b → ((s : Sheet) × Spells text s) ⊎ ((n : ℕ) × Fails text n)
    by_rows cs t e true q = inl (record { columns = cs; rows = (rows (length cs) t).0 }, read_spelt (record { behind = t; headed_by = e; reads = ap (λ (b : Bool). ((rows (length cs) t).0, b)) q }))
    by_rows cs t e false q = inr (length (rows (length cs) t).0 + 2, bad_row e q)

    by : (x : Read (List ℕ)) → heading text ≡ x → ((s : Sheet) × Spells text s) ⊎ ((n : ℕ) × Fails text n)
    by bad e = inr (1, no_heading e)
    by (got cs t) e = by_rows cs t e (rows (length cs) t).1 refl

-- ---- one row
rows_fewer : (m k : ℕ) (l : List Row) {t : List ℕ} → m ≤ length l → Each (GoodRow k) l → Begins (map row_fields l) t → Each (GoodRow k) (take m l) × Begins (map row_fields (take m l)) t
unfolding Each
rows_fewer zero k l h e b = (tt, any_text)
rows_fewer (suc m) k [] h e b = absurd (omega arith)
rows_fewer (suc m) k (r ∷ l) h e (one-more f b) = let x = rows_fewer m k l (omega arith) e.1 b in ((e.0, x.0), one-more f x.1)

table_fewer : (m : ℕ) (cs : List ℕ) (l : List Row) {t : List ℕ} → m ≤ length l → Good (record { columns = cs; rows = l }) → Begins (heading_fields cs ∷ map row_fields l) t → Leads (suc m) t
unfolding Leads table_of
table_fewer m cs l h g (one-more f b) =
    let x = rows_fewer m (length cs) l h g.good_rows b in (
      record { columns = cs; rows = take m l },
      record { some_column = g.some_column; ascending = g.ascending; columns_below = g.columns_below; good_rows = x.0 },
      length-take-le m l h,
      one-more f x.1,
    )

-- A text that begins with rows begins with fewer.
leads_fewer : (t : List ℕ) (m n : ℕ) → m ≤ n → Leads n t → Leads m t
unfolding Leads table_of
leads_fewer t zero n h l = tt
leads_fewer t (suc m) zero h l = absurd (not-suc-le-zero h)
leads_fewer t (suc m) (suc n) h (s, g, o, b) = table_fewer m s.columns s.rows (omega arith) g b

pub one-row : {text : List ℕ} {a b : ℕ} → Fails text a → Fails text b → a ≡ b
one-row {text} {a} {b} p q = elim (dec_lt p.before q.before) [
  | yes l ↦ absurd (p.stopped (leads_fewer text (suc p.before) q.before l q.led))
  | no d ↦ elim (dec_lt q.before p.before) [
    | yes l ↦ absurd (q.stopped (leads_fewer text (suc q.before) p.before l p.led))
    | no f ↦ (let u = p.place in let v = q.place in omega (arith, d, f))
  ]
]

-- ---- lengths
-- Each row that a text begins with has the two bytes of its line end.
begun-length : {l : List (List (List ℕ))} {t : List ℕ} → Begins l t → 2 * length l ≤ length t
begun-length any_text = omega arith
begun-length (one-more {w = w} {t = t} f b) = let h = begun-length b in omega (arith, length-append w (line_end t))

leads_length : (t : List ℕ) (n : ℕ) → Leads n t → 2 * n ≤ length t
unfolding Leads table_of
leads_length t zero l = omega arith
leads_length t (suc n) (s, g, o, b) = let h = begun-length b in omega (arith, length-map s.rows row_fields)

-- The row of a refusal is at most one more than half the text's bytes.
pub row_bound : {text : List ℕ} {row : ℕ} → Fails text row → (0 < row) × (2 * row ≤ length text + 2)
row_bound {text} f = let p = f.place in let l = leads_length text f.before f.led in (omega arith, omega arith)

-- Each row of a sheet has a role, a comma, a mark and the two bytes of a line end.
records-length : (k : ℕ) (l : List Row) {t : List ℕ} → Each (GoodRow (suc k)) l → Records (map row_fields l) t → 5 * length l ≤ length t
unfolding Each
records-length k [] g r = omega arith
records-length k (x ∷ l) g (one_record {w = w} {t = t} f r) =
    let h = records-length k l g.1 r in
    let a = record_length x.role (map bit x.marks) f in
    let b = g.0.as_many in
    omega (arith, length-append w t, length-map x.marks bit)

columns-length : (cs : List ℕ) (l : List Row) {t : List ℕ} → cs ≢ [] → Each (GoodRow (length cs)) l → Records (map row_fields l) t → 5 * length l ≤ length t
columns-length [] l z g r = absurd (z refl)
columns-length (c ∷ cs) l z g r = records-length (length cs) l g r

-- A sheet has at most a row for each five bytes of its text.
pub rows_bound : {text : List ℕ} {s : Sheet} → Spells text s → 5 * length s.rows ≤ length text
unfolding table_of
rows_bound {text} {s} p =
    let f = parted_file (heading_fields s.columns) (map row_fields s.rows) p.file in
    let a = columns-length s.columns s.rows p.good.some_column p.good.good_rows f.records in
    let b = ap length f.split in
    omega (arith, length-append f.first f.behind)
