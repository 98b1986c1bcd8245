-- The sheet that is read is the one that the text spells, in both directions; where none is, the rows that are read tell the row of the refusal.
-- Assumes nothing.
use mathlib.Core.Bool.{Bool, true, false, cond}
use mathlib.Core.List.{List, [], ◌∷◌, ◌++◌, map}
use mathlib.Core.Path.{◌≡◌, refl, sym, ap, ap₂, ◌∙◌, subst}
use Prim.Native.Nat.{ℕ, zero, suc, ◌+◌, ◌≤◌, ◌<◌}
use native.Mathlib.Omega.{arith}
use lib.ListN.{length}
use lib.Dec.{eqb}
use borrow.Author.Tests.{eq-eqb, ne_eqb, eqb-true, eqb-false}
use Rattle.lists.specs.Runs.{Each}
use Rattle.sheets.specs.Rfc.{Record, line_end, File}
use Rattle.sheets.specs.Sheets.{Row, Sheet, GoodRow, Good, heading_fields, row_fields, table_of, Spells}
use Rattle.sheets.specs.Importing.{Begins, any_text, one-more, Leads, Fails}
use Rattle.sheets.specs.Parsing.{Read, got, bad, row, more, rows_upto, rows, heading}
use Rattle.sheets.proofs.ReadResults.{not_both, nothing_got, no_length}
use Rattle.sheets.proofs.Productions.{Records, no_record, last_end, one_record, joined_file, parted_file}
use Rattle.sheets.proofs.RowReading.{Ending, of_text, of_line, row_sound, row_complete, row_shorter}
use Rattle.sheets.proofs.HeadingReading.{GoodHeading, heading_sound, heading_complete}

-- ---- rows, whatever bounds their number
abbrev pub Found : Type 0
Found = List Row × Bool

rows_fuel : (n m k : ℕ) (l : List ℕ) → length l ≤ n → length l ≤ m → rows_upto n k l ≡ rows_upto m k l
unfolding rows_upto more
rows_fuel zero zero k l h i = refl
rows_fuel zero (suc m) k l h i = rw (eq-eqb (length l) 0 (omega arith))
rows_fuel (suc n) zero k l h i = rw (eq-eqb (length l) 0 (omega arith))
rows_fuel (suc n) (suc m) k l h i = ap (cond (eqb (length l) 0) ([], true)) (by (rows_fuel n m k) (row k l) refl)
  where
    by : ((t : List ℕ) → length t ≤ n → length t ≤ m → rows_upto n k t ≡ rows_upto m k t) → (r : Read Row) → row k l ≡ r → more r (rows_upto n k) ≡ more r (rows_upto m k)
    by again bad e = refl
    by again (got r t) e =
        let s = row_shorter k l e in
        ap (λ (x : Found). (r ∷ x.0, x.1)) (again t (omega arith) (omega arith))

pub rows-end : (k : ℕ) (l : List ℕ) → length l ≡ 0 → rows k l ≡ ([], true)
unfolding rows rows_upto
rows-end k l e = rw e

rows-step : (k : ℕ) (l : List ℕ) → rows k l ≡ cond (eqb (length l) 0) ([], true) (more (row k l) (rows_upto (length l) k))
unfolding rows rows_upto
rows-step k l = rows_fuel (length l) (suc (length l)) k l (omega arith) (omega arith)

pub rows_bad : (k : ℕ) (l : List ℕ) → 0 < length l → row k l ≡ bad → rows k l ≡ ([], false)
unfolding more
rows_bad k l h e = rows-step k l ∙ rw (ne_eqb (length l) 0 (λ z. omega arith), e)

pub rows_next : (k : ℕ) (l : List ℕ) {r : Row} {t : List ℕ} → row k l ≡ got r t → rows k l ≡ (r ∷ (rows k t).0, (rows k t).1)
unfolding more rows
rows_next k l {r} {t} e =
    let s = row_shorter k l e in
    rows-step k l
    ∙ rw (ne_eqb (length l) 0 (λ z. omega arith), e)
    (ap (λ (x : Found). (r ∷ x.0, x.1)) (rows_fuel (length l) (length t) k t (omega arith) (omega arith)))

-- ---- one row, or none
data Seen (k : ℕ) (t : List ℕ) : Type 0 where
  at_the_end : t ≡ [] → rows k t ≡ ([], true) → Seen k t
  at_a_bad : rows k t ≡ ([], false) → Seen k t
  at_a_row : (r : Row) (u : List ℕ) → row k t ≡ got r u → rows k t ≡ (r ∷ (rows k u).0, (rows k u).1) → Seen k t

seen : (k : ℕ) (t : List ℕ) → Seen k t
seen k t = by_length (eqb (length t) 0) refl
  where
    by_row : (length t ≡ 0 → ⊥) → (x : Read Row) → row k t ≡ x → Seen k t
    by_row h bad e = at_a_bad (rows_bad k t (omega arith) e)
    by_row h (got r u) e = at_a_row r u e (rows_next k t e)

    by_length : (b : Bool) → eqb (length t) 0 ≡ b → Seen k t
    by_length true e = let z = eqb-true (length t) 0 e in at_the_end (no_length t z) (rows-end k t z)
    by_length false e = by_row (eqb-false (length t) 0 e) (row k t) refl

whole : {x y : Found} → x ≡ y → x.1 ≡ y.1
whole e = ap (λ (x : Found). x.1) e

-- ---- what is spelt is read
record RowsRead (k : ℕ) (l : List Row) (t : List ℕ) : Type 0 where
  text : List ℕ
  ending : Ending t text
  reads : rows k text ≡ (l, true)

rows_complete : (k : ℕ) (l : List Row) {t : List ℕ} → Each (GoodRow k) l → Records (map row_fields l) t → RowsRead k l t
unfolding Each
rows_complete k [] g no_record = record { text = []; ending = of_text; reads = rows-end k [] refl }
rows_complete k [] g last_end = record { text = []; ending = of_line; reads = rows-end k [] refl }
rows_complete k (r ∷ l) g (one_record {w = w} {t = t} f h) =
    let i = rows_complete k l g.1 h in
    record {
      text = w ++ t;
      ending = of_line;
      reads = rows_next k (w ++ t) (row_complete r g.0 f i.ending) ∙ ap (λ (x : Found). (r ∷ x.0, x.1)) i.reads;
    }

good_heading : {s : Sheet} → Good s → GoodHeading s.columns
good_heading g = record { some_column = g.some_column; ascending = g.ascending; columns_below = g.columns_below }

-- The sheet of a text as it is read.
pub record SheetRead (text : List ℕ) (s : Sheet) : Type 0 where
  pub behind : List ℕ
  pub headed_by : heading text ≡ got s.columns behind
  pub reads : rows (length s.columns) behind ≡ (s.rows, true)

pub spelt_read : {text : List ℕ} {s : Sheet} → Spells text s → SheetRead text s
unfolding table_of
spelt_read {text} {s} p =
    let f = parted_file (heading_fields s.columns) (map row_fields s.rows) p.file in
    let h = rows_complete (length s.columns) s.rows p.good.good_rows f.records in
    record { behind = h.text; headed_by = ap heading f.split ∙ heading_complete s.columns (good_heading p.good) f.top h.ending; reads = h.reads }

-- ---- what is read is spelt
-- These rows are good, and the text is theirs behind a row.
abbrev SpeltRows : ℕ → List Row → List ℕ → Type 0
SpeltRows k l e = Each (GoodRow k) l × Records (map row_fields l) e

no_row_left : (k : ℕ) {e t : List ℕ} → Ending e t → t ≡ [] → SpeltRows k [] e
unfolding Each
no_row_left k of_text z = (tt, no_record)
no_row_left k of_line z = (tt, rw z last_end)

row_behind : {l : List (List (List ℕ))} {r : List (List ℕ)} {e t w v : List ℕ} → Ending e t → t ≡ w ++ v → 0 < length t → Record r w → Records l v → Records (r ∷ l) e
row_behind of_text z h f g = absurd (omega arith)
row_behind of_line z h f g = rw z (one_record f g)

rows_spelt : (n k : ℕ) (t e : List ℕ) → length t ≤ n → (rows k t).1 ≡ true → Ending e t → SpeltRows k (rows k t).0 e
unfolding Each
rows_spelt zero k t e h q i = let z : length t ≡ 0 = omega arith in subst (λ (x : Found). SpeltRows k x.0 e) (sym (rows-end k t z)) (no_row_left k i (no_length t z))
rows_spelt (suc n) k t e h q i = by (rows_spelt n k) (seen k t)
  where
    by : ((t e : List ℕ) → length t ≤ n → (rows k t).1 ≡ true → Ending e t → SpeltRows k (rows k t).0 e) → Seen k t → SpeltRows k (rows k t).0 e
    by again (at_the_end z p) = subst (λ (x : Found). SpeltRows k x.0 e) (sym p) (no_row_left k i z)
    by again (at_a_bad p) = absurd (not_both (sym q ∙ whole p))
    by again (at_a_row r u o p) =
        let f = row_sound k t o in
        let s = row_shorter k t o in
        let g = again u f.end (omega arith) (sym (whole p) ∙ q) f.ending in
        subst (λ (x : Found). SpeltRows k x.0 e) (sym p) ((f.good, g.0), row_behind i f.split (omega arith) f.is_record g.1)

pub read_spelt : {text : List ℕ} {s : Sheet} → SheetRead text s → Spells text s
unfolding table_of
read_spelt {text} {s} d =
    let f = heading_sound text d.headed_by in
    let g = rows_spelt (length d.behind) (length s.columns) d.behind f.end (omega arith) (whole d.reads) f.ending in
    let (good, records) = subst (λ (x : Found). SpeltRows (length s.columns) x.0 f.end) d.reads g in
    record {
      good = record { some_column = f.good.some_column; ascending = f.good.ascending; columns_below = f.good.columns_below; good_rows = good };
      file = subst (File (table_of s)) (sym f.split) (joined_file f.is_record records);
    }

-- ---- the rows that a text begins with
begun_read : (k : ℕ) (l : List Row) {t : List ℕ} → Each (GoodRow k) l → Begins (map row_fields l) t → length l ≤ length (rows k t).0
unfolding Each
begun_read k [] g any_text = omega arith
begun_read k (r ∷ l) g (one-more {w = w} {t = t} f b) =
    let h = begun_read k l g.1 b in
    let p = ap (λ (x : Found). length x.0) (rows_next k (w ++ line_end t) (row_complete r g.0 f of_line)) in
    omega arith

-- The heading that a text begins with, and so many rows.
record Led (n : ℕ) (text : List ℕ) : Type 0 where
  columns : List ℕ
  behind : List ℕ
  headed_by : heading text ≡ got columns behind
  read : n ≤ length (rows (length columns) behind).0

table_led : (cs : List ℕ) (l : List Row) {t : List ℕ} → GoodHeading cs → Each (GoodRow (length cs)) l → Begins (heading_fields cs ∷ map row_fields l) t → Led (length l) t
table_led cs l g e (one-more {t = t} h b) = record { columns = cs; behind = t; headed_by = heading_complete cs g h of_line; read = begun_read (length cs) l e b }

leads_read : (n : ℕ) {text : List ℕ} → Leads (suc n) text → Led n text
unfolding Leads table_of
leads_read n {text} (s, g, o, b) = subst (λ (m : ℕ). Led m text) o (table_led s.columns s.rows (good_heading g) g.good_rows b)

-- These rows are good, and the text begins with them.
abbrev BegunRows : ℕ → List Row → List ℕ → Type 0
BegunRows k l t = Each (GoodRow k) l × Begins (map row_fields l) t

record_begins : {l : List (List (List ℕ))} {r : List (List ℕ)} {w e u t : List ℕ} → Ending e u → (u ≡ [] → ⊥) → t ≡ w ++ e → Record r w → Begins l u → Begins (r ∷ l) t
record_begins of_text z s f g = absurd (z refl)
record_begins of_line z s f g = rw s (one-more f g)

-- Behind rows of which one is bad something is left.
something_left : (k : ℕ) (u : List ℕ) → (rows k u).1 ≡ false → u ≡ [] → ⊥
something_left k u q y = not_both (sym (whole (rows-end k u (ap length y))) ∙ q)

rows_begin : (n k : ℕ) (t : List ℕ) → length t ≤ n → (rows k t).1 ≡ false → BegunRows k (rows k t).0 t
unfolding Each
rows_begin zero k t h q = absurd (something_left k t q (no_length t (omega arith)))
rows_begin (suc n) k t h q = by (rows_begin n k) (seen k t)
  where
    by : ((t : List ℕ) → length t ≤ n → (rows k t).1 ≡ false → BegunRows k (rows k t).0 t) → Seen k t → BegunRows k (rows k t).0 t
    by again (at_the_end z p) = absurd (something_left k t q z)
    by again (at_a_bad p) = subst (λ (x : Found). BegunRows k x.0 t) (sym p) (tt, any_text)
    by again (at_a_row r u o p) =
        let f = row_sound k t o in
        let s = row_shorter k t o in
        let b = sym (whole p) ∙ q in
        let g = again u (omega arith) b in
        subst (λ (x : Found). BegunRows k x.0 t) (sym p) ((f.good, g.0), record_begins f.ending (something_left k u b) f.split f.is_record g.1)

-- ---- refusals
pub no_heading : {text : List ℕ} → heading text ≡ bad → Fails text 1
unfolding Leads
no_heading {text} e = record {
  before = 0;
  place = refl;
  unspelt = λ s p. nothing_got (sym e ∙ (spelt_read p).headed_by);
  led = tt;
  stopped = λ l. nothing_got (sym e ∙ (leads_read 0 l).headed_by);
}

heading_leads : (text cs t : List ℕ) → heading text ≡ got cs t → (rows (length cs) t).1 ≡ false → Leads (suc (length (rows (length cs) t).0)) text
unfolding Leads table_of
heading_leads text cs t e q =
    let f = heading_sound text e in
    let g = rows_begin (length t) (length cs) t (omega arith) q in (
      record { columns = cs; rows = (rows (length cs) t).0 },
      record { some_column = f.good.some_column; ascending = f.good.ascending; columns_below = f.good.columns_below; good_rows = g.0 },
      refl,
      record_begins f.ending (something_left (length cs) t q) f.split f.is_record g.1,
    )

pub bad_row : {text cs t : List ℕ} → heading text ≡ got cs t → (rows (length cs) t).1 ≡ false → Fails text (length (rows (length cs) t).0 + 2)
bad_row {text} {cs} {t} e q = record {
  before = suc (length (rows (length cs) t).0);
  place = omega arith;
  unspelt = λ s p.
      let d = spelt_read p in
      let g = sym e ∙ d.headed_by in
      let a : cs ≡ s.columns = cc in
      let b : t ≡ d.behind = cc in
      not_both (sym (whole d.reads) ∙ sym (ap₂ (λ (x y : List ℕ). (rows (length x) y).1) a b) ∙ q);
  led = heading_leads text cs t e q;
  stopped = λ l.
      let d = leads_read (suc (length (rows (length cs) t).0)) l in
      let g = sym e ∙ d.headed_by in
      let a : cs ≡ d.columns = cc in
      let b : t ≡ d.behind = cc in
      let c = ap₂ (λ (x y : List ℕ). length (rows (length x) y).0) a b in
      let h = d.read in
      omega arith;
}
