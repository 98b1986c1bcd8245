-- The headings that are read are the headings of a sheet, in both directions.
-- Assumes nothing.
use mathlib.Core.Bool.{Bool, true, false, cond, ◌&&◌}
use mathlib.Core.List.{List, [], ◌∷◌, ◌++◌, append_assoc, map}
use mathlib.Core.Logic.{◌⊎◌, inl, inr, ◌≢◌}
use mathlib.Core.Path.{◌≡◌, refl, sym, ap, ◌∙◌, subst}
use Prim.Native.Nat.{ℕ, zero, suc, ◌+◌, ◌≤◌, ◌<◌}
use native.Mathlib.Omega.{arith}
use lib.ListN.{length, drop}
use lib.Dec.{eqb, leb}
use borrow.Author.Tests.{le-leb, lt-leb, ne_eqb, leb-true, eqb-true, eqb-false}
use Rattle.lists.specs.Runs.{Each}
use Rattle.graph.specs.Graph.{privilege_count}
use Rattle.seats.specs.Tape.{digits}
use Rattle.sheets.specs.Rfc.{comma, quote, Field, Record}
use Rattle.sheets.specs.Sheets.{Ascending, heading_fields}
use Rattle.sheets.specs.Parsing.{got, bad, and_then, head, value, field, ended, fronted, columns, opened, at_end, heading}
use Rattle.sheets.proofs.ReadResults.{nothing_got, passed, by_test, in_steps, in_front, and_both, begins_with, begins_with_two}
use Rattle.sheets.proofs.Productions.{Fields, no_field, one_field, joined_record, parted_record}
use Rattle.sheets.proofs.DigitFields.{no_digits, plain-field, quoted_field, either_field}
use Rattle.sheets.proofs.NumberReading.{field_sound, field_complete}
use Rattle.sheets.proofs.RowReading.{Ending, ended_sound, ended_complete, ending_digit, ending_comma, fields-digit}

-- ---- ascending from a number on
unfoldable Rising : ℕ → List ℕ → Type 0
Rising low [] = Unit {0}
Rising low (n ∷ l) = (low ≤ n) × Rising (suc n) l

ascending_rising : (low x : ℕ) (l : List ℕ) → low ≤ x → Ascending (x ∷ l) → Rising low (x ∷ l)
unfolding Ascending Rising
ascending_rising low x [] h a = (h, tt)
ascending_rising low x (y ∷ l) h a = (h, ascending_rising (suc x) y l a.0 a.1)

rising : (l : List ℕ) → Ascending l → Rising 0 l
unfolding Rising
rising [] a = tt
rising (x ∷ l) a = ascending_rising 0 x l (omega arith) a

rising_ascending : (low : ℕ) (l : List ℕ) → Rising low l → Ascending l
unfolding Ascending Rising
rising_ascending low [] r = tt
rising_ascending low (x ∷ []) r = tt
rising_ascending low (x ∷ y ∷ l) r = (r.1.0, rising_ascending (suc x) (y ∷ l) r.1)

-- No more columns than there are numbers from low on.
rising_length : (low : ℕ) (l : List ℕ) → Each (λ c. c < privilege_count) l → Rising low l → low ≤ privilege_count → length l + low ≤ privilege_count
unfolding Rising Each
rising_length low [] b r h = omega arith
rising_length low (n ∷ l) b r h =
    let x = b.0 in
    let y = r.0 in
    let c = rising_length (suc n) l b.1 r.1 (omega arith) in
    omega arith

-- ---- columns
-- One law for each way that columns are read.
module _ (low : ℕ) (l : List ℕ) where
  module _ (h : head l ≡ comma) (k : ℕ) where
    pub columns_bad : field privilege_count (drop 1 l) ≡ bad → columns k low l ≡ bad
    unfolding columns and_then
    columns_bad e = by k
      where
        by : (k : ℕ) → columns k low l ≡ bad
        by zero = rw h
        by (suc k) = rw (h, e)

    module _ {n : ℕ} {t : List ℕ} (e : field privilege_count (drop 1 l) ≡ got n t) where
      pub columns_low : n < low → columns k low l ≡ bad
      unfolding columns and_then
      columns_low z = by k
        where
          by : (k : ℕ) → columns k low l ≡ bad
          by zero = rw h
          by (suc k) = rw (h, e, lt-leb low n z)

      pub columns_next : low ≤ n → columns (suc k) low l ≡ fronted n (columns k (suc n) t)
      unfolding columns and_then
      columns_next z = rw (h, e, le-leb low n z)

  pub columns_end : (k : ℕ) → (head l ≡ comma → ⊥) → columns k low l ≡ got [] l
  unfolding columns
  columns_end zero h = rw (ne_eqb (head l) comma h)
  columns_end (suc k) h = rw (ne_eqb (head l) comma h)

-- Columns that were read: their text, and that each is a privilege above the one before.
record ColumnsFound (low : ℕ) (l cs t : List ℕ) : Type 0 where
  word : List ℕ
  fields : Fields (map digits cs) word
  below : Each (λ c. c < privilege_count) cs
  rises : Rising low cs
  split : l ≡ word ++ t

no_columns : {low : ℕ} {l cs t : List ℕ} → got [] l ≡ got cs t → ColumnsFound low l cs t
unfolding Each Rising
no_columns {low} {l} {cs} {t} e =
    let a : [] ≡ cs = cc in
    let b : l ≡ t = cc in
    subst (λ (x : List ℕ). ColumnsFound low l x t) a (record { word = []; fields = no_field; below = tt; rises = tt; split = b })

one_column : {low n : ℕ} {l w u m t : List ℕ} → head l ≡ comma → drop 1 l ≡ w ++ u → Field (digits n) w → n < privilege_count → low ≤ n → ColumnsFound (suc n) u m t → ColumnsFound low l (n ∷ m) t
unfolding Each Rising
one_column {l = l} {w = w} {t = t} h s f b r c = record {
  word = comma ∷ (w ++ c.word);
  fields = one_field f c.fields;
  below = (b, c.below);
  rises = (r, c.rises);
  split = begins_with l h (omega arith) ∙ ap (λ (m : List ℕ). comma ∷ m) (s ∙ ap (λ (x : List ℕ). w ++ x) c.split ∙ sym (append_assoc w c.word t));
}

columns_sound : (k low : ℕ) (l : List ℕ) {cs t : List ℕ} → columns k low l ≡ got cs t → ColumnsFound low l cs t
unfolding columns
columns_sound zero low l {cs} {t} e = by (by_test (eqb (head l) comma) e)
  where
    by : ((eqb (head l) comma ≡ true) × (bad ≡ got cs t)) ⊎ ((eqb (head l) comma ≡ false) × (got [] l ≡ got cs t)) → ColumnsFound low l cs t
    by (inl g) = absurd (nothing_got g.1)
    by (inr g) = no_columns g.1
columns_sound (suc k) low l {cs} {t} e = by (λ n u m i. columns_sound k n u i) (by_test (eqb (head l) comma) e)
  where
    by : ((n : ℕ) (u m : List ℕ) → columns k n u ≡ got m t → ColumnsFound n u m t)
        → ((eqb (head l) comma ≡ true) × (and_then (field privilege_count (drop 1 l)) (λ n t. cond (leb low n) (fronted n (columns k (suc n) t)) bad) ≡ got cs t)) ⊎ ((eqb (head l) comma ≡ false) × (got [] l ≡ got cs t))
        → ColumnsFound low l cs t
    by again (inl g) =
        let (n, u, p, q) = in_steps (field privilege_count (drop 1 l)) _ g.1 in
        let (w, f, b, s) = field_sound privilege_count (drop 1 l) p in
        let h = passed (leb low n) q in
        let (m, i, j) = in_front n (columns k (suc n) u) h.1 in
        subst (λ (x : List ℕ). ColumnsFound low l x t) (sym j) (one_column (eqb-true (head l) comma g.0) s f b (leb-true low n h.0) (again (suc n) u m i))
    by again (inr g) = no_columns g.1

columns_complete : (k low : ℕ) (cs : List ℕ) {w : List ℕ} (t : List ℕ) → Fields (map digits cs) w → Each (λ c. c < privilege_count) cs → Rising low cs → length cs ≤ k → (head t ≡ comma → ⊥) → value (head t) ≡ 10 → columns k low (w ++ t) ≡ got cs t
unfolding Each Rising fronted
columns_complete k low [] t no_field b r h c e = columns_end low t k c
columns_complete zero low (n ∷ cs) t (one_field f g) b r h c e = absurd (omega arith)
columns_complete (suc k) low (n ∷ cs) t (one_field {w = w} {t = v} f g) b r h c e =
    rw (append_assoc w v t)
    (columns_next low (comma ∷ (w ++ (v ++ t))) refl k (field_complete privilege_count (v ++ t) b.0 f (fields-digit t g e)) r.0
    ∙ rw (columns_complete k (suc n) cs t g b.1 r.1 (omega arith) c e))

-- ---- the first field
opened_sound : (l : List ℕ) → (w : List ℕ) × Field [] w × (l ≡ w ++ opened l)
unfolding opened
opened_sound l = by (eqb (head l) quote && eqb (head (drop 1 l)) quote) refl
  where
    by : (b : Bool) → eqb (head l) quote && eqb (head (drop 1 l)) quote ≡ b → (w : List ℕ) × Field [] w × (l ≡ w ++ cond b (drop 2 l) l)
    by true e =
        let q = and_both (eqb (head l) quote) (eqb (head (drop 1 l)) quote) e in
        (quote ∷ quote ∷ [], quoted_field [] no_digits, begins_with_two l (eqb-true (head l) quote q.0) (omega arith) (eqb-true (head (drop 1 l)) quote q.1) (omega arith))
    by false e = ([], plain-field [] no_digits, refl)

opened_complete : {w : List ℕ} (t : List ℕ) → Field [] w → head t ≡ comma → opened (w ++ t) ≡ t
unfolding opened
opened_complete {w} t f e = elim (either_field no_digits f) [
  | inl p ↦ rw (p, ne_eqb (head t) quote (λ z. omega arith))
  | inr p ↦ rw p
]

-- ---- the heading
-- What makes a heading of columns.
pub record GoodHeading (cs : List ℕ) : Type 0 where
  pub some_column : cs ≢ []
  pub ascending : Ascending cs
  pub columns_below : Each (λ c. c < privilege_count) cs

-- A heading that was read: its text, and the end of its line.
pub record HeadingRead (l cs t : List ℕ) : Type 0 where
  pub word : List ℕ
  pub end : List ℕ
  pub good : GoodHeading cs
  pub is_record : Record (heading_fields cs) word
  pub split : l ≡ word ++ end
  pub ending : Ending end t

pub heading_sound : (l : List ℕ) {cs t : List ℕ} → heading l ≡ got cs t → HeadingRead l cs t
unfolding heading at_end
heading_sound l {cs} {t} e =
    let (ds, u, p, q) = in_steps (columns privilege_count 0 (opened l)) _ e in
    by ds u (columns_sound privilege_count 0 (opened l) p) (by_test (eqb (length ds) 0) q)
  where
    by : (ds u : List ℕ) → ColumnsFound 0 (opened l) ds u → ((eqb (length ds) 0 ≡ true) × (bad ≡ got cs t)) ⊎ ((eqb (length ds) 0 ≡ false) × (and_then (ended u) (λ z t. got ds t) ≡ got cs t)) → HeadingRead l cs t
    by ds u c (inl h) = absurd (nothing_got h.1)
    by ds u c (inr h) =
        let (z, x, i, j) = in_steps (ended u) _ h.1 in
        let (w, f, o) = opened_sound l in
        let a : ds ≡ cs = cc in
        let b : x ≡ t = cc in
        subst (λ (y : List ℕ). HeadingRead l y t) a (record {
          word = w ++ c.word;
          end = u;
          good = record { some_column = λ n. eqb-false (length ds) 0 h.0 (ap length n); ascending = rising_ascending 0 ds c.rises; columns_below = c.below };
          is_record = joined_record f c.fields;
          split = o ∙ ap (λ (x : List ℕ). w ++ x) c.split ∙ sym (append_assoc w c.word u);
          ending = subst (λ (y : List ℕ). Ending u y) b (ended_sound u i);
        })

fields-comma : {f : List ℕ} {l : List (List ℕ)} {v : List ℕ} (t : List ℕ) → Fields (f ∷ l) v → head (v ++ t) ≡ comma
fields-comma t (one_field f g) = refl

pub heading_complete : (cs : List ℕ) {w l t : List ℕ} → GoodHeading cs → Record (heading_fields cs) w → Ending l t → heading (w ++ l) ≡ got cs t
unfolding heading and_then at_end
heading_complete [] g h e = absurd (g.some_column refl)
heading_complete (c ∷ cs) {l = l} g h e =
    let p = parted_record [] (map digits (c ∷ cs)) h in
    let r = rising (c ∷ cs) g.ascending in
    let n = rising_length 0 (c ∷ cs) g.columns_below r (omega arith) in
    rw (p.split, append_assoc p.first p.behind l, opened_complete (p.behind ++ l) p.field (fields-comma l p.fields), columns_complete privilege_count 0 (c ∷ cs) l p.fields g.columns_below r (omega arith) (ending_comma e) (ending_digit e), ne_eqb (suc (length cs)) 0 (λ z. omega arith), ended_complete e)
