-- Rows read one after the other: how many there are, and their records.
-- Assumes nothing.
use mathlib.Core.Bool.{Bool, true, false}
use mathlib.Core.List.{List, [], ◌∷◌, ◌++◌, append_assoc, append-nil}
use mathlib.Core.Path.{◌≡◌, refl, sym, ap, ◌∙◌, subst}
use Prim.Native.Nat.{ℕ, ◌+◌, ◌-◌, ◌*◌, ◌≤◌, ◌<◌}
use native.Mathlib.Decide.{dec_lt}
use native.Mathlib.Omega.{arith}
use lib.ListN.{length, take, drop, length-append, length-drop, drop_of_length-le}
use lib.Seq.{sets-eq, take_all, drop-drop}
use lib.Dec.{eqb}
use borrow.Author.Tests.{le-leb, eqb-true, eqb-false}
use Rattle.std.specs.Prelude.{Ok, Err}
use Rattle.seats.specs.Bytes.{Filled, written, fill}
use Rattle.seats.specs.Records.{record_length}
use Rattle.seats.specs.Tape.{joined}
use Rattle.seats.specs.Written.{Written}
use Rattle.seats.proofs.RecordBytes.{length_record}
use Rattle.seats.proofs.Written.{Unwritten, unwritten_all, unwritten_length, unwritten_next, unwritten_none, piece_room}
use Rattle.sheets.specs.Sheets.{Row, record_with}
use Rattle.sheets.specs.Parsing.{Read, got, bad, row, rows}
use Rattle.sheets.specs.Working.{counted, known_set, meant, known_records}
use Rattle.sheets.specs.declared.ImportError.TheVariants.{BadRow}
use Rattle.sheets.proofs.ReadResults.{nothing_got}
use Rattle.sheets.proofs.RowReading.{row_shorter}
use Rattle.sheets.proofs.SheetReading.{Found, rows-end, rows_bad, rows_next}

-- ---- what the code read
meant_bad : (cs : List ℕ) (x : Read Row) → bad ≡ meant cs x → x ≡ bad
unfolding meant
meant_bad cs bad e = refl
meant_bad cs (got r t) e = absurd (nothing_got e)

-- A row read, with its role and set.
record Met (cs : List ℕ) (x : Read Row) (role set : ℕ) (t : List ℕ) : Type 0 where
  met : Row
  is_got : x ≡ got met t
  role_is : met.role ≡ role
  set_is : known_set cs met.marks ≡ set

meant_got : (cs : List ℕ) (x : Read Row) {role set : ℕ} {t : List ℕ} → got (role, set) t ≡ meant cs x → Met cs x role set t
unfolding meant
meant_got cs bad e = absurd (nothing_got (sym e))
meant_got cs (got r u) {role} {set} {t} e =
    let a : u ≡ t = cc in
    let p : ◌≡◌ {A = ℕ × ℕ} (role, set) (r.role, known_set cs r.marks) = cc in
    record { met = r; is_got = ap (got r) a; role_is = sym (ap (λ (y : ℕ × ℕ). y.0) p); set_is = sym (ap (λ (y : ℕ × ℕ). y.1) p) }

module _ (cs : List ℕ) (k : ℕ) (t : List ℕ) where
  no_row : bad ≡ meant cs (row k t) → 0 < length t → rows k t ≡ ([], false)
  no_row e h = rows_bad k t h (meant_bad cs (row k t) e)

  -- Where no row is read, none is left: the text is at its end, or the next row is bad.
  pub no_rows : bad ≡ meant cs (row k t) → (rows k t).0 ≡ []
  no_rows e = elim (dec_lt 0 (length t)) [
    | yes h ↦ ap (λ (x : Found). x.0) (no_row e h)
    | no d ↦ ap (λ (x : Found). x.0) (rows-end k t (omega (arith, d)))
  ]

  module _ {role set : ℕ} {u : List ℕ} (e : got (role, set) u ≡ meant cs (row k t)) where
    a_row : Met cs (row k t) role set u
    a_row = meant_got cs (row k t) e

    pub row_falls : length u < length t
    row_falls = row_shorter k t a_row.is_got

-- ---- counting
-- So many rows were counted, and those that are left make up the whole.
pub record Counting (s : List ℕ) (k n : ℕ) (t : List ℕ) : Type 0 where
  pub room : n + length t ≤ length s
  pub same : length (rows k s).0 ≡ n + length (rows k t).0
  pub whole : (rows k s).1 ≡ (rows k t).1

module _ {s : List ℕ} {k n : ℕ} {t : List ℕ} (c : Counting s k n t) where
  -- Nothing is left, or a bad row.
  all_counted : {b : Bool} → rows k t ≡ ([], b) → length (rows k s).0 ≡ n
  all_counted z = let a = ap (λ (x : Found). length x.0) z in let b = c.same in omega arith

  pub counting_bad : (cs : List ℕ) → bad ≡ meant cs (row k t) → false ≡ eqb (length t) 0 → Err (BadRow (n + 2)) ≡ counted (rows k s)
  unfolding counted
  counting_bad cs e h =
      let i = eqb-false (length t) 0 (sym h) in
      let z = no_row cs k t e (omega arith) in
      rw (c.whole ∙ ap (λ (x : Found). x.1) z, all_counted z)

  pub counting_done : true ≡ eqb (length t) 0 → Ok n ≡ counted (rows k s)
  unfolding counted
  counting_done h = let z = rows-end k t (eqb-true (length t) 0 (sym h)) in rw (c.whole ∙ ap (λ (x : Found). x.1) z, all_counted z)

  pub counting_next : (cs : List ℕ) {role set : ℕ} {u : List ℕ} → got (role, set) u ≡ meant cs (row k t) → Counting s k (n + 1) u
  counting_next cs e =
      let z = rows_next k t (a_row cs k t e).is_got in
      let a = c.same ∙ ap (λ (x : Found). n + length x.0) z in
      let o = c.room in
      let l = row_falls cs k t e in
      record { room = omega arith; same = omega arith; whole = c.whole ∙ ap (λ (x : Found). x.1) z }

-- ---- writing
pub length-records : (cs : List ℕ) (l : List Row) → length (known_records cs l) ≡ record_length * length l
unfolding known_records joined
length-records cs [] = refl
length-records cs (r ∷ l) =
    let a = length-records cs l in
    let one = record_with r.role (known_set cs r.marks) in
    let b = length_record 2 (record { a = r.role; b = 0; x = known_set cs r.marks; y = 0; z = 0 }) in
    length-append one (known_records cs l) ∙ omega arith

-- The records of the rows that are left are left to write, and there was room for all.
pub record Taping (s cs : List ℕ) (k : ℕ) (old tape : List ℕ) (to : ℕ) (t : List ℕ) : Type 0 where
  pub room : length (known_records cs (rows k s).0) ≤ length old
  pub unwritten : Unwritten old 0 (known_records cs (rows k s).0) tape to (known_records cs (rows k t).0)

pub taping_start : (s cs : List ℕ) (k : ℕ) (old : List ℕ) → record_length * length (rows k s).0 ≤ length old → Taping s cs k old old 0 s
taping_start s cs k old h = let l = length-records cs (rows k s).0 in record { room = omega arith; unwritten = unwritten_all old 0 _ }

pub taping_length : {s cs old tape t : List ℕ} {k to : ℕ} → Taping s cs k old tape to t → length tape ≡ length old
taping_length w = unwritten_length w.unwritten

-- What fills the part of a list from a place on is written there.
part_filled : (n : ℕ) (l Y w : List ℕ) (i : ℕ) {f : Filled} → i + length w ≤ length l → (f, Y) ≡ fill n w (take (length l - i) (drop i l))
    → Written l i w (take i l ++ (Y ++ drop (length l - i) (drop i l))) (i + length w)
unfolding fill
part_filled n l Y w i {f} h e =
    let d = length-drop i l in
    let t : take (length l - i) (drop i l) ≡ drop i l = take_all (length l - i) (drop i l) (omega arith) in
    let g : ◌≡◌ {A = Filled × List ℕ} (f, Y) (written (length w), w ++ drop (length w) (drop i l)) = e ∙ rw (t, le-leb (length w) (length (drop i l)) (omega arith)) in
    let y : Y ≡ w ++ drop (i + length w) l = ap (λ (z : Filled × List ℕ). z.1) g ∙ ap (λ (m : List ℕ). w ++ m) (drop-drop (length w) i l) in
    let z : drop (length l - i) (drop i l) ≡ [] = drop_of_length-le (drop i l) {i = length l - i} (omega arith) in
    record { list = rw (z, append-nil Y, y) (sym (sets-eq w l i h ∙ append_assoc (take i l) w (drop (i + length w) l))); place = refl }

module _ {s cs old tape t : List ℕ} {k to : ℕ} (w : Taping s cs k old tape to t) where
  pub taping_done : bad ≡ meant cs (row k t) → Written old 0 (known_records cs (rows k s).0) tape to
  unfolding known_records joined
  taping_done e =
      unwritten_none (subst (λ (l : List Row). Unwritten old 0 (known_records cs (rows k s).0) tape to (known_records cs l)) (no_rows cs k t e) w.unwritten)

  module _ {role set : ℕ} {u : List ℕ} (e : got (role, set) u ≡ meant cs (row k t)) where
    abbrev one : List ℕ
    one = record_with role set

    left : Unwritten old 0 (known_records cs (rows k s).0) tape to (one ++ known_records cs (rows k u).0)
    unfolding known_records joined
    left =
        let m = a_row cs k t e in
        let z = rows_next k t m.is_got in
        let v = subst (λ (x : Found). Unwritten old 0 (known_records cs (rows k s).0) tape to (known_records cs x.0)) z w.unwritten in
        subst (λ (x : ℕ). Unwritten old 0 (known_records cs (rows k s).0) tape to (record_with x set ++ known_records cs (rows k u).0)) m.role_is
        (subst (λ (x : ℕ). Unwritten old 0 (known_records cs (rows k s).0) tape to (record_with m.met.role x ++ known_records cs (rows k u).0)) m.set_is v)

    one_length : length one ≡ record_length
    one_length = length_record 2 (record { a = role; b = 0; x = set; y = 0; z = 0 })

    pub taping_room : to + record_length ≤ length tape
    taping_room =
        let a = piece_room one (known_records cs (rows k u).0) left (let r = w.room in omega arith) in
        let b = one_length in
        omega arith

    pub taping_next : (Y : List ℕ) {r : Filled} → (r, Y) ≡ fill 9 one (take (length tape - to) (drop to tape))
        → Taping s cs k old (take to tape ++ (Y ++ drop (length tape - to) (drop to tape))) (to + record_length) u
    taping_next Y g =
        let b = one_length in
        let o = taping_room in
        let p = part_filled 9 tape Y one to (omega arith) g in
        record {
          room = w.room;
          unwritten = unwritten_next one (known_records cs (rows k u).0) left (subst (λ (n : ℕ). Written tape to one (take to tape ++ (Y ++ drop (length tape - to) (drop to tape))) (to + n)) b p);
        }
