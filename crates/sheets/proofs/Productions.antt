-- The productions of RFC 4180 in parts: a record is a field and those behind commas, a file is a record and those behind line ends.
-- Assumes nothing.
use mathlib.Core.List.{List, [], ◌∷◌, ◌++◌, append-nil}
use mathlib.Core.Path.{◌≡◌, refl, sym, ap, subst}
use Prim.Native.Nat.{ℕ}
use Rattle.sheets.specs.Rfc.{comma, Field, Record, last_field, more_fields, line_end, File, last_record, last_ended, more_records}

-- ---- records
-- *(COMMA field)
pub data Fields : List (List ℕ) → List ℕ → Type 0 where
  no_field : Fields [] []
  one_field : {f w t : List ℕ} {l : List (List ℕ)} → Field f w → Fields l t → Fields (f ∷ l) (comma ∷ (w ++ t))

pub joined_record : {f w t : List ℕ} {l : List (List ℕ)} → Field f w → Fields l t → Record (f ∷ l) (w ++ t)
joined_record {f = f} {w = w} g no_field = subst (λ (m : List ℕ). Record (f ∷ []) m) (sym (append-nil w)) (last_field g)
joined_record g (one_field h i) = more_fields g (joined_record h i)

-- A record's first field, and those behind commas.
pub record PartedRecord (f : List ℕ) (l : List (List ℕ)) (text : List ℕ) : Type 0 where
  pub first : List ℕ
  pub behind : List ℕ
  pub field : Field f first
  pub fields : Fields l behind
  pub split : text ≡ first ++ behind

pub parted_record : (f : List ℕ) (l : List (List ℕ)) {text : List ℕ} → Record (f ∷ l) text → PartedRecord f l text
parted_record f [] (last_field {w = w} g) = record { first = w; behind = []; field = g; fields = no_field; split = sym (append-nil w) }
parted_record f [] (more_fields g h) = absurd (nothing h)
  where
    nothing : {t : List ℕ} → Record [] t → ⊥
    nothing = elim [ ]
parted_record f (d ∷ l) (more_fields {w = w} g h) =
    let p = parted_record d l h in
    record { first = w; behind = comma ∷ (p.first ++ p.behind); field = g; fields = one_field p.field p.fields; split = ap (λ (m : List ℕ). w ++ (comma ∷ m)) p.split }

-- ---- files
-- *(CRLF record) [CRLF]
pub data Records : List (List (List ℕ)) → List ℕ → Type 0 where
  no_record : Records [] []
  last_end : Records [] (line_end [])
  one_record : {r : List (List ℕ)} {l : List (List (List ℕ))} {w t : List ℕ} → Record r w → Records l t → Records (r ∷ l) (line_end (w ++ t))

pub joined_file : {r : List (List ℕ)} {l : List (List (List ℕ))} {w t : List ℕ} → Record r w → Records l t → File (r ∷ l) (w ++ t)
joined_file {r = r} {w = w} h no_record = subst (λ (m : List ℕ). File (r ∷ []) m) (sym (append-nil w)) (last_record h)
joined_file h last_end = last_ended h
joined_file h (one_record f g) = more_records h (joined_file f g)

-- A file's first record, and those behind line ends.
pub record PartedFile (r : List (List ℕ)) (l : List (List (List ℕ))) (text : List ℕ) : Type 0 where
  pub first : List ℕ
  pub behind : List ℕ
  pub top : Record r first
  pub records : Records l behind
  pub split : text ≡ first ++ behind

pub parted_file : (r : List (List ℕ)) (l : List (List (List ℕ))) {text : List ℕ} → File (r ∷ l) text → PartedFile r l text
parted_file r [] (last_record {w = w} h) = record { first = w; behind = []; top = h; records = no_record; split = sym (append-nil w) }
parted_file r [] (last_ended {w = w} h) = record { first = w; behind = line_end []; top = h; records = last_end; split = refl }
parted_file r [] (more_records h f) = absurd (nothing f)
  where
    nothing : {t : List ℕ} → File [] t → ⊥
    nothing = elim [ ]
parted_file r (x ∷ l) (more_records {w = w} h f) =
    let p = parted_file x l f in
    record { first = w; behind = line_end (p.first ++ p.behind); top = h; records = one_record p.top p.records; split = ap (λ (m : List ℕ). w ++ line_end m) p.split }
