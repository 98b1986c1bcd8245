-- RFC 4180, section 2: the text of a field, a record and a file, production by production, each beside the content that it stands for.
use Rattle.std.specs.Prelude.{List, [], ◌∷◌, ◌++◌, ℕ, ◌≤◌}
use Rattle.seats.specs.Tape.{line_feed}

abbrev pub comma : ℕ
comma = 44

abbrev pub quote : ℕ
quote = 34

abbrev pub carriage_return : ℕ
carriage_return = 13

-- TEXTDATA = %x20-21 / %x23-2B / %x2D-7E: from the space to the tilde, but no quote and no comma.
pub data TextData (x : ℕ) : Type 0 where
  before_quote : 32 ≤ x → x ≤ 33 → TextData x
  before_comma : 35 ≤ x → x ≤ 43 → TextData x
  behind_comma : 45 ≤ x → x ≤ 126 → TextData x

-- non-escaped = *TEXTDATA: it is its own content.
pub data NonEscaped : List ℕ → Type 0 where
  no_text : NonEscaped []
  one_text : {x : ℕ} {w : List ℕ} → TextData x → NonEscaped w → NonEscaped (x ∷ w)

-- *(TEXTDATA / COMMA / CR / LF / 2DQUOTE): the content between two quotes, and its text; two quotes stand for one.
pub data Escaped : List ℕ → List ℕ → Type 0 where
  no_more : Escaped [] []
  more_text : {x : ℕ} {w t : List ℕ} → TextData x → Escaped w t → Escaped (x ∷ w) (x ∷ t)
  more_comma : {w t : List ℕ} → Escaped w t → Escaped (comma ∷ w) (comma ∷ t)
  more_return : {w t : List ℕ} → Escaped w t → Escaped (carriage_return ∷ w) (carriage_return ∷ t)
  more_feed : {w t : List ℕ} → Escaped w t → Escaped (line_feed ∷ w) (line_feed ∷ t)
  two_quotes : {w t : List ℕ} → Escaped w t → Escaped (quote ∷ w) (quote ∷ quote ∷ t)

-- field = escaped / non-escaped, escaped = DQUOTE .. DQUOTE.
pub data Field : List ℕ → List ℕ → Type 0 where
  non_escaped : {w : List ℕ} → NonEscaped w → Field w w
  escaped : {w t : List ℕ} → Escaped w t → Field w (quote ∷ (t ++ (quote ∷ [])))

-- record = field *(COMMA field): the contents of the fields, and the text.
pub data Record : List (List ℕ) → List ℕ → Type 0 where
  last_field : {f w : List ℕ} → Field f w → Record (f ∷ []) w
  more_fields : {f w t : List ℕ} {l : List (List ℕ)} → Field f w → Record l t → Record (f ∷ l) (w ++ (comma ∷ t))

-- CRLF, and the text behind it.
abbrev pub line_end : List ℕ → List ℕ
line_end t = carriage_return ∷ line_feed ∷ t

-- file = record *(CRLF record) [CRLF]: the contents of the records, a header's among them, and the text.
pub data File : List (List (List ℕ)) → List ℕ → Type 0 where
  last_record : {r : List (List ℕ)} {w : List ℕ} → Record r w → File (r ∷ []) w
  last_ended : {r : List (List ℕ)} {w : List ℕ} → Record r w → File (r ∷ []) (w ++ line_end [])
  more_records : {r : List (List ℕ)} {l : List (List (List ℕ))} {w t : List ℕ} → Record r w → File l t → File (r ∷ l) (w ++ line_end t)
