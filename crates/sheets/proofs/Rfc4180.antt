-- RFC 4180 by examples after those of its section 2, and TEXTDATA in one sentence.
-- Assumes nothing.
use mathlib.Core.List.{[], ◌∷◌}
use mathlib.Core.Logic.{◌≢◌}
use Prim.Native.Nat.{ℕ, ◌≤◌}
use native.Mathlib.Decide.{dec_lt}
use native.Mathlib.Omega.{arith}
use Rattle.seats.specs.Tape.{line_feed}
use Rattle.sheets.specs.Rfc.{comma, quote, carriage_return, TextData, before_quote, before_comma, behind_comma, no_text, one_text, no_more, more_text, more_comma, more_return, more_feed, two_quotes, Field, non_escaped, escaped, Record, last_field, more_fields}

-- TEXTDATA is each byte from the space to the tilde but the quote and the comma.
text_data : {x : ℕ} → TextData x → (32 ≤ x) × (x ≤ 126) × (x ≢ quote) × (x ≢ comma)
text_data (before_quote h k) = (h, omega arith, λ e. omega arith, λ e. omega arith)
text_data (before_comma h k) = (omega arith, omega arith, λ e. omega arith, λ e. omega arith)
text_data (behind_comma h k) = (omega arith, k, λ e. omega arith, λ e. omega arith)

data_text : (x : ℕ) → 32 ≤ x → x ≤ 126 → x ≢ quote → x ≢ comma → TextData x
data_text x h k q c = elim (dec_lt x quote) [
  | yes l ↦ before_quote h (omega arith)
  | no l ↦ elim (dec_lt x comma) [ yes m ↦ before_comma (omega (arith, l, q)) (omega arith) | no m ↦ behind_comma (omega (arith, m, c)) k ]
]

-- a and b are TEXTDATA.
a_text : TextData 97
a_text = behind_comma (omega arith) (omega arith)

b_text : TextData 98
b_text = behind_comma (omega arith) (omega arith)

-- aaa, plain and between quotes.
three : Field (97 ∷ 97 ∷ 97 ∷ []) (97 ∷ 97 ∷ 97 ∷ [])
three = non_escaped (one_text a_text (one_text a_text (one_text a_text no_text)))

three_quoted : Field (97 ∷ 97 ∷ 97 ∷ []) (quote ∷ 97 ∷ 97 ∷ 97 ∷ quote ∷ [])
three_quoted = escaped (more_text a_text (more_text a_text (more_text a_text no_more)))

-- "aaa","b CRLF bb" : a line end between quotes is content.
line_end_inside : Record ((97 ∷ 97 ∷ 97 ∷ []) ∷ (98 ∷ carriage_return ∷ line_feed ∷ 98 ∷ 98 ∷ []) ∷ [])
    (quote ∷ 97 ∷ 97 ∷ 97 ∷ quote ∷ comma ∷ quote ∷ 98 ∷ carriage_return ∷ line_feed ∷ 98 ∷ 98 ∷ quote ∷ [])
line_end_inside = more_fields three_quoted (last_field (escaped (more_text b_text (more_return (more_feed (more_text b_text (more_text b_text no_more)))))))

-- aaa,"b""bb" : two quotes between quotes stand for one.
quote_inside : Record ((97 ∷ 97 ∷ 97 ∷ []) ∷ (98 ∷ quote ∷ 98 ∷ 98 ∷ []) ∷ []) (97 ∷ 97 ∷ 97 ∷ comma ∷ quote ∷ 98 ∷ quote ∷ quote ∷ 98 ∷ 98 ∷ quote ∷ [])
quote_inside = more_fields three (last_field (escaped (more_text b_text (two_quotes (more_text b_text (more_text b_text no_more))))))

-- "a,a" : a comma between quotes is content.
comma_inside : Record ((97 ∷ comma ∷ 97 ∷ []) ∷ []) (quote ∷ 97 ∷ comma ∷ 97 ∷ quote ∷ [])
comma_inside = last_field (escaped (more_text a_text (more_comma (more_text a_text no_more))))
