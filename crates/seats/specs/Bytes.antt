-- Little-endian numbers in lists of bytes, and what fills a lent buffer.
use Rattle.std.specs.Prelude.{cond, List, [], ◌∷◌, ◌++◌, ℕ, zero, suc, ◌+◌, ◌*◌, ◌/◌, ◌%◌, ◌<◌, get_or, length, drop, leb}

-- The n bytes of a number, little-endian.
unfoldable pub bytes_of : ℕ → ℕ → List ℕ
bytes_of zero x = []
bytes_of (suc n) x = x % 256 ∷ bytes_of n (x / 256)

-- The little-endian number of the n bytes at place i.
unfoldable pub number_at : ℕ → ℕ → List ℕ → ℕ
number_at zero i l = 0
number_at (suc n) i l = get_or l i 0 + 256 * number_at n (suc i) l

-- Every number of the list is a byte.
unfoldable pub Bytes : List ℕ → Type 0
Bytes [] = Unit {0}
Bytes (x ∷ l) = (x < 256) × Bytes l

-- What filling a buffer answers: the length written, or a refusal with its number and place.
pub data Filled : Type 0 where
  written : ℕ → Filled
  too_short : ℕ → ℕ → Filled

-- The bytes at the buffer's front and nothing else touched, or, where the buffer is shorter, refusal n at place 0 and nothing touched.
unfoldable pub fill : ℕ → List ℕ → List ℕ → Filled × List ℕ
fill n bytes buffer =
    cond (leb (length bytes) (length buffer))
    (written (length bytes), bytes ++ drop (length bytes) buffer)
    (too_short n 0, buffer)
