-- The sheet of a text, computed: each function gives what it reads and the text behind it. The contracts of private functions alone speak of it.
use Rattle.std.specs.Prelude.{Bool, true, false, cond, ◌&&◌, List, [], ◌∷◌, ℕ, zero, suc, ◌+◌, ◌-◌, ◌*◌, length, get_or, drop, eqb, leb, ltb}
use Rattle.graph.specs.Graph.{role_count, privilege_count}
use Rattle.seats.specs.Tape.{line_feed}
use Rattle.sheets.specs.Rfc.{comma, quote, carriage_return}
use Rattle.sheets.specs.Sheets.{Row}

-- What was read, with the text behind it; or nothing.
pub data Read (X : Type 0) : Type 0 where
  got : X → List ℕ → Read X
  bad : Read X

-- What is read next, where something was read.
unfoldable pub and_then : {X Y : Type 0} → Read X → (X → List ℕ → Read Y) → Read Y
and_then bad f = bad
and_then (got x l) f = f x l

-- The first byte of a text; 0 where there is none.
abbrev pub head : List ℕ → ℕ
head l = get_or l 0 0

-- What a text has from a place on.
unfoldable pub rest : List ℕ → ℕ → List ℕ
rest s at = drop at s

-- The value of a digit; 10 for any other byte.
unfoldable pub value : ℕ → ℕ
value x = cond (leb 48 x && leb x 57) (x - 48) 10

-- The number below the limit whose first digits make v, with the digits that follow.
unfoldable pub longer : ℕ → ℕ → List ℕ → Read ℕ
longer limit v [] = got v []
longer limit v (x ∷ l) =
    cond (ltb (value x) 10)
    (cond (ltb (10 * v + value x) limit) (longer limit (10 * v + value x) l) bad)
    (got v (x ∷ l))

-- A number below the limit in base ten, without leading zeros; its first digit is a.
unfoldable pub begun : ℕ → ℕ → List ℕ → Read ℕ
begun limit a l = cond (ltb a 10) (cond (ltb a limit) (cond (eqb a 0) (got 0 l) (longer limit a l)) bad) bad

unfoldable pub plain : ℕ → List ℕ → Read ℕ
plain limit l = begun limit (value (head l)) (drop 1 l)

-- A mark: the digit 0 or 1.
unfoldable pub binary : List ℕ → Read ℕ
binary l = cond (ltb (value (head l)) 2) (got (value (head l)) (drop 1 l)) bad

-- The closing quote behind a number.
unfoldable pub closed : ℕ → List ℕ → Read ℕ
closed n l = cond (eqb (head l) quote) (got n (drop 1 l)) bad

-- What f reads, plain or between quotes.
unfoldable pub quotable : (List ℕ → Read ℕ) → List ℕ → Read ℕ
quotable f l = cond (eqb (head l) quote) (and_then (f (drop 1 l)) closed) (f l)

-- The field of a number below the limit.
abbrev pub field : ℕ → List ℕ → Read ℕ
field limit = quotable (plain limit)

-- The field of a mark behind a comma.
unfoldable pub further : List ℕ → Read ℕ
further l = cond (eqb (head l) comma) (quotable binary (drop 1 l)) bad

-- The end of a line: the end of the text, or a line end.
unfoldable pub ended : List ℕ → Read (Unit {0})
ended l =
    cond (eqb (length l) 0) (got tt l)
    (cond (eqb (head l) carriage_return && eqb (head (drop 1 l)) line_feed) (got tt (drop 2 l)) bad)

-- One thing more in front of what was read.
unfoldable pub fronted : {X : Type 0} → X → Read (List X) → Read (List X)
fronted x bad = bad
fronted x (got l t) = got (x ∷ l) t

-- At most k columns, each from low on and above the one before, as long as a comma follows.
unfoldable pub columns : ℕ → ℕ → List ℕ → Read (List ℕ)
columns zero low l = cond (eqb (head l) comma) bad (got [] l)
columns (suc k) low l =
    cond (eqb (head l) comma)
    (and_then (field privilege_count (drop 1 l)) (λ n t. cond (leb low n) (fronted n (columns k (suc n) t)) bad))
    (got [] l)

-- The text behind an empty field between quotes; any other text whole.
unfoldable pub opened : List ℕ → List ℕ
opened l = cond (eqb (head l) quote && eqb (head (drop 1 l)) quote) (drop 2 l) l

-- What was read, where the line ends behind it.
unfoldable pub at_end : {X : Type 0} → X → List ℕ → Read X
at_end x l = and_then (ended l) (λ z t. got x t)

-- The columns of a heading, one at least.
unfoldable pub heading : List ℕ → Read (List ℕ)
heading l = and_then (columns privilege_count 0 (opened l)) (λ cs t. cond (eqb (length cs) 0) bad (at_end cs t))

-- The marks of k columns, each behind a comma.
unfoldable pub marks : ℕ → List ℕ → Read (List Bool)
marks zero l = got [] l
marks (suc k) l = and_then (further l) (λ n t. fronted (eqb n 1) (marks k t))

-- A row under k columns, with the end of its line.
unfoldable pub row : ℕ → List ℕ → Read Row
row k l = and_then (field role_count l) (λ n t. and_then (marks k t) (λ m u. at_end (record { role = n; marks = m }) u))

-- One row more in front of those behind it, or none where it is bad.
unfoldable pub more : Read Row → (List ℕ → List Row × Bool) → List Row × Bool
more bad f = ([], false)
more (got r t) f = (r ∷ (f t).0, (f t).1)

-- The good rows that a text begins with, n at the most, and whether there is nothing behind them.
unfoldable pub rows_upto : ℕ → ℕ → List ℕ → List Row × Bool
rows_upto zero k l = ([], true)
rows_upto (suc n) k l = cond (eqb (length l) 0) ([], true) (more (row k l) (rows_upto n k))

-- The good rows that a text begins with; it has no more of them than bytes.
unfoldable pub rows : ℕ → List ℕ → List Row × Bool
rows k l = rows_upto (length l) k l
