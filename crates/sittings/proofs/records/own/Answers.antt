-- `sittings::records::own` meets its contract: what has a record's length, zeros in bytes 3 to 7 and no sets is named by its kind.
-- Assumes nothing.
use mathlib.Core.Bool.{Bool, true, false, ◌&&◌}
use mathlib.Core.List.{List}
use mathlib.Core.Path.{◌≡◌, sym, ◌∙◌, subst}
use native.Mathlib.Omega.{arith}
use Prim.Native.Nat.{ℕ}
use lib.Dec.{T, eqb}
use lib.ListN.{get_or, length}
use Rattle.sets.proofs.Tests.{both, test_equal}
use Rattle.seats.specs.Bytes.{number_at}
use Rattle.seats.specs.Records.{record_length, fields, unused}
use Rattle.sittings.specs.Records.{malformed, own_kind, own}
use Rattle.sittings.specs.Reading.{read_decoded}
use Rattle.sittings.proofs.records.own.Goals as goal

-- What is tested of the bytes before the kind.
abbrev names_none : List ℕ → Bool
names_none l = eqb (length l) record_length && (eqb (number_at 5 3 l) 0 && unused 0 (fields l))

-- It fails, and nothing decodes; or it passes, and the kind decides on what has a record's length.
module _ (l : List ℕ) {r : Bool} (e : r ≡ names_none l) where
  misfits : r ≡ false → malformed ≡ own l
  unfolding own
  misfits t = sym (rw (sym e ∙ t))

  sized : r ≡ true → length l ≡ record_length
  sized t = test_equal (both (eqb (length l) record_length) (eqb (number_at 5 3 l) 0 && unused 0 (fields l)) (subst T (sym t ∙ e) tt)).0

  kinds : r ≡ true → own_kind (get_or l 0 0) (get_or l 1 0) (get_or l 2 0) ≡ own l
  unfolding own fields
  kinds t = sym (rw (sym e ∙ t))

pub returns-else-names_no_set : goal.returns-else-names_no_set
unfolding read_decoded
returns-else-names_no_set c = misfits c.args.bytes.now c.names_no_set.ensures c.if-names_no_set.false

pub bounds-bytes-0 : goal.bounds-bytes-0
bounds-bytes-0 c = omega (arith, sized c.args.bytes.now c.names_no_set.ensures c.if-names_no_set.true)

pub bounds-bytes-1 : goal.bounds-bytes-1
bounds-bytes-1 c = omega (arith, sized c.args.bytes.now c.names_no_set.ensures c.if-names_no_set.true)

pub bounds-bytes-2 : goal.bounds-bytes-2
bounds-bytes-2 c = omega (arith, sized c.args.bytes.now c.names_no_set.ensures c.if-names_no_set.true)

pub returns-then-names_no_set : goal.returns-then-names_no_set
returns-then-names_no_set c = c.named.ensures ∙ kinds c.args.bytes.now c.names_no_set.ensures c.if-names_no_set.true
