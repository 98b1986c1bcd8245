-- `seats::loading::read_entries` meets its contract: each turn tests the first entry left and stores it, and the others are left.
-- Assumes nothing.
use borrow.Author.Rules.{rules}
use native.Mathlib.Omega.{arith}
use borrow.Author.Tests.{lt-leb, le-leb}
use mathlib.Core.Path.{◌≡◌, refl, sym, ap, ◌∙◌}
use mathlib.Core.List.{◌∷◌}
use Prim.Native.Nat.{◌+◌, ◌-◌, ◌/◌}
use lib.ListN.{length, get_or}
use Rattle.std.specs.Slice.Iter.{chunks_exact_rest}
use Rattle.sets.specs.Sets.{union}
use Rattle.sets.proofs.Laws.{known_single}
use Rattle.seats.specs.Images.{entries_at}
use Rattle.seats.specs.ImageWork.{value_bytes, part_width, entry_of}
use Rattle.seats.proofs.EntryReading.{part_all, part_next, part_refused, part_done, passing_key}
use Rattle.seats.proofs.Numbers.{number_taken}
use Rattle.seats.proofs.EntrySlices.{slice_first, slice_none}
use Rattle.seats.proofs.loading.read_entries.Given.{Over}
use Rattle.seats.proofs.loading.read_entries.Goals as goal
use Rattle.seats.proofs.loading.read_entries.Goals.{After-place-place, then-place-low-via-then-place-low, then-place-low-via-else-place-low+then-not-passes}

pub loop-entry-init : goal.loop-entry-init
loop-entry-init g c =
    let e = c.into_iter-entry-iterator.ensures.into_iter_gives in
    let d = c.chunks_exact-entry-items.ensures in
    (rw (e, ← c.value_bytes-value_bytes.ensures.0) d.size, refl, rw (e, d.rest) (part_all _ _ _ _))

-- The first of the entries left is that of the key and the value that are read.
here : (g : Over) (c : After-place-place g) → (
    let n = value_bytes g.P.Part.part in
    let left = chunks_exact_rest c.loop-entry.entry-iterator in
    let rest = chunks_exact_rest c.next.new.self in
    entries_at n 0 (length left / part_width g.P.Part.part) left
    ≡ entry_of (get_or c.in-Some.entry.now 0 0) c.value_in-value.result ∷ entries_at n 0 (length rest / part_width g.P.Part.part) rest)
here g c =
    let b = c.in-Some.ensures.steps.1 in
    let n = value_bytes g.P.Part.part in
    let x = c.in-Some.entry.now in
    let w : length x ≡ 1 + n = b.1 ∙ c.loop-entry.invariant.0 in
    let m : length x - 1 ≡ n = omega arith in
    let v = c.value_in-value.ensures.0 ∙ rw m (number_taken n 1 x (omega arith)) in
    rw (b.0, v) (slice_first n x _ w)

pub returns-then-place-low : goal.returns-then-place-low
returns-then-place-low g c =
    let h = here g (goal.at.returns-then-place-low g c).After-place-place in
    part_refused g.P.Part.part c.args.present _ _ (rw h at c.loop-entry.invariant.2)
    (rw (← c.place-place.ensures.0) (elim c.then-place-low.branch [
      | then-place-low-via-then-place-low w ↦ rw (lt-leb _ _ w.if-place-low.true)
      | then-place-low-via-else-place-low+then-not-passes w ↦ rw (le-leb _ _ w.if-place-low.false) (sym w.if-not-passes.ensures)
    ]))

pub loop-entry-preserved : goal.loop-entry-preserved
loop-entry-preserved g c =
    let h = here g (goal.at.loop-entry-preserved g c).After-place-place in
    let t = sym c.if-not-passes.ensures in
    let o = known_single (passing_key g.P.Part.part c.args.present _ t) (rw c.from.ensures at c.single.ensures) in (
      c.in-Some.ensures.steps.0 ∙ c.loop-entry.invariant.0,
      search rules,
      rw c.place-place.ensures.0 (part_next g.P.Part.part c.args.present _ _ (rw h at c.loop-entry.invariant.2)
          (rw (← c.place-place.ensures.0, le-leb _ _ c.if-place-low.false) t) (c.put.ensures c.args.present t)
          (c.union-keys.ensures ∙ ap (union c.loop-entry.keys) o)),
    )

pub returns : goal.returns
returns g c =
    let s = c.in-None.ensures.steps in
    let e = slice_none (value_bytes g.P.Part.part) (chunks_exact_rest c.loop-entry.entry-iterator) (rw c.loop-entry.invariant.0 at s.1.0) in
    part_done g.P.Part.part c.args.present (rw e at c.loop-entry.invariant.2)
