-- `sittings::running::run` meets its contract: each turn feeds the record at the reader's place to the lent sitting, and puts its line behind the others.
-- Assumes nothing.
use borrow.Author.Rules.{rules}
use borrow.Author.Tests.{leb-true, leb-false}
use mathlib.Core.Bool.{true, false}
use mathlib.Core.Path.{◌≡◌, sym, ap, ◌∙◌}
use mathlib.Core.List.{List}
use Prim.Native.Nat.{ℕ, min, ◌+◌, ◌^◌, ◌<◌, ◌≤◌}
use native.Mathlib.Omega.{arith}
use Rattle.std.proofs.lemmas.Grind.{common_steps}
use lib.ListN.{length}
use denote.Bor.{Bor}
use Rattle.seats.specs.Places.{is_end, record_at, record_end}
use Rattle.seats.proofs.Feeding.{line_behind, left_room, left_next, left_end}
use Rattle.sittings.specs.Records.{step}
use Rattle.sittings.specs.Reading.{read_sitting}
use Rattle.seats.specs.Working.{longest_line}
use Rattle.sittings.proofs.running.run.Goals as goal
use Rattle.sittings.proofs.running.run.Goals.{In-loop-reader}

-- Where the reader has not ended, its place lies before the part's end; where it has, at the end or beyond.
going : (tape part : List ℕ) (at : ℕ) → tape ≡ part → is_end tape at ≡ false → at < length part
going tape part at same e = leb-false _ _ (ap (λ (t : List ℕ). is_end t at) (sym same) ∙ e)

ended : (tape part : List ℕ) (at : ℕ) → tape ≡ part → is_end tape at ≡ true → length part ≤ at
ended tape part at same e = leb-true _ _ (ap (λ (t : List ℕ). is_end t at) (sym same) ∙ e)

-- Where bytes are left, the next line's index and the lines' length with the longest line stay below their bounds.
room : (c : In-loop-reader) → (c.loop-reader.index + 1 < 2 ^ 64) × (c.loop-reader.length + longest_line < 2 ^ 64)
room c =
    let l = c.loop-reader in
    let h = going l.reader.tape.now c.args.part.now l.reader.at l.invariant.0 (sym c.ended.ensures ∙ c.loop-reader-test.true) in
    let short : length c.args.part.now < 2 ^ 63 = search rules in
    left_room step c.args.buffer.now c.args.count c.args.part.now (read_sitting c.args.sitting) l.invariant.1 h c.requires short

pub overflow_add-index : goal.overflow_add-index
overflow_add-index c = record { fits = (room (goal.at.overflow_add-index c).In-loop-reader).0 }

pub overflow_add-length : goal.overflow_add-length
overflow_add-length c =
    let k = (room (goal.at.overflow_add-length c).In-loop-reader).1 in
    let b = c.put_line-length.ensures.bounded in
    record { fits = omega arith }

pub loop-reader-preserved : goal.loop-reader-preserved
loop-reader-preserved c =
    let l = c.loop-reader in
    let same = l.invariant.0 in
    let h = going l.reader.tape.now c.args.part.now l.reader.at same (sym c.ended.ensures ∙ c.loop-reader-test.true) in
    let q : c.min-start.result ≡ min l.length (length l.buffer) = grind (arith, common_steps) in (
      ap (λ (t : Bor (List ℕ)). t.now) c.moved-reader.ensures.0 ∙ same,
      left_next step c.args.buffer.now c.args.count c.args.part.now (read_sitting c.args.sitting) l.invariant.1 h
          (c.moved-reader.ensures.1 ∙ ap (λ (t : List ℕ). record_end t l.reader.at) same)
          (c.call-answer.ensures ∙ ap (step (read_sitting l.sitting)) (c.next.ensures ∙ ap (λ (t : List ℕ). record_at t l.reader.at) same))
          (line_behind l.buffer _ _ q c.put_line-length.ensures),
    )

pub returns : goal.returns
returns c =
    let l = c.loop-reader in
    left_end step c.args.buffer.now c.args.count c.args.part.now (read_sitting c.args.sitting) l.invariant.1
    (ended l.reader.tape.now c.args.part.now l.reader.at l.invariant.0 (sym c.ended.ensures ∙ c.loop-reader-test.false))
