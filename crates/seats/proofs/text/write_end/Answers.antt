-- `text::write_end` meets its contract: the word end and its tail fill the buffer's front where there is room.
-- Assumes nothing.
use mathlib.Core.List.{[], ◌∷◌}
use mathlib.Core.Path.{◌≡◌, refl}
use native.Mathlib.Omega.{arith}
use lib.ListN.{length, drop, length-append, length-drop}
use Rattle.seats.specs.Reading.{read_filled}
use Rattle.seats.proofs.Written.{and_then, front_written, behind}
use Rattle.seats.proofs.Lines.{end-joined, length-tail, line_filled, line_unfilled}
use Rattle.seats.proofs.text.write_end.Goals as goal

pub returns-then-buffer-digit_count : goal.returns-then-buffer-digit_count
unfolding read_filled
returns-then-buffer-digit_count c =
    let s = c.args in
    rw c.unplaced.ensures (line_unfilled s.buffer.now _ (101 ∷ 110 ∷ 100 ∷ []) _ _ (end-joined s.count s.edges) (omega arith))

pub returns : goal.returns
unfolding read_filled
returns c =
    let s = c.args in
    let word = c.copy_from_slice.new.self in
    let n : 3 ≡ length word = rw c.copy_from_slice.ensures.after refl in
    let l = length-drop 3 s.buffer.now in
    line_filled s.buffer.now _ word _ _ (rw c.copy_from_slice.ensures.after (end-joined s.count s.edges)) (omega arith)
    (and_then (front_written _ _ n (omega arith)) (behind (omega (arith, length-append word (drop 3 s.buffer.now), length-tail s.count s.edges)) c.tail.ensures))
