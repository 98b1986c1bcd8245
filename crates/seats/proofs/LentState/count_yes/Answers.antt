-- `seats::LentState::count_yes` meets its contract: each turn counts the ask of the next two bytes.
-- Assumes nothing.
use borrow.Author.Rules.{rules}
use mathlib.Core.Path.{◌≡◌, sym, ap, ◌∙◌}
use Prim.Native.Nat.{ℕ, ◌+◌, ◌≤◌}
use native.Mathlib.Omega.{arith}
use lib.ListN.{length}
use mir.Val.{bool_byte}
use Rattle.std.proofs.Common.{length-append}
use Rattle.std.specs.Slice.Iter.{chunks_exact_rest}
use Rattle.seats.specs.Asks.{yes_count}
use Rattle.seats.specs.Reading.{lent}
use Rattle.seats.proofs.YesCount.{counts, counts_most, yes_byte, yes_first, yes_none}
use Rattle.seats.proofs.LentState.count_yes.Goals as goal
use Rattle.seats.proofs.LentState.count_yes.Goals.{After-from-count}

pub loop-pair-init : goal.loop-pair-init
loop-pair-init c =
    let e = c.into_iter-pair-iterator.ensures.into_iter_gives in
    let d = c.chunks_exact-pair-items.ensures in
    (rw e d.size, rw (e, d.rest) (omega arith), rw (e, d.rest) (omega arith))

-- What the turn counts is the ask of the first two bytes left.
here : (c : After-from-count) → (
    let s = lent c.args.self in
    let left = chunks_exact_rest c.loop-pair.pair-iterator in
    let rest = chunks_exact_rest c.next.new.self in
    (2 + length rest ≡ length left) × (c.from-count.result ≤ 1) × (yes_count s left ≡ c.from-count.result + yes_count s rest))
here c =
    let s = lent c.args.self in
    let rest = chunks_exact_rest c.next.new.self in
    let x = c.in-Some.pair.now in
    let b = c.in-Some.ensures.steps.1 in
    let two : length x ≡ 2 = b.1 ∙ c.loop-pair.invariant.0 in
    let y = c.from-count.ensures ∙ ap bool_byte c.unwrap_or.ensures ∙ yes_byte c.ask-answer.result ∙ ap counts c.ask-answer.ensures in
    let l = length-append x rest in
    let t = ap length b.0 in
    (omega (arith, l, t, two), rw y (counts_most _), ap (yes_count s) b.0 ∙ yes_first s x rest two ∙ ap (λ (n : ℕ). n + yes_count s rest) (sym y))

pub overflow_add-count : goal.overflow_add-count
overflow_add-count c =
    let h = here c in
    let l = c.loop-pair.invariant.1 in
    search rules

pub loop-pair-preserved : goal.loop-pair-preserved
loop-pair-preserved c =
    let h = here c in (
      c.in-Some.ensures.steps.0 ∙ c.loop-pair.invariant.0,
      omega (arith, h.0, h.1, c.loop-pair.invariant.1),
      omega (arith, h.2, c.loop-pair.invariant.2),
    )

pub returns : goal.returns
returns c =
    let s = c.in-None.ensures.steps in
    let e = yes_none (lent c.args.self) (chunks_exact_rest c.loop-pair.pair-iterator) (rw c.loop-pair.invariant.0 at s.1.0) in
    omega (arith, e, c.loop-pair.invariant.2)
