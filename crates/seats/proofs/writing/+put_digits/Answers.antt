-- `writing::put_digits` meets its contract: the digits of the tenth, of which a number below 10 has none, and the last digit behind them.
-- Assumes nothing.
use mathlib.Core.List.{List, [], ◌∷◌, ◌++◌}
use mathlib.Core.Path.{◌≡◌, ap, ◌∙◌}
use Prim.Native.Nat.{ℕ, ◌+◌, ◌/◌, ◌%◌}
use native.Mathlib.Omega.{arith}
use lib.ListN.{length}
use Rattle.seats.specs.Tape.{digits}
use Rattle.seats.specs.Written.{Written}
use Rattle.seats.proofs.Digits.{digits_small, digits_large, width_large}
use Rattle.seats.proofs.Written.{and_then, one_written}
use Rattle.seats.proofs.writing.+put_digits.Goals.{Joined-x-lt10, then-x-lt10, else-x-lt10}
use Rattle.seats.proofs.writing.+put_digits.Goals as goal

pub put_digits-last-requires : goal.put_digits-last-requires
put_digits-last-requires t c = (omega arith, omega (arith, width_large c.args.x c.if-x-lt10.false))

-- The digits before the last are written.
front : {t : ℕ} (c : Joined-x-lt10 t) → (w : List ℕ) × (digits c.args.x ≡ w ++ ((48 + c.args.x % 10) ∷ [])) × Written c.args.buffer.now 0 w c.if-x-lt10.buffer c.if-x-lt10.last
front c = elim c.if-x-lt10.branch [
  | then-x-lt10 w ↦ ([], digits_small _ w.if-x-lt10.true ∙ ap (λ (d : ℕ). (48 + d) ∷ []) (omega arith), record { list = w.buffer-is; place = w.last-is })
  | else-x-lt10 w ↦ (digits (c.args.x / 10), digits_large _ w.if-x-lt10.false, rw (w.buffer-is, w.last-is) w.put_digits-last.ensures)
]

-- The last digit stands at the last place of all of them.
last : {t : ℕ} (c : Joined-x-lt10 t) → c.if-x-lt10.last + 1 ≡ length (digits c.args.x)
last c = let (w, e, p) = front c in let n = (and_then p (one_written _ _ (48 + c.args.x % 10))).place in rw e (omega arith)

pub bounds-buffer-last : goal.bounds-buffer-last
bounds-buffer-last t c = let n = last c in let l = c.if-x-lt10.auto.buffer in omega arith

pub overflow_add-result : goal.overflow_add-result
overflow_add-result t c = let n = last (goal.at.overflow_add-result t c).Joined-x-lt10 in omega arith

pub returns : goal.returns
returns t c = let (w, e, p) = front (goal.at.returns t c).Joined-x-lt10 in rw e (and_then p (one_written _ _ _))
