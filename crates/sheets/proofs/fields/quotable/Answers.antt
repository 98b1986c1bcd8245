-- `fields::quotable` meets its contract: one law for each way out.
-- Assumes nothing.
use mathlib.Core.Path.{◌∙◌}
use Rattle.std.specs.Prelude.{Some, None}
use Rattle.sheets.specs.Working.{read_as}
use Rattle.sheets.proofs.FieldLaws.{quotable_plain, quotable_no, quotable_open, quotable_closed}
use Rattle.sheets.proofs.fields.quotable.Goals as goal

pub returns-in_default : goal.returns-in_default
returns-in_default g c = λ f h. h _ _ c.number.ensures ∙ quotable_plain f _ c.in_default.ensures.cases

pub returns-in_err-n : goal.returns-in_err-n
unfolding read_as
returns-in_err-n g c = λ f h. let s = c.in-Some.ensures.cases in rw c.from_residual.ensures (quotable_no f _ s.0 s.1 (h c.in-Some.inside None c.in_err-n.ensures))

pub returns-in_err-strip_prefix : goal.returns-in_err-strip_prefix
unfolding read_as
returns-in_err-strip_prefix g c = λ f h.
    let s = c.in-Some.ensures.cases in
    rw c.from_residual-in_err-strip_prefix.ensures (quotable_open f _ s.0 s.1 (h c.in-Some.inside (Some (c.in_ok-n.n, c.in_ok-n.behind)) c.in_ok-n.ensures) c.in_err-strip_prefix.ensures.cases)

pub returns : goal.returns
unfolding read_as
returns g c = λ f h.
    let s = c.in-Some.ensures.cases in
    let q = c.in_ok-strip_prefix.ensures.cases in
    quotable_closed f _ s.0 s.1 (h c.in-Some.inside (Some (c.in_ok-n.n, c.in_ok-n.behind)) c.in_ok-n.ensures) q.0 q.1
