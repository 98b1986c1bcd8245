-- `sittings::clashing::Use::lowest_clash` meets its contract: it goes through the rows from 0 on, each with the roles that are added to it, and beyond the table's end there are none.
-- Assumes nothing.
use mathlib.Core.Path.{◌≡◌, sym, ap, ◌∙◌, subst}
use mathlib.Core.Bool.{Bool}
use Prim.Native.Nat.{ℕ, ◌<◌}
use native.Mathlib.Decide.{ℕ_discrete, dec_lt}
use native.Mathlib.Omega.{arith}
use lib.Dec.{T}
use Rattle.sets.specs.Counting.{any}
use Rattle.sets.proofs.Tests.{fails}
use Rattle.sets.proofs.Counting.{any-some, lowest_is}
use Rattle.graph.specs.Graph.{role_count}
use Rattle.graph.specs.Tables.{at}
use Rattle.graph.specs.Reading.{read_found}
use Rattle.graph.proofs.Searches.{found_is, found_none}
use Rattle.sittings.specs.Working.{meets_by}
use Rattle.sittings.proofs.JoinedTables.{row_below, row_joined, row_end}
use Rattle.sittings.proofs.Reached.{none_met}
use Rattle.sittings.proofs.clashing.Use.lowest_clash.Goals as goal
use Rattle.sittings.proofs.clashing.Use.lowest_clash.Goals.{After-meets}
use Rattle.sittings.proofs.clashing.Use.lowest_clash.Invariants.{clashes}

-- Whether the row of a number clashes.
abbrev test : (c : After-meets) → ℕ → Bool
test c = let g = c.args in clashes g.self.lower.now g.self.used.now g.pairs.now g.added.at g.added.set

-- A turn lies within the table and below 64.
inside : (c : After-meets) → c.loop-p.p < role_count
inside c = (row_below c.args.pairs.now c.min.ensures c.loop-p-test.true).1

-- What the turn's test tells of its row.
told : (c : After-meets) → test c c.loop-p.p ≡ c.meets.result
unfolding at
told c =
    let g = c.args in
    sym
    (c.meets.ensures
    ∙ ap (meets_by g.self.lower.now g.self.used.now c.loop-p.p)
    (row_joined g.pairs.now c.min.ensures g.added.at g.added.set c.loop-p.p c.loop-p-test.true c.when.ensures c.union.ensures))

pub loop-p-init : goal.loop-p-init
loop-p-init c = λ j h. absurd (omega (arith, h))

pub returns-then-meets : goal.returns-then-meets
unfolding read_found
returns-then-meets c =
    let m = (goal.at.returns-then-meets c).After-meets in
    let t = subst T (sym (told m ∙ c.if-meets.true)) tt in
    found_is role_count (test m) (inside m) t (sym (lowest_is role_count (test m) c.loop-p.p (inside m) t (λ j k x. subst T (c.loop-p.invariant j k) x)))

pub loop-p-preserved : goal.loop-p-preserved
loop-p-preserved c =
    let m = (goal.at.loop-p-preserved c).After-meets in
    λ j h. elim (ℕ_discrete j c.loop-p.p) [
      | yes e ↦ ap (test m) e ∙ told m ∙ c.if-meets.false
      | no d ↦ c.loop-p.invariant j (omega (arith, h, d))
    ]

pub returns : goal.returns
unfolding read_found
returns c =
    let g = c.args in
    let f = clashes g.self.lower.now g.self.used.now g.pairs.now g.added.at g.added.set in
    found_none role_count f
    (fails (any role_count f)
    (λ t.
    let (j, k, x) = any-some role_count f t in
    elim (dec_lt j c.loop-p.p) [
      | yes h ↦ subst T (c.loop-p.invariant j h) x
      | no d ↦ subst T
          (ap (meets_by g.self.lower.now g.self.used.now j) (row_end g.pairs.now c.min.ensures g.added.at g.added.set j (omega (arith, d, c.loop-p-test.false)) k)
          ∙ none_met g.self.lower.now g.self.used.now j)
          x
    ]))
