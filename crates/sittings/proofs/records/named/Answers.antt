-- `sittings::records::named` meets its contract: each arm is its kind, and no other kind is known.
-- Assumes nothing.
use borrow.Author.Rules.{rules}
use borrow.Author.Tests.{ne_eqb}
use mathlib.Core.Logic.{◌≢◌}
use Rattle.sittings.specs.Records.{own_kind}
use Rattle.sittings.specs.Reading.{read_choice, read_decoded}
use Rattle.sittings.proofs.records.named.Goals as goal

pub returns-in-13 : goal.returns-in-13
unfolding own_kind read_choice
returns-in-13 c = rw c.in-13.is c.chosen.ensures

pub returns-in-14 : goal.returns-in-14
unfolding own_kind read_choice
returns-in-14 c = rw c.in-14.is c.chosen-in-14.ensures

pub returns-in-15 : goal.returns-in-15
unfolding own_kind read_choice
returns-in-15 c = rw c.in-15.is c.chosen-in-15.ensures

pub returns-in-0-to-12 : goal.returns-in-0-to-12
unfolding own_kind read_decoded
returns-in-0-to-12 c =
    let k = c.args.kind in
    let a : k ≢ 13 = search rules in
    let b : k ≢ 14 = search rules in
    let d : k ≢ 15 = search rules in
    simp (ne_eqb _ 13 a, ne_eqb _ 14 b, ne_eqb _ 15 d)
