-- `records::named` meets its contract: each arm is its kind's line in the table, and nothing stands beyond the last.
-- Assumes nothing.
use borrow.Author.Rules.{rules}
use mathlib.Core.Path.{◌≡◌, refl, ◌∙◌}
use Rattle.graph.specs.Reading.{read_change}
use Rattle.seats.specs.Records.{all_empty, unused, kinds}
use Rattle.seats.specs.Reading.{read_request, read_decoded}
use Rattle.seats.proofs.Decoding.{RuledOut, at-kind, at_removal, unknown_kind}
use Rattle.seats.proofs.records.named.Goals as goal

pub returns-in-1 : goal.returns-in-1
unfolding kinds unused all_empty read_change
returns-in-1 c = rw c.in-1.is (c.decoded_change.ensures ∙ at-kind _ 0 3 _ refl)

pub returns-in-2 : goal.returns-in-2
unfolding kinds unused all_empty read_change
returns-in-2 c = rw c.in-2.is (c.decoded_change-in-2.ensures ∙ at-kind _ 0 1 _ (rw c.empty.ensures at c.unused.ensures))

pub returns-in-3 : goal.returns-in-3
unfolding kinds unused all_empty read_change
returns-in-3 c = rw c.in-3.is (c.decoded_change-in-3.ensures ∙ at_removal _ c.removal.ensures c.unused-none.ensures)

pub returns-in-4 : goal.returns-in-4
unfolding kinds unused all_empty read_change
returns-in-4 c = rw c.in-4.is (c.decoded_change-in-4.ensures ∙ at-kind _ 255 0 _ c.unused-none.ensures)

pub returns-in-5 : goal.returns-in-5
unfolding kinds unused all_empty read_change
returns-in-5 c = rw c.in-5.is (c.decoded_change-in-5.ensures ∙ at-kind _ 255 0 _ c.unused-none.ensures)

pub returns-in-6 : goal.returns-in-6
unfolding kinds unused all_empty read_change
returns-in-6 c = rw c.in-6.is (c.decoded_change-in-6.ensures ∙ at-kind _ 255 0 _ c.unused-none.ensures)

pub returns-in-7 : goal.returns-in-7
unfolding kinds unused all_empty read_change
returns-in-7 c = rw c.in-7.is (c.decoded_change-in-7.ensures ∙ at-kind _ 255 0 _ c.unused-none.ensures)

pub returns-in-8 : goal.returns-in-8
unfolding kinds unused all_empty read_request
returns-in-8 c = rw c.in-8.is (c.decoded_request.ensures ∙ at-kind _ 255 0 _ c.unused-none.ensures)

pub returns-in-9 : goal.returns-in-9
unfolding kinds unused all_empty read_request
returns-in-9 c = rw c.in-9.is (c.decoded_request-in-9.ensures ∙ at-kind _ 255 0 _ c.unused-none.ensures)

pub returns-in-10 : goal.returns-in-10
unfolding kinds unused all_empty read_request
returns-in-10 c = rw c.in-10.is (c.decoded_request-in-10.ensures ∙ at-kind _ 255 0 _ c.unused-none.ensures)

pub returns-in-11 : goal.returns-in-11
unfolding kinds unused all_empty read_request
returns-in-11 c = rw c.in-11.is (c.decoded_request-in-11.ensures ∙ at-kind _ 255 0 _ c.unused-none.ensures)

pub returns-in-12 : goal.returns-in-12
unfolding kinds unused all_empty read_request
returns-in-12 c = rw c.in-12.is (c.decoded_request-in-12.ensures ∙ at-kind _ 255 0 _ c.unused-none.ensures)

pub returns-in-0 : goal.returns-in-0
unfolding read_decoded
returns-in-0 c =
    let zero : c.args.kind ≡ 0 = search rules in rw zero

pub returns-in-0-2 : goal.returns-in-0-2
unfolding read_decoded
returns-in-0-2 c =
    let other : (c.args.kind ≡ 0) → ⊥ = search rules in
    let ruled_out : RuledOut 12 c.args.kind = search rules in
    unknown_kind _ _ ruled_out other
