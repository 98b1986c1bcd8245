-- `keeper::requests::put_decided` meets its contract: one word of the conflicts, one of the seats or nothing is stored.
-- Assumes nothing.
use mathlib.Core.Path.{sym}
use Rattle.graph.specs.Reading.{sets_in}
use Rattle.seats.specs.Calls.{with_graph, with_conflicts, with_seats}
use Rattle.seats.specs.Reading.{read_decision}
use Rattle.keeper.specs.Block.{conflicts_of, seats_of}
use Rattle.keeper.proofs.BlockWords.{has_own, conflicts_put, seats_put, stored_long, has_words, words_own}
use Rattle.keeper.proofs.requests.put_decided.Goals as goal

pub returns-in-Conflicts : goal.returns-in-Conflicts
unfolding read_decision with_conflicts with_graph sets_in
returns-in-Conflicts c =
    let W = c.args.words.now in
    rw c.in-Conflicts.is
    (has_words (conflicts_put (has_own W c.told-words) (stored_long (conflicts_of W) _ _ c.store.ensures) c.store.ensures))

pub returns-in-Roles : goal.returns-in-Roles
unfolding read_decision with_seats
returns-in-Roles c =
    let W = c.args.words.now in
    rw c.in-Roles.is
    (has_words (seats_put (has_own W c.told-words) (stored_long (seats_of W) _ _ c.store-in-Roles.ensures) c.store-in-Roles.ensures))

pub returns-in-Answered : goal.returns-in-Answered
unfolding read_decision
returns-in-Answered c = rw c.in-Answered.is (sym (words_own c.args.words.now c.told-words))
