-- `seats::loading::read_contents` meets its contract: the parts stand one behind the other, and each is tested as it is read.
-- Assumes nothing.
use borrow.Author.Rules.{rules}
use Rattle.seats.specs.Images.{distance, contents}
use Rattle.seats.specs.Reading.{read_counts}
use Rattle.seats.proofs.LoadChecks.{roles_stop, conflicts_stop, seats_stop, contents_read}
use Rattle.seats.proofs.EntrySlices.{top_sliced, roles_sliced, conflicts_sliced, seats_sliced}
use Rattle.seats.proofs.loading.read_contents.Goals as goal

pub overflow_mul-conflicts_at : goal.overflow_mul-conflicts_at
unfolding distance
overflow_mul-conflicts_at c = search rules

pub overflow_add-conflicts_at : goal.overflow_add-conflicts_at
unfolding distance
overflow_add-conflicts_at c = search rules

pub overflow_mul-seats_at : goal.overflow_mul-seats_at
unfolding distance
overflow_mul-seats_at c = search rules

pub overflow_add-seats_at : goal.overflow_add-seats_at
unfolding distance
overflow_add-seats_at c = search rules

pub overflow_mul-end : goal.overflow_mul-end
unfolding distance
overflow_mul-end c = search rules

pub overflow_add-end : goal.overflow_add-end
unfolding distance
overflow_add-end c = search rules

pub slice_bounds-read_entries-end : goal.slice_bounds-read_entries-end
unfolding distance
slice_bounds-read_entries-end c = search rules

pub slice_bounds-read_entries-end-2 : goal.slice_bounds-read_entries-end-2
unfolding distance
slice_bounds-read_entries-end-2 c = search rules

pub slice_bounds-read_entries-end-3 : goal.slice_bounds-read_entries-end-3
unfolding distance
slice_bounds-read_entries-end-3 c = search rules

pub slice_bounds-set-end : goal.slice_bounds-set-end
unfolding distance
slice_bounds-set-end c = search rules

pub set-requires : goal.set-requires
unfolding distance
set-requires c = search rules

pub returns-in_err-roles : goal.returns-in_err-roles
returns-in_err-roles c =
    let g = c.args in
    let n = read_counts g.counts in
    let b = c.requires.counts_in_bounds in
    rw c.from_residual.ensures (roles_stop (contents g.bytes.now 0 n) (rw (roles_sliced g.bytes.now n b) at c.in_err-roles.ensures))

pub returns-in_err-read_entries : goal.returns-in_err-read_entries
returns-in_err-read_entries c =
    let g = c.args in
    let n = read_counts g.counts in
    let b = c.requires.counts_in_bounds in
    rw c.from_residual-in_err-read_entries.ensures
    (conflicts_stop (contents g.bytes.now 0 n) (rw (roles_sliced g.bytes.now n b) at c.in_ok-roles.ensures).tested (rw (conflicts_sliced g.bytes.now n b) at c.in_err-read_entries.ensures))

pub returns-in_err-read_entries-2 : goal.returns-in_err-read_entries-2
returns-in_err-read_entries-2 c =
    let g = c.args in
    let n = read_counts g.counts in
    let b = c.requires.counts_in_bounds in
    rw c.from_residual-in_err-read_entries-2.ensures
    (seats_stop (contents g.bytes.now 0 n) (rw (c.store.ensures, c.set.ensures, top_sliced g.bytes.now n b, c.requires.empty_sets, roles_sliced g.bytes.now n b) at c.in_ok-roles.ensures) (rw (conflicts_sliced g.bytes.now n b, c.requires.empty_conflicts) at c.in_ok-read_entries.ensures) (rw (seats_sliced g.bytes.now n b) at c.in_err-read_entries-2.ensures))

pub returns : goal.returns
returns c =
    let g = c.args in
    let n = read_counts g.counts in
    let b = c.requires.counts_in_bounds in
    contents_read (contents g.bytes.now 0 n) (rw (c.store.ensures, c.set.ensures, top_sliced g.bytes.now n b, c.requires.empty_sets, roles_sliced g.bytes.now n b) at c.in_ok-roles.ensures)
    (rw (conflicts_sliced g.bytes.now n b, c.requires.empty_conflicts) at c.in_ok-read_entries.ensures)
    (rw (seats_sliced g.bytes.now n b, c.requires.empty_seats) at c.in_ok-read_entries-2.ensures)
