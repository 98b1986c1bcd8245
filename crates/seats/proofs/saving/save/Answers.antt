-- `seats::saving::save` meets its contract: what it counts gives the image's length; then the parts are written one behind the other.
-- Assumes nothing.
use native.Mathlib.Omega.{arith}
use Rattle.graph.specs.Reading.{sets_in}
use mathlib.Core.List.{List, ◌++◌}
use Prim.Native.Nat.{ℕ, ◌+◌, ◌-◌, ◌<◌, ◌≤◌}
use Rattle.graph.specs.Graph.{role_count, max_role}
use Rattle.graph.specs.Tables.{at}
use Rattle.sets.proofs.Laws.{size_bound}
use borrow.Author.Rules.{rules}
use borrow.Rule.Slice.PartMut.{put_mid}
use lib.ListN.{length, take, drop}
use Rattle.seats.specs.Bytes.{bytes_of}
use Rattle.seats.specs.Seats.{State, seat_count}
use Rattle.seats.specs.Images.{set_bytes, role_set_bytes, privilege_bytes, entry_bytes, Counts, trailer, image}
use Rattle.seats.specs.Reading.{lent, read_filled}
use Rattle.seats.specs.ImageWork.{table_entries, pair_entries}
use Rattle.seats.proofs.Numbers.{length-bytes_of}
use Rattle.seats.proofs.ImageLength.{length-trailer}
use Rattle.seats.specs.Written.{Written}
use Rattle.seats.proofs.Written.{Unwritten, unwritten_length, piece_room, unwritten_next, unwritten_behind, unwritten_last}
use Rattle.seats.proofs.SaveParts.{Counted, saves_nothing, image_fits, image_left, saves_all}
use Rattle.seats.proofs.saving.save.Goals as goal
use Rattle.seats.proofs.saving.save.Goals.{After-count_conflicts, After-distance-length}

-- ---- the state, and the parts of its image
module _ (c : After-distance-length) where
  abbrev state : State
  state = lent c.args.state

  -- What was counted.
  abbrev counts : Counts
  counts = record { roles = c.size.result; seats = c.size-2.result; conflicts = c.count_conflicts.result }

  counted : Counted state c.ordinary_roles-ordinary.result c.occupied-taken.result counts c.distance-length.result
  counted = record {
    ordinary_are = c.ordinary_roles-ordinary.ensures;
    occupied_are = c.occupied-taken.ensures;
    roles_are = c.size.ensures;
    seats_are = c.size-2.ensures;
    conflicts_are = c.count_conflicts.ensures.0;
    far_is = c.distance-length.ensures.0;
  }

  abbrev top_part : List ℕ
  top_part = bytes_of set_bytes (at (sets_in c.args.state.graph.sets.now) max_role)

  abbrev roles_part : List ℕ
  roles_part = entry_bytes set_bytes (table_entries c.ordinary_roles-ordinary.result (sets_in c.args.state.graph.sets.now))

  abbrev conflicts_part : List ℕ
  conflicts_part = entry_bytes privilege_bytes (pair_entries (sets_in c.args.state.conflicts.now))

  abbrev seats_part : List ℕ
  seats_part = entry_bytes role_set_bytes (table_entries c.occupied-taken.result c.args.state.seats.now)

  abbrev trailer_part : List ℕ
  trailer_part = trailer counts

  -- With this buffer and place, the rest is left to write.
  abbrev Left : List ℕ → ℕ → List ℕ → Type 0
  Left buffer place rest = Unwritten c.args.buffer.now 0 (image state) buffer place rest

  all_left : Left c.args.buffer.now 0 (top_part ++ (roles_part ++ (conflicts_part ++ (seats_part ++ trailer_part))))
  all_left = image_left counted _

  -- ---- what each writer leaves, after those before it
  top_written : {b : List ℕ} {i : ℕ} → Written c.args.buffer.now 0 top_part b i → Left b i (roles_part ++ (conflicts_part ++ (seats_part ++ trailer_part)))
  top_written w = unwritten_next top_part _ all_left w

  module _ (room : length (image state) ≤ length c.args.buffer.now) {b d : List ℕ} {i n : ℕ} where
    roles_written : Left b i (roles_part ++ (conflicts_part ++ (seats_part ++ trailer_part))) → Written (take (length b - i) (drop i b)) 0 roles_part d n → Left (put_mid i (length b - i) b d) (i + n) (conflicts_part ++ (seats_part ++ trailer_part))
    roles_written l w = unwritten_behind roles_part _ l room w

    conflicts_written : Left b i (conflicts_part ++ (seats_part ++ trailer_part)) → Written (take (length b - i) (drop i b)) 0 conflicts_part d n → Left (put_mid i (length b - i) b d) (i + n) (seats_part ++ trailer_part)
    conflicts_written l w = unwritten_behind conflicts_part _ l room w

    seats_written : Left b i (seats_part ++ trailer_part) → Written (take (length b - i) (drop i b)) 0 seats_part d n → Left (put_mid i (length b - i) b d) (i + n) trailer_part
    seats_written l w = unwritten_behind seats_part _ l room w

few : (c : After-count_conflicts) → (c.size.result < 256) × (c.size-2.result < 256) × (c.count_conflicts.result < 65536)
few c =
    let a = size_bound role_count c.ordinary_roles-ordinary.result in
    let b = size_bound seat_count c.occupied-taken.result in
    let e = c.size.ensures in
    let f = c.size-2.ensures in
    let l = c.count_conflicts.ensures.1 in
    (omega arith, omega arith, omega arith)

pub distance-length-requires : goal.distance-length-requires
distance-length-requires c = few c

pub returns-then-buffer-length : goal.returns-then-buffer-length
unfolding read_filled
returns-then-buffer-length c =
    rw c.unplaced.ensures (saves_nothing (counted (goal.at.returns-then-buffer-length c).After-distance-length) _ c.if-buffer-length.true)

pub put_set-n-requires : goal.put_set-n-requires
put_set-n-requires c =
    let o = (goal.at.put_set-n-requires c).After-distance-length in
    let room = image_fits (counted o) _ c.if-buffer-length.false in
    let l = length-bytes_of set_bytes (at (sets_in c.args.state.graph.sets.now) max_role) in
    let h = piece_room (top_part o) _ (all_left o) (omega arith) in
    omega arith

pub put_table-n-requires : goal.put_table-n-requires
put_table-n-requires c =
    let o = (goal.at.put_table-n-requires c).After-distance-length in
    let room = image_fits (counted o) _ c.if-buffer-length.false in
    let a = top_written o (rw c.effective_of.ensures at c.put_set-n.ensures.0) in
    let h = piece_room (roles_part o) _ a (omega arith) in
    search (arith, h)

pub put_conflicts-n-requires : goal.put_conflicts-n-requires
put_conflicts-n-requires c =
    let o = (goal.at.put_conflicts-n-requires c).After-distance-length in
    let room = image_fits (counted o) _ c.if-buffer-length.false in
    let a = top_written o (rw c.effective_of.ensures at c.put_set-n.ensures.0) in
    let b = roles_written o room a c.put_table-n.ensures.0 in
    let h = piece_room (conflicts_part o) _ b (omega arith) in
    search (arith, h)

pub put_table-n-requires-2 : goal.put_table-n-requires-2
put_table-n-requires-2 c =
    let o = (goal.at.put_table-n-requires-2 c).After-distance-length in
    let room = image_fits (counted o) _ c.if-buffer-length.false in
    let a = top_written o (rw c.effective_of.ensures at c.put_set-n.ensures.0) in
    let b = roles_written o room a c.put_table-n.ensures.0 in
    let d = conflicts_written o room b c.put_conflicts-n.ensures.0 in
    let h = piece_room (seats_part o) _ d (omega arith) in
    search (arith, h)

pub put_trailer-requires : goal.put_trailer-requires
put_trailer-requires c =
    let o = (goal.at.put_trailer-requires c).After-distance-length in
    let room = image_fits (counted o) _ c.if-buffer-length.false in
    let a = top_written o (rw c.effective_of.ensures at c.put_set-n.ensures.0) in
    let b = roles_written o room a c.put_table-n.ensures.0 in
    let d = conflicts_written o room b c.put_conflicts-n.ensures.0 in
    let e = seats_written o room d c.put_table-n-2.ensures.0 in
    let p = e.place in
    let l = unwritten_length e in
    let t = length-trailer (counts o) in
    (search rules, few (goal.at.put_trailer-requires c).After-count_conflicts)

pub returns : goal.returns
unfolding read_filled
returns c =
    let o = (goal.at.returns c).After-distance-length in
    let room = image_fits (counted o) _ c.if-buffer-length.false in
    let a = top_written o (rw c.effective_of.ensures at c.put_set-n.ensures.0) in
    let b = roles_written o room a c.put_table-n.ensures.0 in
    let d = conflicts_written o room b c.put_conflicts-n.ensures.0 in
    let e = seats_written o room d c.put_table-n-2.ensures.0 in
    saves_all (counted o) _ c.if-buffer-length.false (unwritten_last (trailer_part o) e room c.put_trailer.ensures)
