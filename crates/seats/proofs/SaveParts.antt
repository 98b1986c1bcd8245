-- The image of a state by what saving counts first: its parts, its length, and what saving answers.
-- Assumes nothing.
use mathlib.Core.Path.{◌≡◌, sym, ap, ◌∙◌, subst}
use mathlib.Core.List.{List, ◌++◌}
use Prim.Native.Nat.{ℕ, ◌≤◌, ◌<◌}
use native.Mathlib.Omega.{arith}
use lib.ListN.{length}
use Rattle.sets.specs.Sets.{difference, collect, size}
use Rattle.graph.specs.Tables.{at}
use Rattle.graph.specs.Graph.{role_count, max_role, effective}
use Rattle.seats.specs.Bytes.{written, too_short, bytes_of}
use Rattle.seats.specs.Seats.{State, seat_count}
use Rattle.seats.specs.Images.{role_entries, conflict_entries, seat_entries, contents_of, set_bytes, role_set_bytes, privilege_bytes, entry_bytes, Counts, counts_of, distance, trailer, parts, image}
use Rattle.seats.specs.Saving.{save}
use Rattle.seats.specs.Written.{Written}
use Rattle.seats.specs.ImageWork.{table_entries, pair_entries}
use Rattle.seats.proofs.StoredEntries as stores
use Rattle.seats.proofs.ImageLength.{image_length}
use Rattle.seats.proofs.Written.{Unwritten, unwritten_all, filled, unfilled}
use Rattle.seats.proofs.MemberEntries.{length_members, roles_listed, seats_listed}

-- The ordinary roles and the seats that have roles, how many they and the conflicts are, and the image's length.
pub record Counted (s : State) (ordinary occupied : ℕ) (n : Counts) (far : ℕ) : Type 0 where
  pub ordinary_are : ordinary ≡ difference s.graph.roles 3
  pub occupied_are : occupied ≡ collect seat_count (stores.filled s.seats)
  pub roles_are : n.roles ≡ size role_count ordinary
  pub seats_are : n.seats ≡ size seat_count occupied
  pub conflicts_are : n.conflicts ≡ length (pair_entries s.graph.conflicts)
  pub far_is : far ≡ distance n

module _ {s : State} {o t : ℕ} {n : Counts} {far : ℕ} (k : Counted s o t n far) where
  roles_part : table_entries o s.graph.sets ≡ role_entries s.graph
  roles_part = ap (λ (x : ℕ). table_entries x s.graph.sets) k.ordinary_are ∙ roles_listed s.graph

  seats_part : table_entries t s.seats ≡ seat_entries s
  seats_part = ap (λ (x : ℕ). table_entries x s.seats) k.occupied_are ∙ seats_listed s

  -- The counts are those of what the image holds.
  counts_same : counts_of (contents_of s) ≡ n
  unfolding conflict_entries
  counts_same =
      let a = ap length (sym roles_part) ∙ length_members role_count o _ ∙ sym k.roles_are in
      let b = ap length (sym seats_part) ∙ length_members seat_count t _ ∙ sym k.seats_are in
      let c = sym k.conflicts_are in
      λ d. record { roles = a d; seats = b d; conflicts = c d }

  -- What saving writes, one part after the other.
  image_parts : image s ≡ bytes_of set_bytes (at s.graph.sets max_role)
      ++ (entry_bytes set_bytes (table_entries o s.graph.sets) ++ (entry_bytes privilege_bytes (pair_entries s.graph.conflicts) ++ (entry_bytes role_set_bytes (table_entries t s.seats) ++ trailer n)))
  unfolding image parts effective conflict_entries
  image_parts = rw (roles_part, seats_part, counts_same)

  image_far : length (image s) ≡ far
  image_far = image_length s ∙ ap distance counts_same ∙ sym k.far_is

  module _ (buffer : List ℕ) where
    pub saves_nothing : length buffer < far → (too_short 9 0, buffer) ≡ save s buffer
    unfolding save
    saves_nothing h = let e = image_far in unfilled 9 buffer (image s) (omega arith)

    -- There is room for the image, and all of it is left to write.
    pub image_fits : far ≤ length buffer → length (image s) ≤ length buffer
    image_fits h = let e = image_far in omega arith

    pub image_left : Unwritten buffer 0 (image s) buffer 0 (bytes_of set_bytes (at s.graph.sets max_role)
        ++ (entry_bytes set_bytes (table_entries o s.graph.sets) ++ (entry_bytes privilege_bytes (pair_entries s.graph.conflicts) ++ (entry_bytes role_set_bytes (table_entries t s.seats) ++ trailer n))))
    image_left = subst (λ (l : List ℕ). Unwritten buffer 0 (image s) buffer 0 l) image_parts (unwritten_all buffer 0 (image s))

    pub saves_all : {after : List ℕ} {next : ℕ} → far ≤ length buffer → Written buffer 0 (image s) after next → (written far, after) ≡ save s buffer
    unfolding save
    saves_all {after} {next} h w =
        let e = image_far in
        let p = w.place in
        let f : far ≡ next = omega arith in
        ap (λ (x : ℕ). (written x, after)) f ∙ filled 9 buffer (image s) (omega arith) w
