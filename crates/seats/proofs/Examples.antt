-- Document 01's saved sample, its edges, and what is refused as a record or an image, each by evaluation of the definitions.
-- Assumes nothing.
use mathlib.Core.Path.{◌≡◌, refl}
use mathlib.Core.Bool.{false}
use mathlib.Core.List.{List, [], ◌∷◌, ◌++◌}
use Prim.Native.Nat.{ℕ, ◌+◌, ◌*◌}
use lib.ListN.{length, take, replicate}
use Rattle.sets.specs.Sets.{empty, single}
use Rattle.graph.proofs.Examples.{set_of, graph_of, table-one, written_out}
use Rattle.seats.specs.Bytes.{bytes_of, written, too_short}
use Rattle.seats.specs.Seats.{State, fresh}
use Rattle.seats.specs.Calls.{answered, refused}
use Rattle.seats.specs.Records.{step}
use Rattle.seats.specs.Images.{image, loaded, not_loaded, load, load_over}
use Rattle.seats.specs.Saving.{save}
use Rattle.seats.specs.Computes.{computes}

-- ---- what the examples are written with
-- The bytes of a record: kind, a, b, and the sets at 8, 16 and 24.
unfoldable pub call : ℕ → ℕ → ℕ → ℕ → ℕ → ℕ → List ℕ
call kind a b x y z = (kind ∷ a ∷ b ∷ replicate 5 0) ++ (bytes_of 8 x ++ (bytes_of 8 y ++ bytes_of 8 z))

-- The bytes of a record that names no set.
abbrev pub plain : ℕ → ℕ → ℕ → List ℕ
plain kind a b = call kind a b empty empty empty

-- The bytes of a record of kind 2.
abbrev pub add : ℕ → List ℕ → List ℕ
add role privileges = call 2 role 0 (set_of privileges) empty empty

-- The graph of the roles from 2 on with the listed sets; no seat with a role.
unfoldable pub state_of : List (List ℕ) → State
state_of l = record { graph = graph_of l; seats = replicate 64 empty }

-- The bench graph.
unfoldable pub A : State
A = state_of table-one

unfoldable pub spelled_out : Unit {0}
unfolding written_out call state_of A
spelled_out = tt

-- The graph, conflict and seat that the sample leaves.
unfoldable pub sample : State
sample = record {
  graph = record {
    roles = set_of (2 ∷ 3 ∷ []);
    sets = empty ∷ 3 ∷ 1 ∷ 3 ∷ replicate 60 empty;
    conflicts = set_of (2 ∷ []) ∷ replicate 63 empty;
  };
  seats = replicate 5 empty ++ (set_of (3 ∷ []) ∷ replicate 58 empty);
}

-- ---- the saved sample
unfoldable pub sample_image : List ℕ
sample_image =
    (3 ∷ replicate 7 0)
    ++ ((2 ∷ 1 ∷ replicate 7 0)
    ++ ((3 ∷ 3 ∷ replicate 7 0)
    ++ ((0 ∷ 2 ∷ []) ++ ((5 ∷ 8 ∷ replicate 7 0) ++ (45 ∷ 0 ∷ 0 ∷ 0 ∷ 2 ∷ 1 ∷ 1 ∷ 0 ∷ [])))))

sample_saved : image sample ≡ sample_image
unfolding computes spelled_out sample sample_image
sample_saved = refl

sample_loads : load sample_image ≡ loaded sample
unfolding computes spelled_out sample sample_image
sample_loads = refl

-- What precedes an image is not read.
sample_loads_behind : load (7 ∷ 255 ∷ 16 ∷ sample_image) ≡ loaded sample
unfolding computes spelled_out sample sample_image
sample_loads_behind = refl

-- A buffer with room keeps what lies behind the image.
fresh_saved : save fresh (replicate 18 9) ≡ (written 16, replicate 8 0 ++ (16 ∷ replicate 7 0) ++ (9 ∷ 9 ∷ []))
unfolding computes
fresh_saved = refl

fresh-not_saved : save fresh (replicate 15 9) ≡ (too_short 9 0, replicate 15 9)
unfolding computes
fresh-not_saved = refl

-- ---- images that are refused, with the state at hand kept
-- An image of so many roles, conflicts and seats, with MaxRole's set.
unfoldable pub an_image : ℕ → List ℕ → ℕ → ℕ → ℕ → List ℕ
an_image top entries roles seats conflicts =
    bytes_of 8 top ++ (entries ++ (bytes_of 4 (16 + 9 * roles + 9 * seats + 2 * conflicts) ++ (roles ∷ seats ∷ conflicts ∷ 0 ∷ [])))

-- The bytes of a role or a seat with its set.
abbrev row : ℕ → ℕ → List ℕ
row n s = n ∷ bytes_of 8 s

fifteen_bytes : load_over sample (replicate 15 0) ≡ (refused 6 0, sample)
unfolding computes
fifteen_bytes = refl

wrong_distance : load (replicate 8 0 ++ (17 ∷ replicate 7 0)) ≡ not_loaded 6 0
unfolding computes
wrong_distance = refl

beyond_the_bytes : load (replicate 8 0 ++ (25 ∷ 0 ∷ 0 ∷ 0 ∷ 1 ∷ 0 ∷ 0 ∷ 0 ∷ [])) ≡ not_loaded 6 0
unfolding computes
beyond_the_bytes = refl

end_role_entry : load (an_image 1 (row 1 1) 1 0 0) ≡ not_loaded 7 0
unfolding computes an_image
end_role_entry = refl

roles_descend : load (an_image 3 (row 3 1 ++ row 2 2) 2 0 0) ≡ not_loaded 7 0
unfolding computes an_image
roles_descend = refl

conflict_reversed : load (an_image 0 (2 ∷ 1 ∷ []) 0 0 1) ≡ not_loaded 7 0
unfolding computes an_image
conflict_reversed = refl

empty_seat : load (an_image 1 (row 2 1 ++ row 0 0) 1 1 0) ≡ not_loaded 7 0
unfolding computes an_image
empty_seat = refl

seat_of_absent_role : load (an_image 1 (row 2 1 ++ row 0 8) 1 1 0) ≡ not_loaded 7 0
unfolding computes an_image
seat_of_absent_role = refl

empty_role_entry : load (an_image 1 (row 2 0) 1 0 0) ≡ not_loaded 8 0
unfolding computes an_image
empty_role_entry = refl

twin_entry : load (an_image 1 (row 2 1 ++ row 3 1) 2 0 0) ≡ not_loaded 8 0
unfolding computes an_image
twin_entry = refl

pair_in_role : load (an_image 3 (row 2 3 ++ (0 ∷ 1 ∷ [])) 1 0 1) ≡ not_loaded 8 0
unfolding computes an_image
pair_in_role = refl

pair_in_seat : load (an_image 3 (row 2 1 ++ (row 3 2 ++ ((0 ∷ 1 ∷ []) ++ row 9 12))) 2 1 1) ≡ not_loaded 8 0
unfolding computes an_image
pair_in_seat = refl

top_lacks : load (an_image 1 (row 2 2) 1 0 0) ≡ not_loaded 8 0
unfolding computes an_image
top_lacks = refl

-- ---- at the edges
thirty_one : step fresh (take 31 (plain 12 0 0)) ≡ (refused 1 0, fresh)
unfolding computes spelled_out
thirty_one = refl

thirty_two : step fresh (plain 12 0 0) ≡ (answered false, fresh)
unfolding computes spelled_out
thirty_two = refl

thirty_three : step fresh (plain 12 0 0 ++ (0 ∷ [])) ≡ (refused 1 0, fresh)
unfolding computes spelled_out
thirty_three = refl

sixty_three : step fresh (plain 12 0 63) ≡ (answered false, fresh)
unfolding computes spelled_out
sixty_three = refl

sixty_four : step fresh (plain 12 0 64) ≡ (refused 2 64, fresh)
unfolding computes spelled_out
sixty_four = refl

sixteen : length (image fresh) ≡ 16
unfolding computes
sixteen = refl

-- Refusal 1 before any field: kind 3 with b 2 and a role number that does not exist.
fields_unseen : step fresh (plain 3 200 2) ≡ (refused 1 0, fresh)
unfolding computes spelled_out
fields_unseen = refl

unknown_kind : step fresh (plain 13 0 0) ≡ (refused 1 0, fresh)
unfolding computes spelled_out
unknown_kind = refl

unused_set : step fresh (call 2 2 0 (single 1) empty (single 63)) ≡ (refused 1 0, fresh)
unfolding computes spelled_out
unused_set = refl
