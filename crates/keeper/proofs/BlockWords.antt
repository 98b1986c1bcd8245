-- The words of a sitting as its tables: what writing them leaves, and what a block's first words are.
-- Assumes nothing.
use mathlib.Core.Path.{◌≡◌, sym, ap, ap₂, ◌∙◌}
use mathlib.Core.Bool.{◌&&◌}
use mathlib.Core.List.{List, [], ◌∷◌, ◌++◌, append-nil}
use Prim.Native.Nat.{ℕ, ◌+◌, ◌-◌, ◌≤◌}
use native.Mathlib.Omega.{arith}
use borrow.Rule.Slice.PartMut.{put_mid, same_len_mid}
use lib.ListN.{length, get_or, take, drop, set, length-drop, length-set, take-append-drop, drop_of_length-le}
use lib.Seq.{length-take-le, drop-cons, take-take, get_or-take}
use Rattle.std.proofs.lemmas.List.{drop-take}
use lib.Dec.{T, leb, leb→le}
use Rattle.sets.proofs.Tests.{both}
use Rattle.graph.specs.Graph.{role_count, privilege_count}
use Rattle.graph.specs.Reading.{sets_in}
use Rattle.seats.specs.Seats.{seat_count}
use Rattle.seats.specs.Reading.{state_of}
use Rattle.sittings.specs.Reading.{sitting_of}
use Rattle.keeper.specs.Block.{sets_word, conflicts_word, seats_word, pairs_word, active_word, block_length, table_at, sets_of, conflicts_of, seats_of, pairs_of, active_of, sitting_in, words_of, holding}
use Rattle.keeper.proofs.LaidTables.{cut, past, laid, laid_cut, stands, cut_put}

-- A table has its words.
pub table_whole : (W : List ℕ) (i n : ℕ) → i + n ≤ length W → length (table_at W i n) ≡ n
table_whole W i n l = length-take-le n (drop i W) (simp length-drop (omega arith))

-- How many words each table of a block has, the word of the roles first.
abbrev pub sizes : List ℕ
sizes = 1 ∷ role_count ∷ privilege_count ∷ seat_count ∷ role_count ∷ seat_count ∷ []

-- The tables of these words.
abbrev pub tables : ℕ → List ℕ → List ℕ → List ℕ → List ℕ → List ℕ → List (List ℕ)
tables roles sets conflicts seats pairs active = (roles ∷ []) ∷ sets ∷ conflicts ∷ seats ∷ pairs ∷ active ∷ []

-- The words X have these tables.
pub record Has (X : List ℕ) (m : List (List ℕ)) : Type 0 where
  pub long : length X ≡ block_length
  pub same_tables : cut sizes 0 X ≡ m

-- The words of a sitting have their own tables.
pub has_own : (W : List ℕ) → length W ≡ block_length → Has W (tables (get_or W 0 0) (sets_of W) (conflicts_of W) (seats_of W) (pairs_of W) (active_of W))
unfolding cut
has_own W l = record {
  long = l;
  same_tables = ap (λ (k : List ℕ). take 1 k ∷ cut (role_count ∷ privilege_count ∷ seat_count ∷ role_count ∷ seat_count ∷ []) 1 W) (drop-cons W 0 0 (omega arith));
}

-- Table k written over by the table t, which is as long.
has_put : {X w t : List ℕ} {m : List (List ℕ)} (a n k : ℕ) → T (leb (a + n) block_length && stands a n sizes 0 k) → Has X m
    → length w ≡ length (table_at X a n) → w ≡ t → Has (put_mid a n X w) (set m k t)
has_put {X} {w} a n k h x same e =
    let (p, q) = both (leb (a + n) block_length) (stands a n sizes 0 k) h in
    let l = x.long in
    let f : a + n ≤ block_length = leb→le (a + n) block_length p in
    record {
      long = same_len_mid a n X w same ∙ l;
      same_tables = cut_put X w a n same (omega arith) sizes 0 k q ∙ ap₂ (λ (m : List (List ℕ)) (y : List ℕ). set m k y) x.same_tables e;
    }

-- The word of the roles written.
pub roles_put : {X : List ℕ} {r : ℕ} {S C A P U : List ℕ} → Has X (tables r S C A P U) → (k : ℕ) → Has (set X 0 k) (tables k S C A P U)
unfolding cut
roles_put {X = []} x k = let l = x.long in absurd (omega arith)
roles_put {X = y ∷ X} x k = record { long = x.long; same_tables = ap (λ (m : List (List ℕ)). set m 0 (k ∷ [])) x.same_tables }

-- Each of the tables copied or changed.
module _ {X w t : List ℕ} {r : ℕ} {S C A P U : List ℕ} (x : Has X (tables r S C A P U)) where
  pub sets_put : length w ≡ length (sets_of X) → w ≡ t → Has (put_mid sets_word role_count X w) (tables r t C A P U)
  unfolding stands
  sets_put same e = has_put sets_word role_count 1 tt x same e

  pub conflicts_put : length w ≡ length (conflicts_of X) → w ≡ t → Has (put_mid conflicts_word privilege_count X w) (tables r S t A P U)
  unfolding stands
  conflicts_put same e = has_put conflicts_word privilege_count 2 tt x same e

  pub seats_put : length w ≡ length (seats_of X) → w ≡ t → Has (put_mid seats_word seat_count X w) (tables r S C t P U)
  unfolding stands
  seats_put same e = has_put seats_word seat_count 3 tt x same e

  pub pairs_put : length w ≡ length (pairs_of X) → w ≡ t → Has (put_mid pairs_word role_count X w) (tables r S C A t U)
  unfolding stands
  pairs_put same e = has_put pairs_word role_count 4 tt x same e

  pub active_put : length w ≡ length (active_of X) → w ≡ t → Has (put_mid active_word seat_count X w) (tables r S C A P t)
  unfolding stands
  active_put same e = has_put active_word seat_count 5 tt x same e

-- A table in which one word is stored is as long.
pub stored_long : {w : List ℕ} (t : List ℕ) (e v : ℕ) → w ≡ set t e v → length w ≡ length t
stored_long t e v q = ap length q ∙ length-set t e v

-- Words with these tables are those of their sitting.
pub has_words : {X : List ℕ} {r : ℕ} {S C A P U : List ℕ} → Has X (tables r S C A P U) → X ≡ words_of (sitting_of (state_of r S C A) P U)
unfolding words_of sets_in past laid
has_words {X = X} x =
    let n = x.long in
    laid_cut sizes 0 X ∙ ap₂ laid x.same_tables (drop_of_length-le X {i = block_length} (omega arith)) ∙ simp append-nil

-- Words as many as a sitting takes are those of the sitting that they hold.
pub words_own : (W : List ℕ) → length W ≡ block_length → words_of (sitting_in W) ≡ W
words_own W l = sym (has_words (has_own W l))

-- ---- the first words of a block

-- A table among the first words is the block's.
table_first : (W : List ℕ) (i n : ℕ) → i + n ≤ block_length → table_at (take block_length W) i n ≡ table_at W i n
table_first W i n h =
    let e : i + (block_length - i) ≡ block_length = omega arith in
    ap (λ (k : ℕ). table_at (take k W) i n) (sym e) ∙ ap (take n) (drop-take i (block_length - i) W) ∙ take-take n (block_length - i) (drop i W) (omega arith)

-- Their sitting is the block's.
pub sitting_first : (W : List ℕ) → sitting_in (take block_length W) ≡ sitting_in W
sitting_first W =
    rw (get_or-take block_length W 0 0 (omega arith), table_first W sets_word role_count (omega arith), table_first W conflicts_word privilege_count (omega arith), table_first W seats_word seat_count (omega arith), table_first W pairs_word role_count (omega arith), table_first W active_word seat_count (omega arith))

-- They are the words of the block's sitting.
pub words_first : (W : List ℕ) → block_length ≤ length W → words_of (sitting_in W) ≡ take block_length W
words_first W l = ap words_of (sym (sitting_first W)) ∙ words_own (take block_length W) (length-take-le block_length W l)

-- A block holds its own sitting.
pub holds_own : (W : List ℕ) → block_length ≤ length W → holding (sitting_in W) W ≡ W
unfolding holding
holds_own W l = ap (λ (F : List ℕ). F ++ drop block_length W) (words_first W l) ∙ take-append-drop block_length W
