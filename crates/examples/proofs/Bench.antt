-- Document 01, "Bench examples": the ten as theorems by evaluation, gathered in `bench`.
-- Assumes nothing.
use mathlib.Core.Path.{◌≡◌, refl, ap, ◌∙◌}
use mathlib.Core.Bool.{true}
use mathlib.Core.List.{List, [], ◌∷◌, ◌++◌}
use Prim.Native.Nat.{ℕ}
use lib.ListN.{set, take, replicate}
use Rattle.sets.specs.Sets.{single}
use Rattle.graph.specs.Graph.{effective}
use Rattle.graph.specs.Drawing.{below, direct, edge_count}
use Rattle.graph.proofs.Examples.{set_of, table-one, one_to_eight}
use Rattle.lists.specs.Runs.{run}
use Rattle.seats.specs.Seats.{State, fresh}
use Rattle.seats.specs.Calls.{Answer, accepted, refused}
use Rattle.seats.specs.Records.{step}
use Rattle.seats.specs.Lists.{answers, end}
use Rattle.seats.specs.Computes.{computes}
use Rattle.seats.proofs.Examples.{plain, add, state_of, A, spelled_out}

-- The first n rows of the bench graph.
unfoldable pub A_of : ℕ → State
A_of n = state_of (take n table-one)

-- ---- the bench graph built by eight calls
build_2 : step fresh (add 2 (1 ∷ [])) ≡ (accepted, A_of 1)
unfolding computes spelled_out A_of
build_2 = refl

build_3 : step (A_of 1) (add 3 (2 ∷ [])) ≡ (accepted, A_of 2)
unfolding computes spelled_out A_of
build_3 = refl

build_4 : step (A_of 2) (add 4 (1 ∷ 3 ∷ 4 ∷ [])) ≡ (accepted, A_of 3)
unfolding computes spelled_out A_of
build_4 = refl

build_5 : step (A_of 3) (add 5 (1 ∷ 2 ∷ 4 ∷ 5 ∷ [])) ≡ (accepted, A_of 4)
unfolding computes spelled_out A_of
build_5 = refl

build_6 : step (A_of 4) (add 6 (1 ∷ 2 ∷ 5 ∷ 6 ∷ [])) ≡ (accepted, A_of 5)
unfolding computes spelled_out A_of
build_6 = refl

build_7 : step (A_of 5) (add 7 (2 ∷ 7 ∷ 8 ∷ [])) ≡ (accepted, A_of 6)
unfolding computes spelled_out A_of
build_7 = refl

build_8 : step (A_of 6) (add 8 (one_to_eight ++ (9 ∷ 10 ∷ []))) ≡ (accepted, A_of 7)
unfolding computes spelled_out A_of
build_8 = refl

build_9 : step (A_of 7) (add 9 (one_to_eight ++ (11 ∷ []))) ≡ (accepted, A)
unfolding computes spelled_out A_of
build_9 = refl

-- One more record before a list.
before : (s : State) (r : List ℕ) (l : List (List ℕ)) {t u : State} {a : Answer} {m : List Answer}
    → step s r ≡ (a, t) → run step t l ≡ (m, u) → run step s (r ∷ l) ≡ (a ∷ m, u)
unfolding run
before s r l {a = a} e f =
    ap (λ (p : Answer × State). (p.0 ∷ (run step p.1 l).0, (run step p.1 l).1)) e
    ∙ ap (λ (p : List Answer × State). (a ∷ p.0, p.1)) f

none : (s : State) → run step s [] ≡ ([], s)
unfolding run
none s = refl

unfoldable pub build : List (List ℕ)
build =
    add 2 (1 ∷ [])
    ∷ add 3 (2 ∷ [])
    ∷ add 4 (1 ∷ 3 ∷ 4 ∷ [])
    ∷ add 5 (1 ∷ 2 ∷ 4 ∷ 5 ∷ [])
    ∷ add 6 (1 ∷ 2 ∷ 5 ∷ 6 ∷ [])
    ∷ add 7 (2 ∷ 7 ∷ 8 ∷ [])
    ∷ add 8 (one_to_eight ++ (9 ∷ 10 ∷ []))
    ∷ add 9 (one_to_eight ++ (11 ∷ []))
    ∷ []

built : run step fresh build ≡ (replicate 8 accepted, A)
unfolding build
built =
    before _ _ _ build_2
    (before _ _ _ build_3
    (before _ _ _ build_4
    (before _ _ _ build_5
    (before _ _ _ build_6
    (before _ _ _ build_7
    (before _ _ _ build_8
    (before _ _ _ build_9
    (none A))))))))

-- ---- the ten bench examples
-- A after a grant of 9 to 5, and after one of 10 to 5 then.
unfoldable pub A_3 : State
A_3 = end A (plain 4 5 9 ∷ [])

unfoldable pub A_4 : State
A_4 = end A_3 (plain 4 5 10 ∷ [])

unfoldable pub A_6 : State
A_6 = end A (plain 7 4 8 ∷ [])

example_1 : (edge_count A.graph ≡ 18) × (direct A.graph 8 ≡ set_of (9 ∷ 10 ∷ []))
unfolding computes spelled_out
example_1 = (refl, refl)

example_2 : ((step A (add 10 (9 ∷ 10 ∷ 11 ∷ []))).0 ≡ accepted) × (edge_count (end A (add 10 (9 ∷ 10 ∷ 11 ∷ []) ∷ [])).graph ≡ 20)
unfolding computes spelled_out
example_2 = (refl, refl)

example_3 : ((step A (plain 4 5 9)).0 ≡ accepted) × (direct A_3.graph 8 ≡ single 10) × (effective A_3.graph 9 ≡ set_of (one_to_eight ++ (9 ∷ 11 ∷ [])))
unfolding computes spelled_out A_3
example_3 = (refl, refl, refl)

example_4 : ((step A_3 (plain 4 5 10)).0 ≡ accepted) × (below A_4.graph 8 9 ≡ true) × (edge_count A_4.graph ≡ 14)
unfolding computes spelled_out A_3 A_4
example_4 = (refl, refl, refl)

example_5 : (step A_4 (plain 4 5 11)).0 ≡ refused 28 8
unfolding computes spelled_out A_3 A_4
example_5 = refl

example_6 : ((step A (plain 7 4 8)).0 ≡ accepted)
    × (A_6.graph.sets ≡ set A.graph.sets 8 (set_of (1 ∷ 2 ∷ 4 ∷ 5 ∷ 6 ∷ 7 ∷ 8 ∷ 9 ∷ 10 ∷ [])))
    × (edge_count A_6.graph ≡ 17)
unfolding computes spelled_out A_6
example_6 = (refl, refl, refl)

example_7 : step A (plain 7 5 8) ≡ (refused 26 8, A)
unfolding computes spelled_out
example_7 = refl

example_8 : step A (plain 6 8 4) ≡ (refused 25 8, A)
unfolding computes spelled_out
example_8 = refl

example_9 : answers A (plain 8 9 11 ∷ plain 10 0 8 ∷ plain 10 0 9 ∷ plain 4 5 9 ∷ []) ≡ accepted ∷ accepted ∷ refused 30 0 ∷ refused 29 9 ∷ []
unfolding computes spelled_out
example_9 = refl

example_10 : step fresh (plain 1 2 0) ≡ (refused 27 2, fresh)
unfolding computes spelled_out
example_10 = refl

-- The ten, as one table.
pub record Bench : Type 0 where
  pub eight_calls_build_A : run step fresh build ≡ (replicate 8 accepted, A)
  pub one : (edge_count A.graph ≡ 18) × (direct A.graph 8 ≡ set_of (9 ∷ 10 ∷ []))
  pub two : ((step A (add 10 (9 ∷ 10 ∷ 11 ∷ []))).0 ≡ accepted) × (edge_count (end A (add 10 (9 ∷ 10 ∷ 11 ∷ []) ∷ [])).graph ≡ 20)
  pub three : ((step A (plain 4 5 9)).0 ≡ accepted) × (direct A_3.graph 8 ≡ single 10) × (effective A_3.graph 9 ≡ set_of (one_to_eight ++ (9 ∷ 11 ∷ [])))
  pub four : ((step A_3 (plain 4 5 10)).0 ≡ accepted) × (below A_4.graph 8 9 ≡ true) × (edge_count A_4.graph ≡ 14)
  pub five : (step A_4 (plain 4 5 11)).0 ≡ refused 28 8
  pub six : ((step A (plain 7 4 8)).0 ≡ accepted)
      × (A_6.graph.sets ≡ set A.graph.sets 8 (set_of (1 ∷ 2 ∷ 4 ∷ 5 ∷ 6 ∷ 7 ∷ 8 ∷ 9 ∷ 10 ∷ [])))
      × (edge_count A_6.graph ≡ 17)
  pub seven : step A (plain 7 5 8) ≡ (refused 26 8, A)
  pub eight : step A (plain 6 8 4) ≡ (refused 25 8, A)
  pub nine : answers A (plain 8 9 11 ∷ plain 10 0 8 ∷ plain 10 0 9 ∷ plain 4 5 9 ∷ []) ≡ accepted ∷ accepted ∷ refused 30 0 ∷ refused 29 9 ∷ []
  pub ten : step fresh (plain 1 2 0) ≡ (refused 27 2, fresh)

pub bench : Bench
bench = record {
  eight_calls_build_A = built;
  one = example_1;
  two = example_2;
  three = example_3;
  four = example_4;
  five = example_5;
  six = example_6;
  seven = example_7;
  eight = example_8;
  nine = example_9;
  ten = example_10;
}
