-- A fresh state has the invariants.
-- Assumes nothing.
use mathlib.Core.Path.{sym, subst}
use mathlib.Core.Bool.{not}
use Prim.Native.Nat.{ℕ, ◌<◌, ◌^◌}
use lib.ListN.{replicate, length-replicate}
use lib.Pow.{pow_pos}
use lib.Dec.{T}
use Rattle.sets.specs.Sets.{empty, member}
use Rattle.sets.proofs.Tests.{both}
use Rattle.sets.proofs.Members.{in_empty}
use Rattle.graph.specs.Tables.{at}
use Rattle.graph.specs.Graph.{role_count, privilege_count, is_end, ordinary, present, effective}
use Rattle.graph.specs.Graph as graph
use Rattle.graph.specs.Conflicts.{holds_pair}
use Rattle.graph.specs.Invariants.{Table}
use Rattle.graph.proofs.Tables.{at-replicate}
use Rattle.graph.proofs.Conflicts.{pair_found, conflict_parts}
use Rattle.seats.specs.Seats.{fresh, seat_count, assigned, pair_seat}
use Rattle.seats.specs.Invariants.{Invariant}

nothing_in : (n i p : ℕ) → T (member p (at (replicate n empty) i)) → ⊥
nothing_in n i p m = in_empty p (subst (λ (s : ℕ). T (member p s)) (at-replicate n i) m)

pub empty-table : (n w : ℕ) → Table n w (replicate n empty)
empty-table n w = record { whole = length-replicate n empty; entry_lt = λ i. subst (λ (s : ℕ). s < 2 ^ w) (sym (at-replicate n i)) (pow_pos w) }

no_pair : (n s : ℕ) → T (holds_pair (replicate n empty) s) → ⊥
no_pair n s t = let (p, q, m, k, u) = pair_found (replicate n empty) s t in nothing_in n p q (conflict_parts (replicate n empty) p q u).1

no_ordinary : (r : ℕ) → T (ordinary graph.fresh r) → ⊥
unfolding ordinary graph.fresh
no_ordinary r o = in_empty r (both (not (is_end r)) (member r empty) o).1

pub fresh_keeps : Invariant fresh
unfolding fresh graph.fresh present effective assigned pair_seat
fresh_keeps = record {
  graph = record {
    formed = record {
      roles_lt = pow_pos role_count;
      roles_ordinary = λ r m. absurd (in_empty r m);
      sets = empty-table role_count privilege_count;
      held = λ p r m. absurd (nothing_in role_count r p m);
      top_whole = λ r o. absurd (no_ordinary r o);
    };
    distinct = record { non_empty = λ r o. absurd (no_ordinary r o); different = λ r s o. absurd (no_ordinary r o) };
    paired = record { table = empty-table privilege_count privilege_count; ascending = λ p q m. absurd (nothing_in privilege_count p q m) };
    pair_free = λ r o. absurd (no_ordinary r o);
  };
  seats = empty-table seat_count role_count;
  seated = λ i r m. absurd (nothing_in seat_count i r m);
  seat_free = λ i l t. no_pair privilege_count _ t;
}
