-- What a loop that collects roles keeps, where it goes over the members of a set by the set that is left: what is left to visit, and what was collected so far.
-- Assumes nothing.
use mathlib.Core.Path.{◌≡◌, refl, sym, subst}
use mathlib.Core.Bool.{Bool, ◌&&◌}
use mathlib.Core.Logic.{◌≢◌}
use Prim.Native.Nat.{ℕ, ◌<◌, ◌^◌}
use lib.Dec.{T}
use lib.Pow.{pow_pos}
use Rattle.sets.specs.Sets.{member, single, union, when, collect, lowest_member, without_lowest}
use Rattle.sets.proofs.Laws.{union-lt, when-lt, single-lt}
use Rattle.sets.proofs.Visited.{lowest_below, next_lt, next_within, Collected, collect_none, collect_next, collect_done}
use Rattle.graph.specs.Graph.{role_count}

-- What is left to visit of the members of `all`, a set of w digits.
pub record Left (w all rest : ℕ) : Type 0 where
  pub small : all < 2 ^ w
  pub fits : rest < 2 ^ w
  pub within : (n : ℕ) → T (member n rest) → T (member n all)

pub left_all : (w all : ℕ) → all < 2 ^ w → Left w all all
left_all w all h = record { small = h; fits = h; within = λ n m. m }

module _ {w all rest : ℕ} (l : Left w all rest) (some : rest ≢ 0) where
  -- The lowest member left is a place of a table.
  pub left_lowest : {n : ℕ} → n ≡ lowest_member w rest → n < w
  left_lowest e = subst (λ (i : ℕ). i < w) (sym e) (lowest_below w rest l.fits some)

  pub left_next : Left w all (without_lowest w rest)
  left_next = record { small = l.small; fits = next_lt w rest l.fits; within = λ n m. l.within n (next_within w rest n m) }

-- What was collected are the members visited that pass.
pub record Collecting (f : ℕ → Bool) (all rest acc : ℕ) : Type 0 where
  pub left : Left role_count all rest
  pub below : acc < 2 ^ role_count
  pub got : Collected f all rest acc

pub collecting_none : (f : ℕ → Bool) (all : ℕ) → all < 2 ^ role_count → Collecting f all all 0
collecting_none f all h = record { left = left_all role_count all h; below = pow_pos role_count; got = collect_none f all }

-- One turn puts n, the lowest member left, in where it passes.
pub collecting_next : {f : ℕ → Bool} {all rest acc : ℕ} → Collecting f all rest acc → rest ≢ 0
    → {n next one put : ℕ} → n ≡ lowest_member role_count rest → next ≡ without_lowest role_count rest → one ≡ single n → put ≡ union acc (when (f n) one)
    → Collecting f all next put
collecting_next {f} {all} {rest} {acc} c some p q o e =
    let m = lowest_member role_count rest in
    rw (q, e, o, p) (record {
      left = left_next c.left some;
      below = union-lt role_count _ _ c.below (when-lt role_count (f m) (single m) (single-lt role_count m (left_lowest c.left some refl)));
      got = collect_next f role_count all rest acc c.left.fits some c.left.within c.got;
    })

pub collecting_done : {f : ℕ → Bool} {all rest acc : ℕ} → Collecting f all rest acc → rest ≡ 0 → acc ≡ collect role_count (λ n. member n all && f n)
collecting_done {f} {all} {rest} {acc} c z =
    collect_done f role_count all acc c.left.small c.below (subst (λ (r : ℕ). Collected f all r acc) z c.got)
