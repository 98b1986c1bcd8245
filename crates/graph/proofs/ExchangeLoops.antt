-- Loops over the roles in a set that change their entries of a table alike.
-- Assumes nothing.
use mathlib.Core.Path.{◌≡◌, refl, sym, ap, ◌∙◌}
use mathlib.Core.Bool.{Bool, true, false, cond, not, ◌&&◌, ◌||◌}
use mathlib.Core.List.{List, [], ◌∷◌, ◌++◌}
use Prim.Native.Nat.{ℕ, ◌<◌, ◌^◌}
use lib.ListN.{set}
use Rattle.sets.specs.Sets.{member, union, difference, when, members}
use Rattle.sets.proofs.Laws.{member-union, member-difference, equal_members, union-empty, difference-empty}
use Rattle.sets.proofs.Ascending.{seen}
use Rattle.graph.specs.Tables.{at, table}
use Rattle.graph.specs.Graph.{role_count}
use Rattle.graph.proofs.Loops.{Filling, filling_next, filling_done}
use Rattle.graph.proofs.DrawingCode.{table_cong}

-- Taking out away and joining put a second time changes nothing.
exchanged_twice : (x out put : ℕ) → union (difference (union (difference x out) put) out) put ≡ union (difference x out) put
exchanged_twice x out put =
    equal_members (union (difference (union (difference x out) put) out) put) (union (difference x out) put)
    (λ n.
    member-union n (difference (union (difference x out) put) out) put
    ∙ ap (λ (b : Bool). b || member n put) (member-difference n (union (difference x out) put) out ∙ ap (λ (b : Bool). b && not (member n out)) (once n))
    ∙ test (member n x) (member n out) (member n put)
    ∙ sym (once n))
  where
    once : (n : ℕ) → member n (union (difference x out) put) ≡ (member n x && not (member n out)) || member n put
    once n = member-union n (difference x out) put ∙ ap (λ (b : Bool). b || member n put) (member-difference n x out)

    test : (a o p : Bool) → (((a && not o) || p) && not o) || p ≡ (a && not o) || p
    test true true true = refl
    test true true false = refl
    test true false true = refl
    test true false false = refl
    test false true true = refl
    test false true false = refl
    test false false true = refl
    test false false false = refl

-- One turn changes the entry of n, whether or not it was changed before.
pub exchanged_next : (out put : ℕ) (old xs l : List ℕ) → Filling (λ r. union (difference (at old r) out) put) (at old) xs l → (n : ℕ) {s : ℕ} → n < role_count → s ≡ union (difference (at l n) out) put
    → Filling (λ r. union (difference (at old r) out) put) (at old) (xs ++ (n ∷ [])) (set l n s)
exchanged_next out put old xs l w n h e = filling_next w h (e ∙ ap (λ (s : ℕ). union (difference s out) put) (w.got n) ∙ part (seen xs n))
  where
    part : (b : Bool) → union (difference (cond b (union (difference (at old n) out) put) (at old n)) out) put ≡ union (difference (at old n) out) put
    part true = exchanged_twice (at old n) out put
    part false = refl

-- With out taken away and put joined where a role was seen, at the end that is done in the entry of each member.
pub exchanged_done : (out put : ℕ) (old xs l : List ℕ) (all : ℕ) → Filling (λ r. union (difference (at old r) out) put) (at old) xs l → all < 2 ^ role_count → xs ≡ members role_count all
    → l ≡ table role_count (λ r. union (difference (at old r) (when (member r all) out)) (when (member r all) put))
unfolding when
exchanged_done out put old xs l all w h e = filling_done all w h e ∙ table_cong role_count _ _ (λ r _. part (member r all) (at old r))
  where
    part : (b : Bool) (x : ℕ) → cond b (union (difference x out) put) x ≡ union (difference x (when b out)) (when b put)
    part true x = refl
    part false x = sym (union-empty (difference x 0) ∙ difference-empty x)
