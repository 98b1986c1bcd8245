-- The laws of lists of records, for any step: what each step keeps a list keeps, and refused records may be left out.
-- Assumes nothing.
use mathlib.Core.Path.{◌≡◌, refl, sym, ap, ◌∙◌, subst}
use mathlib.Core.Bool.{Bool, true, false, cond, not}
use mathlib.Core.List.{List, [], ◌∷◌, ◌++◌, map}
use Prim.Native.Nat.{suc}
use lib.Dec.{T}
use lib.ListN.{length}
use Rattle.lists.specs.Runs.{run, unrefused, trace, trace_in, Each, Chain, done, link}

module _ {A B : Type 0} (refused : A → Bool) (told : B → A) where
  -- What is refused by the answers as they are told is refused by the told answers.
  unrefused_told : {X : Type 0} (l : List X) (m : List B) → unrefused (λ (b : B). refused (told b)) l m ≡ unrefused refused l (map told m)
  unfolding unrefused
  unrefused_told [] m = refl
  unrefused_told (x ∷ l) [] = refl
  unrefused_told {X} (x ∷ l) (b ∷ m) = ap (λ (k : List X). cond (refused (told b)) k (x ∷ k)) (unrefused_told l m)

  -- The told answers of those that are left are those left of the told answers.
  map_unrefused : (l m : List B) → map told (unrefused (λ (b : B). refused (told b)) l m) ≡ unrefused refused (map told l) (map told m)
  unfolding unrefused
  map_unrefused [] m = refl
  map_unrefused (x ∷ l) [] = refl
  map_unrefused (x ∷ l) (b ∷ m) = go (refused (told b)) (map_unrefused l m)
    where
      rest : List B
      rest = unrefused (λ (b : B). refused (told b)) l m

      go : (t : Bool) {k : List A} → map told rest ≡ k → map told (cond t rest (x ∷ rest)) ≡ cond t k (told x ∷ k)
      go true e = e
      go false e = ap (λ (k : List A). told x ∷ k) e

module _ {S R A : Type 0} (step : S → R → A × S) where
  -- What every step keeps holds at the end.
  pub run_keeps : (Ok : R → Type 0) (I : S → Type 0) → ((s : S) (r : R) → Ok r → I s → I (step s r).1)
      → (s : S) (l : List R) → Each Ok l → I s → I (run step s l).1
  unfolding run Each
  run_keeps Ok I keep s [] o i = i
  run_keeps Ok I keep s (r ∷ l) (o, os) i = run_keeps Ok I keep (step s r).1 l os (keep s r o i)

  -- One list after another: the second starts where the first ends.
  pub run_append : (s : S) (l m : List R) → run step s (l ++ m) ≡ ((run step s l).0 ++ (run step (run step s l).1 m).0, (run step (run step s l).1 m).1)
  unfolding run
  run_append s [] m = refl
  run_append s (r ∷ l) m = ap (λ (p : List A × S). ((step s r).0 ∷ p.0, p.1)) (run_append (step s r).1 l m)

  -- There is an answer to each record.
  pub answers_length : (s : S) (l : List R) → length (run step s l).0 ≡ length l
  unfolding run
  answers_length s [] = refl
  answers_length s (r ∷ l) = ap suc (answers_length (step s r).1 l)

  -- A chain of links, each of which is a step as the definitions' states and answers read it, is the run.
  pub chain_runs : {C B : Type 0} (read : C → S) (told : B → A) (P : C → R → B → C → Type 0)
      → ((c : C) (r : R) (b : B) (d : C) → P c r b d → step (read c) r ≡ (told b, read d))
      → {c d : C} {l : List R} {m : List B} → Chain P c l m d → run step (read c) l ≡ (map told m, read d)
  unfolding run
  chain_runs read told P meets done = refl
  chain_runs read told P meets (link {s = c} {t = d} {r = r} {a = b} {l = l} p rest) =
      ap (λ (q : A × S). (q.0 ∷ (run step q.1 l).0, (run step q.1 l).1)) (meets c r b d p)
      ∙ ap (λ (q : List A × S). (told b ∷ q.0, q.1)) (chain_runs read told P meets rest)

  module _ (refused : A → Bool) (kept : (s : S) (r : R) → T (refused (step s r).0) → (step s r).1 ≡ s) where
    -- The list without its refused records gives the others the answers they had, and ends in the same state.
    pub run_unrefused : (s : S) (l : List R) → run step s (unrefused refused l (run step s l).0) ≡ (unrefused refused (run step s l).0 (run step s l).0, (run step s l).1)
    unfolding run unrefused
    run_unrefused s [] = refl
    run_unrefused s (r ∷ l) = go (refused (step s r).0) refl (run_unrefused (step s r).1 l)
      where
        answers : List A
        answers = (run step (step s r).1 l).0

        end : S
        end = (run step (step s r).1 l).1

        l' : List R
        l' = unrefused refused l answers

        m' : List A
        m' = unrefused refused answers answers

        go : (b : Bool) → refused (step s r).0 ≡ b → run step (step s r).1 l' ≡ (m', end) → run step s (cond b l' (r ∷ l')) ≡ (cond b m' ((step s r).0 ∷ m'), end)
        go true e same = ap (λ (z : S). run step z l') (sym (kept s r (subst T (sym e) tt))) ∙ same
        go false e same = ap (λ (p : List A × S). ((step s r).0 ∷ p.0, p.1)) same

    -- A chain over the records that another did not refuse, from the same start, gives them the answers they had and ends alike.
    pub chain_unrefused : {C B : Type 0} (read : C → S) (told : B → A) (P : C → R → B → C → Type 0)
        → ((c : C) (r : R) (b : B) (d : C) → P c r b d → step (read c) r ≡ (told b, read d))
        → {c d e : C} {l : List R} {m k : List B} → Chain P c l m d → Chain P c (unrefused (λ (b : B). refused (told b)) l m) k e
        → (map told k ≡ map told (unrefused (λ (b : B). refused (told b)) m m)) × (read e ≡ read d)
    chain_unrefused {C} {B} read told P meets {c} {d} {e} {l} {m} {k} chain shorter =
        let x = chain_runs read told P meets chain in
        let y = sym (chain_runs read told P meets shorter) ∙ ap (run step (read c)) (unrefused_told refused told l m) in
        let z = y ∙ ap (λ (q : List A × S). run step (read c) (unrefused refused l q.0)) (sym x) ∙ run_unrefused (read c) l ∙ ap (λ (q : List A × S). (unrefused refused q.0 q.0, q.1)) x in (
          ap (λ (q : List A × S). q.0) z ∙ sym (map_unrefused refused told m m),
          ap (λ (q : List A × S). q.1) z,
        )

    -- What a part of the state is at the end, by the records that were not refused.
    pub run_trace : {B : Type 0} (part : S → B) (change : R → B → B) (Ok : R → Type 0) (I : S → Type 0)
        (keep : (s : S) (r : R) → Ok r → I s → I (step s r).1)
        (by : (s : S) (r : R) → I s → T (not (refused (step s r).0)) → part (step s r).1 ≡ change r (part s))
        (s : S) (l : List R) → Each Ok l → I s → part (run step s l).1 ≡ trace change (part s) (unrefused refused l (run step s l).0)
    unfolding run unrefused trace Each
    run_trace part change Ok I keep by s [] o i = refl
    run_trace {B} part change Ok I keep by s (r ∷ l) (o, os) i =
        go (refused (step s r).0) refl (run_trace part change Ok I keep by (step s r).1 l os (keep s r o i))
      where
        l' : List R
        l' = unrefused refused l (run step (step s r).1 l).0

        end : B
        end = part (run step (step s r).1 l).1

        go : (b : Bool) → refused (step s r).0 ≡ b → end ≡ trace change (part (step s r).1) l' → end ≡ trace change (part s) (cond b l' (r ∷ l'))
        go true e same = same ∙ ap (λ (z : S). trace change (part z) l') (kept s r (subst T (sym e) tt))
        go false e same = same ∙ ap (λ (z : B). trace change z l') (by s r i (subst (λ (b : Bool). T (not b)) (sym e) tt))

    -- The same where a record says what becomes of the part by the state that it leaves.
    pub run_trace_in : {B : Type 0} (part : S → B) (change : R → S → B → B) (Ok : R → Type 0) (I : S → Type 0)
        (keep : (s : S) (r : R) → Ok r → I s → I (step s r).1)
        (by : (s : S) (r : R) → I s → T (not (refused (step s r).0)) → part (step s r).1 ≡ change r (step s r).1 (part s))
        (s : S) (l : List R) → Each Ok l → I s → part (run step s l).1 ≡ trace_in step refused change (part s) s l
    unfolding run trace_in Each
    run_trace_in part change Ok I keep by s [] o i = refl
    run_trace_in {B} part change Ok I keep by s (r ∷ l) (o, os) i =
        run_trace_in part change Ok I keep by (step s r).1 l os (keep s r o i) ∙ ap (λ (b : B). trace_in step refused change b (step s r).1 l) (go (refused (step s r).0) refl)
      where
        go : (b : Bool) → refused (step s r).0 ≡ b → part (step s r).1 ≡ cond b (part s) (change r (step s r).1 (part s))
        go true e = ap part (kept s r (subst T (sym e) tt))
        go false e = by s r i (subst (λ (b : Bool). T (not b)) (sym e) tt)
