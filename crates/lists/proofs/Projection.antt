-- A step over a layered state, for any lower step: where the accepted records are the lower step's, or leave the lower state as it was, a run projects to the lower step's run over the records chosen, none of which it refuses.
-- Assumes nothing.
use mathlib.Core.Path.{◌≡◌, refl, sym, ap, ◌∙◌, subst}
use mathlib.Core.Bool.{Bool, true, false, cond, not}
use mathlib.Core.List.{List, [], ◌∷◌}
use lib.Dec.{T}
use Rattle.lists.specs.Runs.{run, unrefused, chosen, seen, trace, Each}

module _ {S Z R A : Type 0} (step : S → R → A × S) (layered : Z → R → A × Z) (refused : A → Bool) (lower : Z → S) (mine : R → Bool)
    (kept : (z : Z) (r : R) → T (refused (layered z r).0) → (layered z r).1 ≡ z)
    (follows : (z : Z) (r : R) → T (not (refused (layered z r).0)) → T (mine r) → step (lower z) r ≡ ((layered z r).0, lower (layered z r).1))
    (rests : (z : Z) (r : R) → T (not (refused (layered z r).0)) → T (not (mine r)) → lower (layered z r).1 ≡ lower z) where
  -- From s, the records m end in e, and none of them is refused.
  abbrev Ends : S → List R → S → Type 0
  Ends s m e = ((run step s m).1 ≡ e) × (unrefused refused m (run step s m).0 ≡ m)

  -- One record more, whose answer is no refusal, before them.
  ends_more : (s : S) (r : R) (m : List R) (e : S) {a : A} {t : S} → step s r ≡ (a, t) → refused a ≡ false → Ends t m e → Ends s (r ∷ m) e
  unfolding run unrefused
  ends_more s r m e {a} {t} q f ends =
      subst (λ (y : A × S). ((run step y.1 m).1 ≡ e) × (cond (refused y.0) (unrefused refused m (run step y.1 m).0) (r ∷ unrefused refused m (run step y.1 m).0) ≡ r ∷ m)) (sym q)
      (ends.0, rw f (ap (λ (x : List R). r ∷ x) ends.1))

  projected : (z : Z) (l : List R) → Ends (lower z) (seen layered refused mine z l) (lower (run layered z l).1)
  unfolding run unrefused chosen seen
  projected z [] = (refl, refl)
  projected z (r ∷ l) = go (refused (layered z r).0) refl (mine r) refl (projected (layered z r).1 l)
    where
      others : List R
      others = unrefused refused l (run layered (layered z r).1 l).0

      e : S
      e = lower (run layered (layered z r).1 l).1

      go : (b : Bool) → refused (layered z r).0 ≡ b → (k : Bool) → mine r ≡ k → Ends (lower (layered z r).1) (chosen mine others) e → Ends (lower z) (chosen mine (cond b others (r ∷ others))) e
      go true p k q ends = subst (λ (s : S). Ends s (chosen mine others) e) (ap lower (kept z r (subst T (sym p) tt))) ends
      go false p true q ends = rw q (ends_more (lower z) r (chosen mine others) e (follows z r (subst (λ (n : Bool). T (not n)) (sym p) tt) (subst T (sym q) tt)) p ends)
      go false p false q ends =
          rw q (subst (λ (s : S). Ends s (chosen mine others) e) (rests z r (subst (λ (n : Bool). T (not n)) (sym p) tt) (subst (λ (n : Bool). T (not n)) (sym q) tt)) ends)

  -- The lower state at the end is what the lower step makes of the records seen.
  pub state_seen : (z : Z) (l : List R) → (run step (lower z) (seen layered refused mine z l)).1 ≡ lower (run layered z l).1
  state_seen z l = (projected z l).0

  -- The lower step refuses none of them.
  pub none_refused : (z : Z) (l : List R) → unrefused refused (seen layered refused mine z l) (run step (lower z) (seen layered refused mine z l)).0 ≡ seen layered refused mine z l
  none_refused z l = (projected z l).1

-- What each record of a list is, each chosen one, each unrefused one and each one seen is.
pub each_chosen : {R : Type 0} (P : R → Type 0) (mine : R → Bool) (l : List R) → Each P l → Each P (chosen mine l)
unfolding Each chosen
each_chosen P mine [] e = tt
each_chosen P mine (r ∷ l) (h, e) = go (mine r) (each_chosen P mine l e)
  where
    go : (b : Bool) → Each P (chosen mine l) → Each P (cond b (r ∷ chosen mine l) (chosen mine l))
    go true x = (h, x)
    go false x = x

pub each_unrefused : {R A : Type 0} (P : R → Type 0) (refused : A → Bool) (l : List R) (m : List A) → Each P l → Each P (unrefused refused l m)
unfolding Each unrefused
each_unrefused P refused [] m e = tt
each_unrefused P refused (r ∷ l) [] e = e
each_unrefused P refused (r ∷ l) (a ∷ m) (h, e) = go (refused a) (each_unrefused P refused l m e)
  where
    go : (b : Bool) → Each P (unrefused refused l m) → Each P (cond b (unrefused refused l m) (r ∷ unrefused refused l m))
    go true x = x
    go false x = (h, x)

pub each_seen : {Z R A : Type 0} (P : R → Type 0) (layered : Z → R → A × Z) (refused : A → Bool) (mine : R → Bool) (z : Z) (l : List R) → Each P l → Each P (seen layered refused mine z l)
unfolding seen
each_seen P layered refused mine z l e = each_chosen P mine _ (each_unrefused P refused l (run layered z l).0 e)

-- Records that say nothing of b may be left out of what the records make of it.
pub trace-chosen : {R B : Type 0} (mine : R → Bool) (change : R → B → B) → ((r : R) (b : B) → T (not (mine r)) → change r b ≡ b)
    → (b : B) (l : List R) → trace change b (chosen mine l) ≡ trace change b l
unfolding trace chosen
trace-chosen mine change silent b [] = refl
trace-chosen {R} {B} mine change silent b (r ∷ l) = go (mine r) refl (λ c. trace-chosen mine change silent c l)
  where
    go : (k : Bool) → mine r ≡ k → ((c : B) → trace change c (chosen mine l) ≡ trace change c l) → trace change b (cond k (r ∷ chosen mine l) (chosen mine l)) ≡ trace change (change r b) l
    go true q others = others (change r b)
    go false q others = others b ∙ ap (λ (x : B). trace change x l) (sym (silent r b (subst (λ (n : Bool). T (not n)) (sym q) tt)))

-- Where two say the same of each record, they say the same of a list.
pub trace_same : {R B : Type 0} (change other : R → B → B) → ((r : R) (b : B) → change r b ≡ other r b) → (b : B) (l : List R) → trace change b l ≡ trace other b l
unfolding trace
trace_same change other same b [] = refl
trace_same {R} {B} change other same b (r ∷ l) = trace_same change other same (change r b) l ∙ ap (λ (x : B). trace other x l) (same r b)
