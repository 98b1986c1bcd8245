-- Document 01, "Lists of calls": records taken one by one, and the list without its refused ones, for any step.
use Rattle.std.specs.Prelude.{Bool, cond, List, [], ◌∷◌}

-- The answers to a list of records and the state at its end.
unfoldable pub run : {S R A : Type 0} → (S → R → A × S) → S → List R → List A × S
run step s [] = ([], s)
run step s (r ∷ l) =
    let next = step s r in
    let rest = run step next.1 l in
    (next.0 ∷ rest.0, rest.1)

-- The entries of a list beside whose answers there is no refusal.
unfoldable pub unrefused : {X A : Type 0} → (A → Bool) → List X → List A → List X
unrefused refused [] answers = []
unrefused refused (x ∷ l) [] = x ∷ l
unrefused refused (x ∷ l) (a ∷ answers) = cond (refused a) (unrefused refused l answers) (x ∷ unrefused refused l answers)

-- The entries of a list that pass.
unfoldable pub chosen : {X : Type 0} → (X → Bool) → List X → List X
chosen mine [] = []
chosen mine (x ∷ l) = cond (mine x) (x ∷ chosen mine l) (chosen mine l)

-- The records of a list that are not refused and pass: what a lower layer of the state sees of it.
unfoldable pub seen : {Z R A : Type 0} → (Z → R → A × Z) → (A → Bool) → (R → Bool) → Z → List R → List R
seen step refused mine z l = chosen mine (unrefused refused l (run step z l).0)

-- What the records make of b, one after the other.
unfoldable pub trace : {R B : Type 0} → (R → B → B) → B → List R → B
trace change b [] = b
trace change b (r ∷ l) = trace change (change r b) l

-- Each entry of a list is so.
unfoldable pub Each : {X : Type 0} → (X → Type 0) → List X → Type 0
Each P [] = Unit {0}
Each P (x ∷ l) = P x × Each P l

-- A chain of states and answers in which each link is what the promise says of a state and a record.
pub data Chain {S R A : Type 0} (Promise : S → R → A → S → Type 0) : S → List R → List A → S → Type 0 where
  done : {s : S} → Chain Promise s [] [] s
  link : {s t u : S} {r : R} {a : A} {l : List R} {m : List A} → Promise s r a t → Chain Promise t l m u → Chain Promise s (r ∷ l) (a ∷ m) u

-- What the records that are not refused make of b, each with the state that it leaves.
unfoldable pub trace_in : {S R A B : Type 0} → (S → R → A × S) → (A → Bool) → (R → S → B → B) → B → S → List R → B
trace_in step refused change b s [] = b
trace_in step refused change b s (r ∷ l) =
    let next = step s r in
    trace_in step refused change (cond (refused next.0) b (change r next.1 b)) next.1 l
