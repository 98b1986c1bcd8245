-- Document 01, "Lists of calls": a judged call is refused and leaves the state, or it is accepted; for any state and answer.

-- What judging a call comes to: nothing refuses it, or an answer does.
pub data Judged (A : Type 0) : Type 0 where
  passed : Judged A
  refused : A → Judged A

-- A refusal leaves the state s as it was; without one the answer is a and the state h.
unfoldable pub settle : {S A : Type 0} → Judged A → A → S → S → A × S
settle passed a s h = (a, h)
settle (refused r) a s h = (r, s)
