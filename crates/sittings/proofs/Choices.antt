-- Kinds 13 to 15 by the verdict on what they name and the checks behind it, and what they offer and store.
-- Assumes nothing.
use mathlib.Core.Path.{◌≡◌, refl, sym, ap, ap₂, ◌∙◌}
use mathlib.Core.Bool.{not}
use mathlib.Core.List.{List, [], ◌∷◌, ◌++◌}
use Prim.Native.Nat.{ℕ, max, ◌<◌}
use native.Mathlib.Omega.{arith}
use borrow.Author.Tests.{lt-ltb}
use lib.Dec.{ltb}
use lib.ListN.{set}
use Rattle.sets.specs.Sets.{single, union, when}
use Rattle.graph.specs.Tables.{at, put}
use Rattle.graph.specs.Graph.{Graph, role_count, ordinary, present, effective}
use Rattle.graph.specs.Drawing.{below}
use Rattle.graph.specs.Refusing.{Check, refuse, passed, verdict, at_or_below, Passes}
use Rattle.graph.specs.Refusing as refusing
use Rattle.graph.specs.Searching.{Found, lowest_found}
use Rattle.graph.specs.Reading.{read_verdict}
use Rattle.graph.specs.declared.Refusal.{Refusal}
use Rattle.std.specs.Prelude.{Result, Ok, Err}
use Rattle.graph.proofs.Refusals.{passed_passes, number_lt}
use Rattle.graph.proofs.Judging.{refused_first, passed_first}
use Rattle.seats.specs.Seats.{State}
use Rattle.seats.specs.Calls.{refused, seat_role_checks}
use Rattle.seats.specs.Reading.{state_of, read_refusal}
use Rattle.seats.proofs.JudgedCalls.{refused_call, passed_call}
use Rattle.sittings.specs.Sittings.{Sitting, excluded, is_active, reaches, covered, in_use, together, clashing}
use Rattle.sittings.specs.Calls.{Call, exclude, activate, deactivate, pair_together, role_pair_checks, checks, after, reply, perform}
use Rattle.sittings.specs.Reading.{sitting_of}
use Rattle.sittings.specs.Working.{joined_at}
use Rattle.sittings.proofs.Settling.{performs}

-- ---- the checks in two parts
-- The checks of a call: those on what it names, and those behind them.
pub record Parts (z : Sitting) (c : Call) : Type 0 where
  pub named : List Check
  pub late : List Check
  pub split : checks z c (after z c) ≡ named ++ late

module _ {z : Sitting} {c : Call} (p : Parts z c) {v : Result (Unit {0}) Refusal} (e : read_verdict v ≡ verdict p.named) where
  -- What the first ones refuse is refused.
  pub first_refuses : {r : Refusal} → v ≡ Err r → (read_refusal r, z) ≡ perform z c
  unfolding read_verdict
  first_refuses d =
      sym (refused_call checks after reply perform performs z c (ap verdict p.split ∙ sym (refused_first p.named p.late e d)))

  -- Where they pass, those behind them decide.
  module _ (d : v ≡ Ok tt) where
    pub later_refuses : {n q : ℕ} → verdict p.late ≡ refusing.refused n q → (refused n q, z) ≡ perform z c
    later_refuses f =
        sym (refused_call checks after reply perform performs z c (ap verdict p.split ∙ passed_first p.named p.late e d ∙ f))

    pub none_refuses : verdict p.late ≡ passed → (reply z c, after z c) ≡ perform z c
    none_refuses f =
        sym (passed_call checks after reply perform performs z c (ap verdict p.split ∙ passed_first p.named p.late e d ∙ f))

module _ (z : Sitting) (a b : ℕ) where
  -- Kind 13.
  abbrev pub exclude_late : List Check
  exclude_late = refuse 22 (excluded z a b) a ∷ pair_together (after z (exclude a b)) ∷ []

  pub exclude_split : checks z (exclude a b) (after z (exclude a b)) ≡ role_pair_checks z.state.graph a b ++ exclude_late
  unfolding checks
  exclude_split = refl

  abbrev pub exclude_parts : Parts z (exclude a b)
  exclude_parts = record { named = role_pair_checks z.state.graph a b; late = exclude_late; split = exclude_split }

  -- Kind 14.
  abbrev pub activate_late : List Check
  activate_late =
      refuse 22 (is_active z a b) a ∷ refuse 34 (not (covered z.state a b)) a ∷ pair_together (after z (activate a b)) ∷ []

  pub activate_split : checks z (activate a b) (after z (activate a b)) ≡ seat_role_checks z.state.graph a b ++ activate_late
  unfolding checks
  activate_split = refl

  abbrev pub activate_parts : Parts z (activate a b)
  activate_parts = record { named = seat_role_checks z.state.graph a b; late = activate_late; split = activate_split }

  -- Kind 15.
  abbrev pub deactivate_late : List Check
  deactivate_late = refuse 23 (not (is_active z a b)) a ∷ []

  pub deactivate_split : checks z (deactivate a b) (after z (deactivate a b)) ≡ seat_role_checks z.state.graph a b ++ deactivate_late
  unfolding checks
  deactivate_split = refl

  abbrev pub deactivate_parts : Parts z (deactivate a b)
  deactivate_parts = record { named = seat_role_checks z.state.graph a b; late = deactivate_late; split = deactivate_split }

-- Two roles that kind 13 does not refuse have their numbers.
pub pair_numbers : (g : Graph) (a b : ℕ) → verdict (role_pair_checks g a b) ≡ passed → max a b < role_count
unfolding Passes
pair_numbers g a b e =
    let (x, (y, _)) = passed_passes (role_pair_checks g a b) e in
    let k = number_lt role_count a x in
    let l = number_lt role_count b y in
    omega arith

-- ---- what is offered and stored
-- What is found among the pairs and the active roles with what is offered.
pub clash_found : (h : State) {P Q A B : List ℕ} {x : Found} → x ≡ lowest_found role_count (clashing (sitting_of h P A)) → P ≡ Q → A ≡ B → x ≡ lowest_found role_count (clashing (sitting_of h Q B))
clash_found h e p a = e ∙ ap₂ (λ (P A : List ℕ). lowest_found role_count (clashing (sitting_of h P A))) p a

-- What a search for a pair that is together finds does not depend on the conflicts and the seats' roles.
pub clash_alike : (roles : ℕ) (sets C W D V : List ℕ) {P Q A B : List ℕ} {x : Found}
    → x ≡ lowest_found role_count (clashing (sitting_of (state_of roles sets D V) P A)) → P ≡ Q → A ≡ B
    → x ≡ lowest_found role_count (clashing (sitting_of (state_of roles sets C W) Q B))
unfolding clashing together in_use reaches at_or_below below present ordinary effective
clash_alike roles sets C W D V e p a =
    e ∙ ap₂ (λ (P A : List ℕ). lowest_found role_count (clashing (sitting_of (state_of roles sets C W) P A))) p a

-- Member b put into entry a, as the code has the two numbers.
module _ (l : List ℕ) {a b : ℕ} (h : b < role_count) {n q : ℕ} (p : n ≡ a) (d : q ≡ b) where
  -- The member as a set.
  alone : when (ltb q role_count) (single q) ≡ single b
  unfolding when
  alone = rw (d, lt-ltb b role_count h)

  -- Offered to a search.
  pub put_offered : {s : ℕ} → s ≡ when (ltb q role_count) (single q) → joined_at l n s ≡ put l a b
  unfolding joined_at put
  put_offered e = ap₂ (λ (i s : ℕ). set l i (union (at l i) s)) p (e ∙ alone)

  -- Stored with the entry.
  pub put_stored : {s one t : ℕ} → s ≡ at l n → one ≡ when (ltb q role_count) (single q) → t ≡ union s one → set l n t ≡ put l a b
  unfolding put
  put_stored f o e = ap₂ (set l) p (e ∙ ap₂ union (f ∙ ap (at l) p) (o ∙ alone))
