-- Ascending lists of entries: a list by places is one, and each is the list of its own places.
-- Assumes nothing.
use mathlib.Core.Path.{◌≡◌, refl, sym, ap, ap₂, ◌∙◌, subst}
use mathlib.Core.Bool.{Bool}
use mathlib.Core.Logic.{inl, inr}
use mathlib.Core.List.{List, [], ◌∷◌}
use Prim.Native.Nat.{ℕ, zero, suc, ◌+◌, ◌<◌, ◌≤◌}
use native.Mathlib.Decide.{ℕ_discrete, dec_le}
use native.Mathlib.Omega.{arith}
use lib.Dec.{T, eqb, leb, leb→le, le→leb}
use Rattle.sets.proofs.Tests.{either, or_left, or_right, passes, fails, decide, equal_test, test_equal}
use Rattle.seats.specs.Images.{Entry, listed_from, some, unordered}
use Rattle.seats.proofs.EntryBytes.{Each, each_map}

-- The entry of k and its value.
abbrev pub valued : (ℕ → ℕ) → ℕ → Entry
valued f k = record { key = k; value = f k }

-- ---- some entry passes
-- Where some entry passes, one passes and has what each has.
pub some-one : (f : Entry → Bool) {P : Entry → Type 0} (l : List Entry) → T (some f l) → Each P l → (e : Entry) × T (f e) × P e
unfolding some
some-one f [] t h = absurd t
some-one f (e ∷ l) t h = elim (either (f e) (some f l) t) [ inl x ↦ (e, x, h.0) | inr y ↦ some-one f l y h.1 ]

pub some-map : (f g : Entry → Bool) (l : List Entry) → Each (λ e. T (f e) → T (g e)) l → T (some f l) → T (some g l)
unfolding some
some-map f g [] h t = t
some-map f g (e ∷ l) h t =
    elim (either (f e) (some f l) t) [
      | inl x ↦ or_left (g e) (some g l) (h.0 x)
      | inr y ↦ or_right (g e) (some g l) (some-map f g l h.1 y)
    ]

pub none_each : (f : Entry → Bool) (l : List Entry) → (T (some f l) → ⊥) → Each (λ e. T (f e) → ⊥) l
unfolding some
none_each f [] h = tt
none_each f (e ∷ l) h = (λ t. h (or_left (f e) (some f l) t), none_each f l (λ t. h (or_right (f e) (some f l) t)))

pub each_none : (f : Entry → Bool) (l : List Entry) → Each (λ e. T (f e) → ⊥) l → T (some f l) → ⊥
each_none f l h t = let z = some-one f l t h in z.2 z.1

-- Each entry of a list passes what says that it is in the list.
pub each_some : (f : Entry → Entry → Bool) (l : List Entry) → ((e : Entry) → T (f e e)) → Each (λ e. T (some (f e) l)) l
unfolding some
each_some f [] h = tt
each_some f (e ∷ l) h = (or_left (f e e) (some (f e) l) (h e), each_map l (λ x t. or_right (f x e) (some (f x) l) t) (each_some f l h))

module _ (place : Entry → ℕ) where
  -- Some entry has place k.
  abbrev pub there : ℕ → List Entry → Bool
  there k l = some (λ e. eqb k (place e)) l

  -- The places ascend strictly, and none is below low.
  abbrev pub Rising : ℕ → List Entry → Type 0
  Rising low [] = Unit {0}
  Rising low (e ∷ l) = (low ≤ place e) × Rising (suc (place e)) l

  pub rising_low : (low high : ℕ) (l : List Entry) → low ≤ high → Rising high l → Rising low l
  rising_low low high [] h r = tt
  rising_low low high (e ∷ l) h r = let k = r.0 in (omega arith, r.1)

  -- No entry's place is below low.
  pub above : (low : ℕ) (l : List Entry) → Rising low l → Each (λ e. low ≤ place e) l
  above low [] r = tt
  above low (e ∷ l) r = let h = r.0 in (h, above low l (rising_low low (suc (place e)) l (omega arith) r.1))

  -- A place below the lowest is none of the list's.
  pub not_there : (k low : ℕ) (l : List Entry) → k < low → Rising low l → T (there k l) → ⊥
  not_there k low l h r = each_none (λ e. eqb k (place e)) l (each_map l (λ e p t. let q : k ≡ place e = test_equal t in omega arith) (above low l r))

  rising_from : (low : ℕ) (e : Entry) (l : List Entry) → low ≤ place e → (T (unordered place (e ∷ l)) → ⊥) → Rising low (e ∷ l)
  unfolding unordered
  rising_from low e [] h u = (h, tt)
  rising_from low e (f ∷ l) h u =
      (h, rising_from (suc (place e)) f l (later (dec_le (place f) (place e))) (λ t. u (or_right (leb (place f) (place e)) (unordered place (f ∷ l)) t)))
    where
      later : Dec (place f ≤ place e) → suc (place e) ≤ place f
      later (yes k) = absurd (u (or_left (leb (place f) (place e)) (unordered place (f ∷ l)) (le→leb (place f) (place e) k)))
      later (no d) = omega arith

  -- Entries in order rise.
  pub ordered_rising : (l : List Entry) → (T (unordered place l) → ⊥) → Rising 0 l
  ordered_rising [] u = tt
  ordered_rising (e ∷ l) u = rising_from 0 e l (omega arith) u

  pub rising_ordered : (low : ℕ) (l : List Entry) → Rising low l → T (unordered place l) → ⊥
  unfolding unordered
  rising_ordered low [] r t = t
  rising_ordered low (e ∷ []) r t = t
  rising_ordered low (e ∷ (f ∷ l)) r t =
      elim (either (leb (place f) (place e)) (unordered place (f ∷ l)) t) [
        | inl x ↦ (let k = leb→le (place f) (place e) x in let h = r.1.0 in omega arith)
        | inr y ↦ rising_ordered (suc (place e)) (f ∷ l) r.1 y
      ]

-- Where one place rises with another, a list that rises by the one rises by the other.
module _ (p q : Entry → ℕ) (P : Entry → Type 0) (with : (e f : Entry) → P e → P f → p e < p f → q e < q f) where
  rising_behind : (e : Entry) → P e → (l : List Entry) → Each P l → Rising p (suc (p e)) l → Rising q (suc (q e)) l
  rising_behind e x [] h r = tt
  rising_behind e x (f ∷ l) h r = (with e f x h.0 r.0, rising_behind f h.0 l h.1 r.1)

  pub rising_by : (l : List Entry) → Each P l → Rising p 0 l → Rising q 0 l
  rising_by [] h r = tt
  rising_by (e ∷ l) h r = (omega arith, rising_behind e h.0 l h.1 r.1)

-- ---- the entries at the places that have one
module _ (has : ℕ → Bool) (entry : ℕ → Entry) where
  listed_here : (i n : ℕ) → T (has i) → listed_from i (suc n) has entry ≡ entry i ∷ listed_from (suc i) n has entry
  unfolding listed_from
  listed_here i n t = rw (passes (has i) t)

  listed_past : (i n : ℕ) → (T (has i) → ⊥) → listed_from i (suc n) has entry ≡ listed_from (suc i) n has entry
  unfolding listed_from
  listed_past i n f = rw (fails (has i) f)

  -- Each listed entry has what the entry of each place that has one has.
  pub each_listed : (P : Entry → Type 0) (i n : ℕ) → ((k : ℕ) → k < i + n → T (has k) → P (entry k)) → Each P (listed_from i n has entry)
  unfolding listed_from
  each_listed P i zero h = tt
  each_listed P i (suc n) h =
      let r = each_listed P (suc i) n (λ k l. h k (omega arith)) in
      elim (decide (has i)) [
        | inl t ↦ subst (Each P) (sym (listed_here i n t)) (h i (omega arith) t, r)
        | inr f ↦ subst (Each P) (sym (listed_past i n f)) r
      ]

  module _ (place : Entry → ℕ) (placed : (i : ℕ) → place (entry i) ≡ i) where
    pub rising_listed : (i n : ℕ) → Rising place i (listed_from i n has entry)
    unfolding listed_from
    rising_listed i zero = tt
    rising_listed i (suc n) =
        let r = rising_listed (suc i) n in
        let q = placed i in
        elim (decide (has i)) [
          | inl t ↦ subst (Rising place i) (sym (listed_here i n t)) (omega arith, rw q r)
          | inr f ↦ subst (Rising place i) (sym (listed_past i n f)) (rising_low place i (suc i) (listed_from (suc i) n has entry) (omega arith) r)
        ]

    -- A place that has an entry is in the list.
    pub listed_there : (i n k : ℕ) → i ≤ k → k < i + n → T (has k) → T (there place k (listed_from i n has entry))
    unfolding listed_from some
    listed_there i zero k l h t = absurd (omega arith)
    listed_there i (suc n) k l h t =
        elim (ℕ_discrete k i) [
          | yes q ↦ among (listed_here i n (subst (λ (j : ℕ). T (has j)) q t)) (or_left (eqb k (place (entry i))) _ (equal_test (q ∙ sym (placed i))))
          | no d ↦ later (listed_there (suc i) n k (omega arith) (omega arith) t)
        ]
      where
        among : {m : List Entry} → listed_from i (suc n) has entry ≡ m → T (there place k m) → T (there place k (listed_from i (suc n) has entry))
        among e u = subst (λ (m : List Entry). T (there place k m)) (sym e) u

        later : T (there place k (listed_from (suc i) n has entry)) → T (there place k (listed_from i (suc n) has entry))
        later u =
            elim (decide (has i)) [
              | inl x ↦ among (listed_here i n x) (or_right (eqb k (place (entry i))) _ u)
              | inr f ↦ among (listed_past i n f) u
            ]

    -- An ascending list is what its places list.
    pub relisted : (i n : ℕ) (l : List Entry) → Rising place i l → Each (λ x. (place x < i + n) × (entry (place x) ≡ x) × T (has (place x))) l → ((k : ℕ) → i ≤ k → k < i + n → T (has k) → T (there place k l)) → listed_from i n has entry ≡ l
    unfolding listed_from some
    relisted i zero [] r h f = refl
    relisted i zero (x ∷ l) r h f = let p = r.0 in let q = h.0.0 in absurd (omega arith)
    relisted i (suc n) [] r h f = listed_past i n (f i (omega arith) (omega arith)) ∙ relisted (suc i) n [] tt tt (λ k a b. f k (omega arith) (omega arith))
    relisted i (suc n) (x ∷ l) r h f =
        let sooner : (m : List Entry) → Each (λ y. (place y < i + suc n) × (entry (place y) ≡ y) × T (has (place y))) m → Each (λ y. (place y < suc i + n) × (entry (place y) ≡ y) × T (has (place y))) m =
        λ m. each_map m (λ y p. (let z = p.0 in omega arith, p.1, p.2)) in
        elim (ℕ_discrete (place x) i) [
          | yes q ↦
              (let same : entry i ≡ x = ap entry (sym q) ∙ h.0.1 in
              listed_here i n (subst (λ (j : ℕ). T (has j)) q h.0.2)
              ∙ ap₂ (λ (y : Entry) (m : List Entry). y ∷ m) same
              (relisted (suc i) n l (rw q at r.1) (sooner l h.1) (λ k a b t. behind k (omega arith) (f k (omega arith) (omega arith) t))))
          | no d ↦
              (let p = r.0 in
              let r' : Rising place (suc i) (x ∷ l) = (omega arith, r.1) in
              listed_past i n (λ t. not_there place i (suc i) (x ∷ l) (omega arith) r' (f i (omega arith) (omega arith) t))
              ∙ relisted (suc i) n (x ∷ l) r' (sooner (x ∷ l) h) (λ k a b. f k (omega arith) (omega arith)))
        ]
      where
        behind : (k : ℕ) → place x < k → T (there place k (x ∷ l)) → T (there place k l)
        behind k b t =
            elim (either (eqb k (place x)) (there place k l) t) [
              | inl u ↦ absurd (let z : k ≡ place x = test_equal u in omega arith)
              | inr v ↦ v
            ]
