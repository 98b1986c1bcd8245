-- Columns read one after the other, and the heading: one law for each way out.
-- Assumes nothing.
use mathlib.Core.Bool.{true, false, cond}
use mathlib.Core.List.{List, [], ◌∷◌, ◌++◌, append_assoc, append-nil}
use mathlib.Core.Path.{◌≡◌, refl, sym, ap, ◌∙◌}
use Prim.Native.Nat.{ℕ, suc, ◌+◌, ◌-◌, ◌≤◌, ◌<◌}
use native.Mathlib.Numerals.{add-one}
use native.Mathlib.Omega.{arith}
use lib.ListN.{length, take, drop, set, length-set}
use lib.Seq.{take-suc-set}
use lib.Dec.{eqb}
use borrow.Author.Tests.{eqb-true, eqb-false}
use Rattle.graph.specs.Graph.{privilege_count}
use Rattle.sheets.specs.Rfc.{comma}
use Rattle.sheets.specs.Parsing.{Read, got, bad, and_then, head, field, ended, fronted, columns, opened, at_end, heading}
use Rattle.sheets.proofs.FieldLaws.{begins, begins-head}
use Rattle.sheets.proofs.NumberReading.{field_sound}
use Rattle.sheets.proofs.HeadingReading.{columns_bad, columns_low, columns_next, columns_end}

-- ---- what was read before
-- What was read, behind columns that were read before.
unfoldable pub prefixed : List ℕ → Read (List ℕ) → Read (List ℕ)
prefixed p bad = bad
prefixed p (got l t) = got (p ++ l) t

prefixed_none : (r : Read (List ℕ)) → r ≡ prefixed [] r
unfolding prefixed
prefixed_none bad = refl
prefixed_none (got l t) = refl

prefixed_next : (p : List ℕ) (n : ℕ) (r : Read (List ℕ)) → prefixed p (fronted n r) ≡ prefixed (p ++ (n ∷ [])) r
unfolding prefixed fronted
prefixed_next p n bad = refl
prefixed_next p n (got l t) = ap (λ (m : List ℕ). got m t) (sym (append_assoc p (n ∷ []) l))

-- ---- columns
-- The columns so far stand in the array, and with those that are left they make the whole.
pub record Gathering (s array : List ℕ) (count low : ℕ) (t : List ℕ) : Type 0 where
  pub room : length array ≡ privilege_count
  pub below : count ≤ low
  pub top : low ≤ privilege_count
  pub same : columns privilege_count 0 s ≡ prefixed (take count array) (columns (privilege_count - count) low t)

pub gathering_start : (s array : List ℕ) → length array ≡ privilege_count → Gathering s array 0 0 s
gathering_start s array h = record { room = h; below = omega arith; top = omega arith; same = prefixed_none (columns privilege_count 0 s) }

module _ {s array : List ℕ} {count low : ℕ} {t : List ℕ} (g : Gathering s array count low t) where
  module _ (c : begins comma t ≡ true) {u : List ℕ} (i : u ≡ drop 1 t) where
    at_comma : head t ≡ comma
    at_comma = eqb-true (head t) comma (sym (begins-head comma t (omega arith)) ∙ c)

    pub gathering_no : bad ≡ field privilege_count u → bad ≡ columns privilege_count 0 s
    unfolding prefixed
    gathering_no e = sym (g.same ∙ rw (columns_bad low t at_comma (privilege_count - count) (ap (field privilege_count) (sym i) ∙ sym e)))

    module _ {n : ℕ} {v : List ℕ} (e : got n v ≡ field privilege_count u) where
      found : field privilege_count (drop 1 t) ≡ got n v
      found = ap (field privilege_count) (sym i) ∙ sym e

      pub gathering_low : n < low → bad ≡ columns privilege_count 0 s
      unfolding prefixed
      gathering_low z = sym (g.same ∙ rw (columns_low low t at_comma (privilege_count - count) found z))

      -- A column that is read is a privilege, so that there is room for it.
      pub gathering_lt : n < privilege_count
      gathering_lt = (field_sound privilege_count (drop 1 t) found).2

      pub gathering_next : low ≤ n → Gathering s (set array count n) (count + 1) (n + 1) v
      gathering_next z =
          let l = gathering_lt in
          let b = g.below in
          let o = g.room in
          let a : privilege_count - count ≡ suc (privilege_count - (count + 1)) = omega arith in
          record {
            room = length-set array count n ∙ g.room;
            below = omega arith;
            top = omega arith;
            same =
                g.same
                ∙ rw (a, columns_next low t at_comma (privilege_count - (count + 1)) found z, add-one count, take-suc-set array count n (omega arith), add-one n)
                (rw (← add-one count) (prefixed_next (take count array) n (columns (privilege_count - (count + 1)) (suc n) v)));
          }

  pub gathering_done : begins comma t ≡ false → got (take count array) t ≡ columns privilege_count 0 s
  unfolding prefixed
  gathering_done h =
      let p = eqb-false (head t) comma (sym (begins-head comma t (omega arith)) ∙ h) in
      sym (g.same ∙ rw (columns_end low t (privilege_count - count) p, append-nil (take count array)))

-- ---- the heading
module _ (s : List ℕ) {u : List ℕ} (o : u ≡ opened s) where
  heading_is : heading s ≡ and_then (columns privilege_count 0 u) (λ cs t. cond (eqb (length cs) 0) bad (at_end cs t))
  unfolding heading
  heading_is = rw (sym o)

  pub heading_no : bad ≡ columns privilege_count 0 u → bad ≡ heading s
  unfolding and_then
  heading_no e = rw (heading_is, sym e)

  module _ {cs t : List ℕ} (e : got cs t ≡ columns privilege_count 0 u) where
    pub heading_empty : true ≡ eqb (length cs) 0 → bad ≡ heading s
    unfolding and_then
    heading_empty z = rw (heading_is, sym e, sym z)

    module _ (z : false ≡ eqb (length cs) 0) where
      heading_end : heading s ≡ at_end cs t
      unfolding and_then
      heading_end = rw (heading_is, sym e, sym z)

      pub heading_open : bad ≡ ended t → bad ≡ heading s
      unfolding and_then at_end
      heading_open p = rw (heading_end, sym p)

      pub heading_read : {v : List ℕ} → got tt v ≡ ended t → got cs v ≡ heading s
      unfolding and_then at_end
      heading_read p = rw (heading_end, sym p)
