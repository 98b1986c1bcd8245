-- What precedes an image is not read: a load of bytes whose trailer's distance lies within them is the same behind any bytes, refused or not.
-- Assumes nothing.
use mathlib.Core.Path.{◌≡◌, refl, sym, ap, ◌∙◌}
use mathlib.Core.List.{List, [], ◌++◌}
use Prim.Native.Nat.{ℕ, ◌+◌, ◌-◌, ◌*◌, ◌^◌, ◌<◌, ◌≤◌}
use native.Mathlib.Nat.{add-zero}
use native.Mathlib.Omega.{arith}
use lib.ListN.{length, take, drop, length-append, length-drop}
use lib.Seq.{drop_at, take_all}
use borrow.Author.Tests.{le-ltb, le-leb}
use Rattle.seats.specs.Bytes.{number_at}
use Rattle.seats.specs.Images.{trailer_length, least_image, Counts, distance, trailer, entries_at, far_at, counts_at, contents, load_trailer, load}
use Rattle.seats.proofs.Numbers.{number_drop, number_behind}
use Rattle.seats.proofs.EntryBytes.{entries_drop}
use Rattle.seats.proofs.ImageLength.{length-trailer}

-- The contents in what is left behind place i stand as much further in all bytes.
contents_drop : (i j : ℕ) (n : Counts) (l : List ℕ) → contents (drop i l) j n ≡ contents l (i + j) n
unfolding contents
contents_drop i j n l =
    let t = number_drop 8 i j l in
    let r = entries_further 8 i (j + 8) n.roles (i + j + 8) l (omega arith) in
    let c = entries_further 1 i (j + 8 + 9 * n.roles) n.conflicts (i + j + 8 + 9 * n.roles) l (omega arith) in
    let s = entries_further 8 i (j + 8 + 9 * n.roles + 2 * n.conflicts) n.seats (i + j + 8 + 9 * n.roles + 2 * n.conflicts) l (omega arith) in
    λ d. record { top = t d; roles = r d; conflicts = c d; seats = s d }
  where
    entries_further : (w i j c k : ℕ) (l : List ℕ) → k ≡ i + j → entries_at w j c (drop i l) ≡ entries_at w k c l
    entries_further w i j c k l e = entries_drop w i j c l ∙ ap (λ (k : ℕ). entries_at w k c l) (sym e)

-- A slice from place i on begins with the contents there.
pub contents_sliced : (l : List ℕ) (i : ℕ) (n : Counts) → contents (take (length l - i) (drop i l)) 0 n ≡ contents l i n
contents_sliced l i n = rw (take_all (length l - i) (drop i l) (omega (arith, length-drop i l))) (contents_drop i 0 n l ∙ ap (λ (k : ℕ). contents l k n) (add-zero i))

module _ (p l : List ℕ) where
  -- A number at a place of the bytes stands as much further behind others.
  number_further : (n i : ℕ) → number_at n (length p + i) (p ++ l) ≡ number_at n i l
  number_further n i = sym (number_drop n (length p) i (p ++ l)) ∙ ap (number_at n i) (drop_at p l (length p) refl)

  -- So does a number that is found from the end.
  number_from_end : (n k : ℕ) → k ≤ length l → number_at n (length (p ++ l) - k) (p ++ l) ≡ number_at n (length l - k) l
  number_from_end n k h =
      let q : length (p ++ l) - k ≡ length p + (length l - k) = omega (arith, length-append p l) in
      ap (λ (i : ℕ). number_at n i (p ++ l)) q ∙ number_further n (length l - k)

  contents_further : (i : ℕ) (n : Counts) → contents (p ++ l) (length p + i) n ≡ contents l i n
  contents_further i n = sym (contents_drop (length p) i n (p ++ l)) ∙ ap (λ (m : List ℕ). contents m i n) (drop_at p l (length p) refl)

  module _ (h : trailer_length ≤ length l) where
    pub far_alone : far_at (p ++ l) (length (p ++ l)) ≡ far_at l (length l)
    unfolding far_at
    far_alone = number_from_end 4 trailer_length h

    pub counts_alone : counts_at (p ++ l) (length (p ++ l)) ≡ counts_at l (length l)
    unfolding counts_at
    counts_alone =
        let r = number_from_end 1 4 (omega arith) in
        let s = number_from_end 1 3 (omega arith) in
        let c = number_from_end 2 2 (omega arith) in
        λ d. record { roles = r d; seats = s d; conflicts = c d }

  -- Loading reads nothing before the image.
  pub load_alone : least_image ≤ length l → far_at l (length l) ≤ length l → load (p ++ l) ≡ load l
  unfolding load load_trailer
  load_alone h k =
      let far = far_at l (length l) in
      let e = length-append p l in
      let q : length (p ++ l) - far ≡ length p + (length l - far) = omega arith in
      rw (
        le-ltb (length (p ++ l)) least_image (omega arith),
        le-ltb (length l) least_image h,
        far_alone (omega arith),
        counts_alone (omega arith),
        le-leb far (length (p ++ l)) (omega arith),
        le-leb far (length l) k,
        q,
        contents_further (length l - far) (counts_at l (length l)),
      )

-- A trailer is read as the distance that it was written with.
pub trailer-distance : (n : Counts) → distance n < 256 ^ 4 → far_at (trailer n) (length (trailer n)) ≡ distance n
unfolding far_at trailer
trailer-distance n h = ap (λ (k : ℕ). number_at 4 (k - trailer_length) (trailer n)) (length-trailer n) ∙ number_behind 4 (distance n) 0 [] _ refl h
