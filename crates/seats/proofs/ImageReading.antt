-- Reading an image that ends any bytes: the trailer and the contents are what was written.
-- Assumes nothing.
use mathlib.Core.Path.{◌≡◌, refl, ap, ◌∙◌, subst}
use mathlib.Core.List.{List, [], ◌++◌, append_assoc}
use Prim.Native.Nat.{ℕ, ◌+◌, ◌-◌, ◌*◌, ◌^◌, ◌<◌}
use native.Mathlib.Omega.{arith}
use lib.ListN.{length, length-append}
use borrow.Author.Tests.{le-ltb, le-leb, eq-eqb}
use Rattle.seats.specs.Bytes.{bytes_of}
use Rattle.seats.specs.Images.{Entry, Contents, set_bytes, role_set_bytes, privilege_bytes, entry_bytes, trailer_length, least_image, Counts, counts_of, distance, trailer, parts, entries_at, far_at, counts_at, contents, load_contents, load_trailer, load}
use Rattle.seats.specs.ImageWork.{Small}
use Rattle.seats.proofs.Numbers.{length-bytes_of, number_behind}
use Rattle.seats.proofs.EntryBytes.{Each, length-entry_bytes, entries_behind}
use Rattle.seats.proofs.ImageLength.{length-trailer, length-parts}
use Rattle.seats.proofs.ImageAlone.{far_alone, counts_alone, trailer-distance}

-- ---- the trailer
-- A trailer is read as the counts that it was written with.
trailer-counts : (n : Counts) → Small n → counts_at (trailer n) trailer_length ≡ n
unfolding counts_at trailer bytes_of distance
trailer-counts n h =
    let far = bytes_of 4 (distance n) in
    let r = number_behind 1 n.roles 4 far _ refl h.0 in
    let s = number_behind 1 n.seats 5 (far ++ bytes_of 1 n.roles) _ refl h.1 in
    let c = number_behind 2 n.conflicts 6 (far ++ (bytes_of 1 n.roles ++ bytes_of 1 n.seats)) [] refl h.2 in
    λ d. record { roles = r d; seats = s d; conflicts = c d }

-- ---- the contents
-- Counts and values that fit their widths.
pub record Fits (c : Contents) : Type 0 where
  pub counts : Small (counts_of c)
  pub top : c.top < 256 ^ set_bytes
  pub roles : Each (λ e. e.value < 256 ^ set_bytes) c.roles
  pub conflicts : Each (λ e. e.value < 256 ^ privilege_bytes) c.conflicts
  pub seats : Each (λ e. e.value < 256 ^ role_set_bytes) c.seats

module _ (before : List ℕ) (c : Contents) (h : Fits c) where
  -- The image before its trailer.
  abbrev front : List ℕ
  front = before ++ (bytes_of 8 c.top ++ (entry_bytes 8 c.roles ++ (entry_bytes 1 c.conflicts ++ entry_bytes 8 c.seats)))

  front_parts : front ++ trailer (counts_of c) ≡ before ++ parts c
  unfolding parts
  front_parts = simp append_assoc

  parts_far : far_at (before ++ parts c) (length (before ++ parts c)) ≡ distance (counts_of c)
  unfolding distance
  parts_far =
      let n = counts_of c in
      let (r, s, p) = h.counts in
      subst (λ (l : List ℕ). far_at l (length l) ≡ distance n) front_parts (far_alone front (trailer n) (omega (arith, length-trailer n)) ∙ trailer-distance n (omega arith))

  parts_counts : counts_at (before ++ parts c) (length (before ++ parts c)) ≡ counts_of c
  parts_counts =
      subst (λ (l : List ℕ). counts_at l (length l) ≡ counts_of c) front_parts
      (counts_alone front (trailer (counts_of c)) (omega (arith, length-trailer (counts_of c))) ∙ ap (counts_at (trailer (counts_of c))) (length-trailer (counts_of c)) ∙ trailer-counts (counts_of c) h.counts)

  parts_read : contents (before ++ parts c) (length before) (counts_of c) ≡ c
  unfolding parts contents
  parts_read =
      let i = length before in
      let top = bytes_of 8 c.top in
      let R = entry_bytes 8 c.roles in
      let C = entry_bytes 1 c.conflicts in
      let S = entry_bytes 8 c.seats in
      let T = trailer (counts_of c) in
      let a = length-bytes_of 8 c.top in
      let b = length-entry_bytes 8 c.roles in
      let d = length-entry_bytes 1 c.conflicts in
      let x = read 8 (i + 8) (before ++ top) c.roles (C ++ (S ++ T)) (simp length-append (omega arith)) (simp append_assoc) h.roles in
      let y = read 1 (i + 8 + 9 * length c.roles) (before ++ (top ++ R)) c.conflicts (S ++ T) (simp length-append (omega arith)) (simp append_assoc) h.conflicts in
      let z = read 8 (i + 8 + 9 * length c.roles + 2 * length c.conflicts) (before ++ (top ++ (R ++ C))) c.seats T (simp length-append (omega arith)) (simp append_assoc) h.seats in
      let v = number_behind 8 c.top i before (R ++ (C ++ (S ++ T))) refl h.top in
      λ d. record { top = v d; roles = x d; conflicts = y d; seats = z d }
    where
      read : (n i : ℕ) (p : List ℕ) (l : List Entry) (r : List ℕ) → length p ≡ i → before ++ parts c ≡ p ++ (entry_bytes n l ++ r) → Each (λ e. e.value < 256 ^ n) l → entries_at n i (length l) (before ++ parts c) ≡ l
      read n i p l r e q h = ap (entries_at n i (length l)) q ∙ entries_behind n i p l r e h

  -- Bytes that end in an image load by the contents that were written.
  pub parts_load : load (before ++ parts c) ≡ load_contents c
  unfolding load load_trailer distance
  parts_load =
      let l = before ++ parts c in
      let far = distance (counts_of c) in
      let e : length l ≡ length before + far = length-append before (parts c) ∙ ap (λ (n : ℕ). length before + n) (length-parts c) in
      let q : length l - far ≡ length before = omega arith in
      rw (le-ltb (length l) least_image (omega arith), parts_far, parts_counts, eq-eqb far far refl, le-leb far (length l) (omega arith), q) (ap load_contents parts_read)
