-- What the demands say of tapes and their parts: each record of a tape is answered; and a part is left uncounted, is refused for its lines, or has its lines written.
-- Assumes nothing.
use mathlib.Core.Path.{◌≡◌, refl, sym, ap, ◌∙◌, subst}
use mathlib.Core.Logic.{◌↔◌}
use mathlib.Core.List.{List, ◌++◌}
use Prim.Native.Nat.{ℕ, ◌+◌, ◌^◌, ◌<◌, ◌≤◌}
use native.Mathlib.Omega.{arith}
use lib.ListN.{length, drop}
use Rattle.lists.proofs.Runs.{answers_length}
use Rattle.graph.specs.Reading.{sets_in}
use Rattle.seats.specs.Bytes.{Filled, written, too_short}
use Rattle.seats.specs.Tape.{records, PartAnswer, fills, uncounted, feed, joined}
use Rattle.seats.specs.Demands.{One}
use Rattle.seats.specs.Reading.{read_part}
use Rattle.seats.specs.declared.State.{State}
use Rattle.seats.proofs.OneOutcome.{ToldFilled, room_reasoned, one, ToldPart, write_part, part_written}
use Rattle.seats.proofs.PartOutcomes.{Feeds, not_counted, too_long, fed_whole, feeds, records-joined}
use Rattle.seats.proofs.SaveOutcomes.{no_written, same_short}
use Rattle.sittings.specs.Sittings as sittings
use Rattle.sittings.specs.Records.{step}
use Rattle.sittings.specs.Lists.{answers, end}
use Rattle.sittings.specs.Promises.{FeedPromise}
use Rattle.sittings.specs.Demands.{read_part_left, part_lines, Undone}
use Rattle.sittings.specs.Reading.{read_sitting, read_fed}
use Rattle.sittings.specs.declared.Sitting.{Sitting}
use Rattle.sittings.specs.declared.Fed.{Fed}

-- The answer, the buffer left, the records so far and the sitting after them.
abbrev Result : Type 0
Result = (PartAnswer × List ℕ) × (ℕ × sittings.Sitting)

-- ---- everything is answered
-- What feeding a part gives, as the code holds it.
write_fed : (y : Result) → ToldPart y.0.0 → Fed × List ℕ
write_fed ((a, left), (n, z)) t =
    let g = z.state.graph in
    let s : State = record { roles = g.roles; sets = g.sets; conflicts = g.conflicts; seats = z.state.seats } in
    (record { answer = write_part a t; count = n; sitting = record { state = s; pairs = z.pairs; active = z.active } }, left)

-- A part that is refused is refused with 9.
fed_told : {z : sittings.Sitting} {count : ℕ} {part buffer : List ℕ} {y : Result} → Feeds step z count part buffer y → ToldPart y.0.0
unfolding ToldPart ToldFilled
fed_told f = elim f [
  | not_counted _ q ↦ subst (λ (x : Result). ToldPart x.0.0) (sym q) tt
  | too_long _ _ q ↦ subst (λ (x : Result). ToldPart x.0.0) (sym q) (room_reasoned 9 refl)
  | fed_whole _ _ q ↦ subst (λ (x : Result). ToldPart x.0.0) (sym q) tt
]

pub part_answered : (z : Sitting) (count : ℕ) (part buffer : List ℕ) → One read_part_left (λ x. FeedPromise z count part buffer x.0 x.1)
unfolding write_fed sets_in
part_answered z count part buffer =
    let y = feed step (read_sitting z) count part buffer in
    let t = fed_told (feeds step (read_sitting z) count part buffer y refl) in
    one read_part_left (write_fed y t) (ap (λ (a : PartAnswer). ((a, y.0.1), y.1)) (part_written y.0.0 t))

pub tape_answered : (z : sittings.Sitting) (tape : List ℕ) → (joined (records tape) ≡ tape) × (length (answers z (records tape)) ≡ length (records tape))
unfolding answers
tape_answered z tape = (records-joined tape, answers_length step z (records tape))

-- ---- by the promise
no_text : {f : Filled} → uncounted ≡ fills f → ⊥
no_text e = let z : ◌≡◌ {A = ℕ} 0 1 = cc in omega arith

same_fill : {f g : Filled} → fills f ≡ fills g → f ≡ g
same_fill e = cc

module _ (z : Sitting) (count : ℕ) (part buffer left : List ℕ) (f : Fed) where
  fed_so : FeedPromise z count part buffer f left → Feeds step (read_sitting z) count part buffer (read_fed f left)
  fed_so e = feeds step (read_sitting z) count part buffer (read_fed f left) e

  -- What a result that is known says of the answer, and of what is not done.
  told : {x : Result} → read_fed f left ≡ x → read_part f.answer ≡ x.0.0
  told q = ap (λ (x : Result). x.0.0) q

  undone : {a : PartAnswer} → read_fed f left ≡ ((a, buffer), (count, read_sitting z)) → Undone z count buffer f left
  undone q = (
    ap (λ (x : Result). x.0.1) q,
    ap (λ (x : Result). x.1.0) q,
    ap (λ (x : Result). x.1.1) q,
  )

  pub part_refused : (n p : ℕ) → FeedPromise z count part buffer f left → read_part f.answer ≡ fills (too_short n p) → (n ≡ 9) × (p ≡ 0) × Undone z count buffer f left
  part_refused n p e r = elim (fed_so e) [
    | not_counted _ q ↦ absurd (no_text (sym (told q) ∙ r))
    | too_long _ _ q ↦ (let (x, y) = same_short (same_fill (sym (told q) ∙ r)) in (sym x, sym y, undone q))
    | fed_whole _ _ q ↦ absurd (no_written (same_fill (sym (told q) ∙ r)))
  ]

  pub part_uncounted : FeedPromise z count part buffer f left → read_part f.answer ≡ uncounted → Undone z count buffer f left
  part_uncounted e r = elim (fed_so e) [
    | not_counted _ q ↦ undone q
    | too_long _ _ q ↦ absurd (no_text (sym r ∙ told q))
    | fed_whole _ _ q ↦ absurd (no_text (sym r ∙ told q))
  ]

  pub part_refused_iff : (n p : ℕ) → FeedPromise z count part buffer f left → (read_part f.answer ≡ fills (too_short n p))
      ↔ ((n ≡ 9) × (p ≡ 0) × (count + length (records part) < 2 ^ 64) × (length buffer < length (part_lines (read_sitting z) count part)))
  unfolding answers
  part_refused_iff n p e = elim (fed_so e) [
    | not_counted h q ↦ (λ r. absurd (no_text (sym (told q) ∙ r)), λ (_, _, l, _). absurd (omega arith))
    | too_long l k q ↦ (λ r. let (x, y) = same_short (same_fill (sym (told q) ∙ r)) in (sym x, sym y, l, k), λ (x, y, _, _). told q ∙ rw (x, y))
    | fed_whole _ h q ↦ (λ r. absurd (no_written (same_fill (sym (told q) ∙ r))), λ (_, _, _, k). absurd (omega arith))
  ]

  pub part_uncounted_iff : FeedPromise z count part buffer f left → (read_part f.answer ≡ uncounted) ↔ (2 ^ 64 ≤ count + length (records part))
  part_uncounted_iff e = elim (fed_so e) [
    | not_counted h q ↦ (λ _. h, λ _. told q)
    | too_long l _ q ↦ (λ r. absurd (no_text (sym r ∙ told q)), λ h. absurd (omega arith))
    | fed_whole l _ q ↦ (λ r. absurd (no_text (sym r ∙ told q)), λ h. absurd (omega arith))
  ]

  pub part_accepted : FeedPromise z count part buffer f left → count + length (records part) < 2 ^ 64 → length (part_lines (read_sitting z) count part) ≤ length buffer
      → let text = part_lines (read_sitting z) count part in
      (read_part f.answer ≡ fills (written (length text))) × (left ≡ text ++ drop (length text) buffer)
      × (f.count ≡ count + length (records part)) × (read_sitting f.sitting ≡ end (read_sitting z) (records part))
  unfolding answers end
  part_accepted e l h = elim (fed_so e) [
    | not_counted k _ ↦ absurd (omega arith)
    | too_long _ k _ ↦ absurd (omega arith)
    | fed_whole _ _ q ↦ (
      told q,
      ap (λ (x : Result). x.0.1) q,
      ap (λ (x : Result). x.1.0) q,
      ap (λ (x : Result). x.1.1) q,
    )
  ]
