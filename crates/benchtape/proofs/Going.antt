-- How the program goes on: bytes that are answered lengthen the tape that it has read.
-- Assumes nothing.
use mathlib.Core.Bool.{true}
use mathlib.Core.List.{List, [], ◌++◌}
use mathlib.Core.Path.{◌≡◌, refl, sym, ap, ◌∙◌}
use Prim.Native.Nat.{ℕ, ◌+◌, ◌≤◌}
use native.Mathlib.Omega.{arith}
use lib.Dec.{eqb}
use lib.ListN.{length, take, length-append}
use borrow.Author.Tests.{eqb-true}
use Rattle.graph.specs.Graph.{present, ordinary, effective}
use Rattle.graph.specs.Drawing.{below, edge, edge_count}
use Rattle.graph.specs.Reading.{drawn}
use Rattle.graph.specs.declared.Refusal.{Refusal}
use Rattle.seats.specs.Bytes.{Filled, fill}
use Rattle.seats.specs.Tape.{records, fed, PartAnswer, feed}
use Rattle.seats.specs.Reading.{read_filled, read_part}
use Rattle.std.specs.Prelude.{Result, Ok, Err, IfOk}
use Rattle.seats.specs.declared.FeedError.{FeedError}
use Rattle.seats.proofs.TapeRecords.{count-records, fed_none, fed_append}
use Rattle.seats.proofs.Written.{fill_written}
use Rattle.seats.proofs.Feeding.{Told, feed_told}
use Rattle.sittings.specs.Sittings.{Sitting, fresh}
use Rattle.sittings.specs.Records.{step}
use Rattle.sittings.specs.Reading.{lent, read_sitting}
use Rattle.sittings.specs.declared.LentSitting.{LentSitting}
use Rattle.sittings.specs.declared.Sitting as sitting-struct
use Rattle.benchtape.specs.Progress.{chunk_length, standing, Answered, Reached, Proceeded}
use Rattle.benchtape.specs.declared.Progress.{Progress}
use Rattle.benchtape.specs.declared.Failure.{Failure}

-- The lines that a buffer has at its front where feeding a part of a tape wrote them.
pub fed_told : {answer : Result ℕ FeedError} {n : ℕ} → answer ≡ Ok n → (s : Sitting) (count : ℕ) (bytes buffer : List ℕ) {m : List ℕ} {z : ℕ × Sitting}
    → ◌≡◌ {A = (PartAnswer × List ℕ) × (ℕ × Sitting)} ((read_part answer, m), z) (feed step s count bytes buffer) → Told step s count bytes n m z
unfolding read_part
fed_told w s count bytes buffer {m} {z} e = feed_told step s count bytes buffer (ap (λ (a : Result ℕ FeedError). ((read_part a, m), z)) (sym w) ∙ e)

-- The line that a buffer has at its front where bytes were written.
pub line_told : {answer : Result ℕ Refusal} {n : ℕ} → answer ≡ Ok n → (line buffer : List ℕ) {m : List ℕ} → ◌≡◌ {A = Filled × List ℕ} (read_filled answer, m) (fill 9 line buffer) → (n ≤ length m) × (take n m ≡ line)
unfolding read_filled
line_told w line buffer {m} e = fill_written 9 buffer line (ap (λ (a : Result ℕ Refusal). (read_filled a, m)) (sym w) ∙ e)

-- The edges of a sitting depend on its roles and sets alone.
pub edges_of : (z : LentSitting) {s : Sitting} → lent z ≡ s → edge_count (drawn z.state.graph) ≡ edge_count s.state.graph
unfolding edge_count edge below present ordinary effective
edges_of z e = ap (λ (s : Sitting). edge_count s.state.graph) e

-- The bytes are fed.
pub answered : {s : Progress} {bytes m : List ℕ} {n count : ℕ} {sitting : sitting-struct.Sitting}
    → Told step (read_sitting s.sitting) s.count bytes n m (count, read_sitting sitting)
    → Answered s bytes (record { sitting = sitting; count = count; more = eqb (length bytes) chunk_length })
answered t = record { done = t.rest; bound = t.bound; more = refl }

-- A fresh sitting stands where no bytes lead.
pub started : (sitting : sitting-struct.Sitting) → read_sitting sitting ≡ fresh → Reached (record { sitting = sitting; count = 0; more = true })
started sitting e = record {
  tape = [];
  stands = ap (λ (s : Sitting). (0, s)) e ∙ ap (λ (z : List ℕ × (ℕ × Sitting)). z.1) (sym (fed_none step fresh 0));
  whole = λ e. refl;
}

module _ (s r : Progress) (bytes : List ℕ) (at : Reached s) (on : s.more ≡ true) (a : Answered s bytes r) where
  lengthened : standing r ≡ (fed step fresh 0 (at.tape ++ bytes)).1
  lengthened =
      a.done
      ∙ ap (λ (z : ℕ × Sitting). (fed step z.1 z.0 bytes).1) at.stands
      ∙ sym (ap (λ (z : List ℕ × (ℕ × Sitting)). z.1) (fed_append step fresh 0 at.tape bytes (at.whole on)))

  full : r.more ≡ true → length bytes ≡ chunk_length
  full m = eqb-true (length bytes) chunk_length (sym a.more ∙ m)

  counted : r.count ≡ s.count + length (records bytes)
  unfolding fed
  counted = ap (λ (z : ℕ × Sitting). z.0) a.done

  -- It stands where a longer tape leads.
  pub proceeded : Proceeded s r
  proceeded = record {
    reached = record {
      tape = at.tape ++ bytes;
      stands = lengthened;
      whole = λ m.
          let w = at.whole on in
          let f = full m in
          let l = length-append at.tape bytes in
          omega arith;
    };
    grown = λ m. let f = full m in let n = count-records bytes in let c = counted in omega arith;
    bound = λ m. a.bound;
  }

-- Where bytes are answered, so is what all come to.
pub proceeded_ok : (s : Progress) (bytes : List ℕ) → Reached s → s.more ≡ true → (r : Result Progress Failure) → IfOk r (λ q. Answered s bytes q) → IfOk r (λ q. Proceeded s q)
proceeded_ok s bytes at on (Ok r) a = proceeded s r bytes at on a
proceeded_ok s bytes at on (Err f) a = a
