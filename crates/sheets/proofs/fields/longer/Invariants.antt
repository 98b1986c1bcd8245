use mathlib.Core.Path.{◌≡◌}
use Prim.Native.Nat.{◌^◌, ◌<◌}
use lib.ListN.{length}
use Rattle.sheets.specs.Parsing.{longer}
use Rattle.sheets.proofs.fields.longer.Given as goal

abbrev pub invariant-loop-d : goal.invariant-loop-d
invariant-loop-d l = record { fits : l.n < 2 ^ 8; same : longer l.limit l.first l.text ≡ longer l.limit l.n l.left }

abbrev pub decreases-loop-d : goal.decreases-loop-d
decreases-loop-d l = length l.left
