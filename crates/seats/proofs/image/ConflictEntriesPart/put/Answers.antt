-- A conflict that passes is put under its lower privilege.
-- Assumes nothing.
use mathlib.Core.Path.{◌≡◌, sym, ◌∙◌, subst}
use mathlib.Core.Bool.{true, ◌&&◌}
use Prim.Native.Nat.{ℕ}
use lib.Dec.{T, ltb}
use Rattle.sets.specs.Sets.{when, single}
use Rattle.sets.proofs.Tests.{both, passes}
use Rattle.graph.specs.Graph.{privilege_count}
use Rattle.graph.specs.Tables.{put}
use Rattle.seats.specs.Images.{stored_pairs}
use Rattle.seats.proofs.image.ConflictEntriesPart.put.Goals as goal

-- The higher privilege of a conflict that passes is a privilege, so that it is put there alone.
alone : (a b : ℕ) {s : ℕ} → ltb a b && ltb b privilege_count ≡ true → s ≡ when (ltb b privilege_count) (single b) → s ≡ single b
unfolding when
alone a b t q = let h = (both (ltb a b) (ltb b privilege_count) (subst T (sym t) tt)).1 in q ∙ rw (passes (ltb b privilege_count) h)

pub returns : goal.returns
unfolding stored_pairs put
returns c present t =
    let o = alone c.args.key c.args.value t c.single-higher.ensures in
    rw (c.store.ensures, c.union.ensures, o, c.entry-row.ensures, c.from-lower.ensures)
