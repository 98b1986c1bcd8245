-- `seats::loading::read_image` meets its contract: the trailer is tested, and then the contents decide.
-- Assumes nothing.
use mathlib.Core.Path.{sym, ap, ◌∙◌}
use Prim.Native.Nat.{◌-◌}
use lib.ListN.{length}
use Rattle.seats.specs.Images.{Contents, image_verdict, load_contents}
use Rattle.seats.specs.Reading.{read_counts, read_image}
use Rattle.seats.proofs.ImageAlone.{contents_sliced}
use Rattle.seats.proofs.LoadChecks.{too_few_bytes, other_distance, beyond_bytes, contents_decide, read_refused}
use Rattle.seats.proofs.loading.read_image.Goals as goal
use Rattle.seats.proofs.loading.read_image.Goals.{then-far-distance-via-then-far-distance, then-far-distance-via-else-far-distance+then-end-far}

pub returns-then-end-lt-LEAST : goal.returns-then-end-lt-LEAST
unfolding read_image
returns-then-end-lt-LEAST c =
    rw c.unplaced.ensures (read_refused _ 6 (too_few_bytes _ c.if-end-lt-LEAST.true))

pub returns-then-far-distance : goal.returns-then-far-distance
unfolding read_image
returns-then-far-distance c =
    let e = c.unplaced-then-far-distance.ensures in
    rw e (read_refused _ 6 (elim c.then-far-distance.branch [
      | then-far-distance-via-then-far-distance w ↦ other_distance _ c.if-end-lt-LEAST.false c.far_back-far.ensures c.counts_at_end-counts.ensures.0 (λ e. w.if-far-distance.true (e ∙ sym c.distance.ensures.0))
      | then-far-distance-via-else-far-distance+then-end-far w ↦ beyond_bytes _ c.if-end-lt-LEAST.false c.far_back-far.ensures c.counts_at_end-counts.ensures.0 (w.if-far-distance.false ∙ c.distance.ensures.0) w.if-end-far.true
    ]))

pub returns : goal.returns
returns c =
    c.read_state.ensures
    ∙ ap (λ (d : Contents). image_verdict (load_contents d)) (contents_sliced c.args.bytes.now (length c.args.bytes.now - c.far_back-far.result) (read_counts c.counts_at_end-counts.result))
    ∙ ap image_verdict (sym (contents_decide _ c.if-end-lt-LEAST.false c.far_back-far.ensures c.counts_at_end-counts.ensures.0 (c.if-far-distance.false ∙ c.distance.ensures.0) c.if-end-far.false))
