-- `seats::loading::image_length` meets its contract: what loads has the length that its trailer says.
-- Assumes nothing.
use mathlib.Core.Path.{sym, ap, ◌∙◌}
use Rattle.std.proofs.lemmas.Result.{err_from_is_err_and}
use Rattle.seats.specs.Images.{measured, measure_loaded, measure}
use Rattle.seats.specs.Reading.{read_image, read_measured}
use Rattle.seats.proofs.Numbers.{places_bytes}
use Rattle.seats.proofs.LoadFacts.{loads_long}
use Rattle.seats.proofs.LoadChecks.{loads_passed, loads_refused}
use Rattle.seats.proofs.LoadedSaves.{image_far}
use Rattle.seats.proofs.loading.image_length.Goals as goal

pub far_back-requires : goal.far_back-requires
unfolding read_image
far_back-requires c = loads_long _ _ (loads_passed _ _ c.in_ok-read_image.ensures)

pub returns-in_err-read_image : goal.returns-in_err-read_image
unfolding read_measured measure measure_loaded read_image
returns-in_err-read_image c =
    let p = err_from_is_err_and c.from_residual.result c.from_residual.ensures.1 in
    let e = loads_refused _ _ _ _ c.in_err-read_image.ensures in
    rw (p.1, p.2) (ap measure_loaded (sym e))

pub returns : goal.returns
unfolding read_measured measure measure_loaded read_image
returns c =
    let l = c.args.bytes.now in
    let e = loads_passed _ _ c.in_ok-read_image.ensures in
    ap measured (c.far_back.ensures ∙ sym (image_far l (places_bytes l (λ i. (c.type_inv.bytes i).fits)) _ e).1) ∙ ap measure_loaded (sym e)
