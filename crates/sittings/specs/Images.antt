-- Document 02, Item 3: images say nothing of pairs and active roles, and a load clears them.
use Rattle.std.specs.Prelude.{List, ℕ}
use Rattle.seats.specs.Calls.{Answer, accepted, refused}
use Rattle.seats.specs.Images.{Loaded, loaded, not_loaded, load}
use Rattle.sittings.specs.Sittings.{Sitting, begun}

-- The answer to a load and the sitting it leaves; a refused load keeps the sitting at hand.
unfoldable pub settle_load : Sitting → Loaded → Answer × Sitting
settle_load z (loaded h) = (accepted, begun h)
settle_load z (not_loaded n p) = (refused n p, z)

-- Loading with a sitting at hand.
unfoldable pub load_over : Sitting → List ℕ → Answer × Sitting
load_over z l = settle_load z (load l)
