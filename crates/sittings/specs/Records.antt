-- Document 02, Item 3: refusal 1 knows kinds 13 to 15; a record of 32 bytes and the call of a sitting that it carries.
use Rattle.std.specs.Prelude.{cond, ◌&&◌, List, ℕ, get_or, length, eqb}
use Rattle.seats.specs.Bytes.{number_at}
use Rattle.seats.specs.Calls.{Answer, refused}
use Rattle.seats.specs.Records.{record_length, fields, unused}
use Rattle.seats.specs.Records as base
use Rattle.sittings.specs.Sittings.{Sitting}
use Rattle.sittings.specs.Calls.{Call, call, exclude, activate, deactivate, perform}

-- What a record decodes to.
pub data Decoded : Type 0 where
  malformed : Decoded
  well_formed : Call → Decoded

-- Kinds 13 to 15, which name a and b.
unfoldable pub own_kind : ℕ → ℕ → ℕ → Decoded
own_kind k a b =
    cond (eqb k 13) (well_formed (exclude a b))
    (cond (eqb k 14) (well_formed (activate a b))
    (cond (eqb k 15) (well_formed (deactivate a b))
    malformed))

-- A record of kinds 13 to 15 has its length, zeros in bytes 3 to 7, and no sets.
unfoldable pub own : List ℕ → Decoded
own l =
    cond (eqb (length l) record_length && (eqb (number_at 5 3 l) 0 && unused 0 (fields l)))
    (own_kind (get_or l 0 0) (fields l).a (fields l).b)
    malformed

-- A call of kinds 1 to 12 as document 01 decodes it, or one of kinds 13 to 15.
unfoldable pub decoded : base.Decoded → List ℕ → Decoded
decoded (base.well_formed c) l = well_formed (call c)
decoded base.malformed l = own l

unfoldable pub decode : List ℕ → Decoded
decode l = decoded (base.decode l) l

-- Refusal 1 at place 0 where nothing decodes; otherwise the call.
unfoldable pub perform_decoded : Sitting → Decoded → Answer × Sitting
perform_decoded z malformed = (refused 1 0, z)
perform_decoded z (well_formed c) = perform z c

-- The step: from a sitting and any bytes to an answer and a sitting.
unfoldable pub step : Sitting → List ℕ → Answer × Sitting
step z l = perform_decoded z (decode l)
