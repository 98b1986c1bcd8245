-- Document 01, "The saved image", refusal 9: saving into a lent buffer.
use Rattle.std.specs.Prelude.{List, ℕ}
use Rattle.seats.specs.Bytes.{Filled, fill}
use Rattle.seats.specs.Seats.{State}
use Rattle.seats.specs.Images.{image}

-- The image at the buffer's front, nothing behind it touched, and its length; refusal 9 where the buffer is shorter.
unfoldable pub save : State → List ℕ → Filled × List ℕ
save s buffer = fill 9 (image s) buffer
