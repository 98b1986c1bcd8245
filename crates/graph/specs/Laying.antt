-- Drawings as the code holds them.
use Rattle.graph.specs.Drawing.{Drawing}
use Rattle.graph.specs.Reading.{sets_in}
use Rattle.graph.specs.Working.{Holds}
use Rattle.graph.specs.declared.editing.Laid.{Laid}

-- The tables hold the drawing.
abbrev pub Lies : Drawing → Laid → Type 0
Lies d l = Holds d l.roles (sets_in l.directs) l.juniors
