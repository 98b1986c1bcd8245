-- Document 01, "Refusals that come from the input" and "Refusals that come from the state", and document 02: the number of each refusal.
use Rattle.std.specs.Prelude.{ℕ}
use Rattle.graph.specs.declared.Reason.{Reason}
use Rattle.graph.specs.declared.Reason.TheVariants.{Malformed, UnknownNumber, EndRole, PairOfOne, EdgeToItself, NoImage, BadEntry, UnsoundImage, BufferTooShort, RolePresent, RoleAbsent, AlreadySo, NotSo, RoleOfSeat, Circle, StillBelow, EmptyRole, TwinRole, PairInRole, PairInSeat, NotDirect, NotReached, ExcludedTogether}

-- The number that a refusal for this reason carries.
abbrev pub reason_number : Reason → ℕ
reason_number Malformed = 1
reason_number UnknownNumber = 2
reason_number EndRole = 3
reason_number PairOfOne = 4
reason_number EdgeToItself = 5
reason_number NoImage = 6
reason_number BadEntry = 7
reason_number UnsoundImage = 8
reason_number BufferTooShort = 9
reason_number RolePresent = 20
reason_number RoleAbsent = 21
reason_number AlreadySo = 22
reason_number NotSo = 23
reason_number RoleOfSeat = 24
reason_number Circle = 25
reason_number StillBelow = 26
reason_number EmptyRole = 27
reason_number TwinRole = 28
reason_number PairInRole = 29
reason_number PairInSeat = 30
reason_number NotDirect = 31
reason_number NotReached = 34
reason_number ExcludedTogether = 35
