-- ---- one call, and its invariants
pub mod Settling
pub mod Beside
pub mod Reaches
pub mod StillActive
pub mod WithoutRole
pub mod CallInvariant
pub mod RecordInvariant
-- ---- lists, and the demands
pub mod History
pub mod Projection
pub mod Question
pub mod ListTheorem
pub mod KeeperTheorem
pub mod LoadOver
pub mod RecordVerdict
pub mod PartDemands
pub mod Demands
-- ---- tables and loops over them
pub mod JoinedTables
pub mod FilledTables
-- ---- what roles reach, and what excludes
pub mod Reached
pub mod ReachedPrivileges
-- ---- what the code makes of a call
pub mod Choices
pub mod Independence
pub mod FollowingTables
pub mod Idle
pub mod TakenCalls
-- ---- tapes
pub mod Printed
