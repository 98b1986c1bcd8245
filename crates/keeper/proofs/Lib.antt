-- ---- a block of words
pub mod Shown
pub mod LaidTables
pub mod BlockWords
pub mod BlockStates
-- ---- answers as numbers
pub mod CodedAnswer
pub mod SaveCode
-- ---- asks
pub mod Asking
-- ---- the demands on blocks
pub mod BlockLists
-- ---- the demands on importing
pub mod ImportNumber
