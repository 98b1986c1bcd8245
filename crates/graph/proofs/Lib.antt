-- ---- tables and loops over them
pub mod Tables
pub mod PrivilegeTables
pub mod Loops
pub mod Collecting
pub mod ExchangeLoops
-- ---- checks and verdicts
pub mod Refusals
pub mod Judging
-- ---- conflicts
pub mod Conflicts
-- ---- the order and what is drawn
pub mod Order
pub mod Heights
pub mod DrawnSets
pub mod DrawingCode
pub mod Searches
-- ---- closing
pub mod Gathering
pub mod Closing
pub mod Acyclic
pub mod Memo
-- ---- the edits
pub mod Placing
pub mod Edits
pub mod Holding
pub mod Closable
pub mod Attempts
pub mod Changes
pub mod Adding
-- ---- document 01's bench graph
pub mod Examples
