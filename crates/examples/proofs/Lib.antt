pub mod Bench
pub mod Tape
pub mod Seats
pub mod Withdrawals
pub mod Sheets
pub mod Sittings
