pub mod Ledgers
pub mod LedgerLaws
