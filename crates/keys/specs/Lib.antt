pub mod Hashes
pub mod Codes
pub mod Sheets
pub mod Laws
pub mod Refusal
pub mod SheetLaws
pub mod CodeLaws
