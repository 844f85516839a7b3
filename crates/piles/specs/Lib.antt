pub mod Joins
pub mod JoinLaws
pub mod Windows
pub mod WindowLaws
