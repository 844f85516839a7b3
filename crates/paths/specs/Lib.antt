pub mod Levels
pub mod Tries
pub mod Making
pub mod Rules
pub mod RuleLaws
