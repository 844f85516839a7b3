pub mod Lists
pub mod Numbers
pub mod Overwrites
pub mod Parts
pub mod Places
