pub mod Plates
pub mod PlateLaws
