-- Document 01, "Layouts": frame rates and display ratios.
pub mod Ratios
