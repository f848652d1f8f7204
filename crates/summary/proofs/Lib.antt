pub mod Fields
pub mod Totals
pub mod Widths
