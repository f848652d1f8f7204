pub mod Names
pub mod NameReads
pub mod Rows
pub mod Table
