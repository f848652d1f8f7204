pub mod Gains
pub mod Trails
pub mod Layers
pub mod Searches
pub mod Chains
pub mod Founds
