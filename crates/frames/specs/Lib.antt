pub mod Items
pub mod Configs
pub mod Buffer
pub mod Whole
pub mod Kinds
