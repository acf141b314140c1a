pub mod ItemLaws
pub mod ListBounds
pub mod ConfigLaws
pub mod BufferLaws
pub mod TakeLaws
pub mod Fates
pub mod OnLaws
pub mod WholeLaws
