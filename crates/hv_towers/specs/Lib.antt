pub mod Laid
pub mod Tower
pub mod Same
pub mod Towers
