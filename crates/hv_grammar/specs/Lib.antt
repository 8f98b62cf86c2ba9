pub mod First
pub mod Forms
pub mod Kinds
pub mod Said
pub mod Texts
pub mod Within
