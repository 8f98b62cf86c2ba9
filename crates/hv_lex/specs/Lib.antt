pub mod Lexed
pub mod Lines
pub mod Numbers
pub mod Refusing
pub mod Tokens
