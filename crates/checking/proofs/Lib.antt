pub mod Answering
pub mod Once
pub mod Texts
pub mod Oneness
