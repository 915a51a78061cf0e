pub mod Rounds
pub mod RoundLaws
pub mod Firsts
pub mod Births
pub mod Numbers
pub mod NumberLaws
pub mod steps
