pub mod Firsts
pub mod AttributeRanks
pub mod Formulas
pub mod steps
