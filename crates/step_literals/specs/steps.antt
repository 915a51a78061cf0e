-- Steps on the way to a proof: a reader of what is promised need not believe these.
pub mod Directives
pub mod Characters
pub mod Inside
pub mod Rests
pub mod Faults
pub mod BitsLeft
pub mod DigitStrings
pub mod Digits
pub mod ItemKeyLemmas
pub mod BitListLemmas
pub mod MagnitudeLemmas
pub mod NormalFormLemmas
pub mod DecimalKeyLemmas
