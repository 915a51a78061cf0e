pub mod MarkLemmas
pub mod Groups
pub mod FrontLemmas
pub mod Remarks
pub mod LayoutLemmas
pub mod ReadingLemmas
pub mod Unique
pub mod Determined
pub mod Examples
pub mod RemarkFound
pub mod LayoutFound
pub mod FrontFound
pub mod Answered
mod MeaningLemmas
mod CodeLemmas
