pub mod Records
pub mod ReadyRankedLemmas
pub mod EventRankedLemmas
