pub mod FrontLemmas
pub mod LineLemmas
pub mod PieceLemmas
pub mod BlankLemmas
pub mod CaseLemmas
pub mod DecimalLemmas
