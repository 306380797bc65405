pub mod SearchLemmas
pub mod PlaceLemmas
pub mod ScanLemmas
pub mod UnfoldLemmas
pub mod TrimLemmas
pub mod GoodLemmas
