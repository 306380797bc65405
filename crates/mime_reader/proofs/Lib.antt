mod Examples
pub mod SearchLemmas
pub mod TypeLemmas
pub mod ValueSizeLemmas
pub mod LineLemmas
pub mod CutLemmas
pub mod KindLemmas
pub mod ReaderLemmas
pub mod OutcomeLemmas
pub mod GoodLemmas
pub mod ArrivalLemmas
pub mod SizeLemmas
pub mod WrappingLemmas
