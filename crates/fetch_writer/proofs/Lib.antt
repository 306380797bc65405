mod DateLemmas
mod AskedLemmas
mod ReadingLemmas
mod SameLemmas
