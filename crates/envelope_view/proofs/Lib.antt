mod PartLemmas
mod LineLemmas
mod FieldLemmas
mod SliceLemmas
mod WrittenLemmas
mod Examples
