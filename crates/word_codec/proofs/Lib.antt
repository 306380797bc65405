pub mod ScanLemmas
pub mod Utf8Lemmas
pub mod CharsetLemmas
pub mod SpellLemmas
pub mod ContentLemmas
pub mod CutLemmas
pub mod ValueLemmas
